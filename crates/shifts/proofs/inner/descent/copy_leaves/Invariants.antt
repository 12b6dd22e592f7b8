-- The leaves before place i are copied.
use Rattle.shifts.proofs.Copying.{Copied}
use Rattle.shifts.proofs.inner.descent.copy_leaves.Given as goal

abbrev pub invariant-loop-i : goal.invariant-loop-i
invariant-loop-i l = Copied l.depth l.l l.fn.c.k l.base l.fn.c.from l.fn.s l.fn.made l.made l.i
