-- The measures are 2 * k and 2 * k + 1, k the levels left. The children before child m are fed.
use Rattle.std.proofs.Common.{◌+◌, ◌*◌}
use Rattle.emit.proofs.Children.{Children}
use Rattle.shifts.specs.Shift.{shifted}
use Rattle.shifts.proofs.inner.descent.+shift_cell_shift_children.Given as goal

abbrev pub decreases-shift_cell : goal.decreases-shift_cell
decreases-shift_cell l = 2 * l.c.k

abbrev pub decreases-shift_children : goal.decreases-shift_children
decreases-shift_children l = 2 * l.c.k + 1

abbrev pub invariant-shift_children-loop-m : goal.invariant-shift_children-loop-m
invariant-shift_children-loop-m l = Children l.depth (shifted l.depth l.l l.w) l.fn.c.from l.fn.made l.span l.made l.v l.m
