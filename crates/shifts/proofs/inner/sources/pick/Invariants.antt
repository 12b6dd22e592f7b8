-- The slots before q are picked.
use Rattle.std.proofs.Common.{◌≡◌}
use Rattle.records.proofs.Arrays.{Prefix}
use Rattle.shifts.specs.LabelSums.{sum_label, carry_label}
use Rattle.shifts.specs.Descent.{part_at}
use Rattle.shifts.proofs.inner.sources.pick.Given as goal

abbrev pub invariant-loop-q : goal.invariant-loop-q
invariant-loop-q l = Prefix (λ q s. s ≡ part_at l.p (carry_label l.h l.m q) (sum_label l.h l.m q)) (record { lo = 0; hi = 0 }) 8 l.r l.q
