-- f has the axes of the labels passed, and the others are left.
use Rattle.std.proofs.Common.{◌≡◌, ◌/◌, ◌^◌}
use Rattle.shifts.specs.Shift.{need}
use Rattle.shifts.proofs.inner.labels.axes.Given as goal

abbrev pub invariant-loop-n : goal.invariant-loop-n
invariant-loop-n l = record { left : l.rest ≡ l.w / 8 ^ l._n; axes : l.f ≡ need l._n l.w }
