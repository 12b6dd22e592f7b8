-- One label more. Assumes nothing.
use Rattle.std.proofs.Common.{arith, refl, ◌∙◌, add-one}
use native.Mathlib.Nat.{pow-zero, div-one}
use Rattle.shifts.specs.Shift.{need}
use Rattle.shifts.proofs.Adder.{need_lt, div_up}
use Rattle.shifts.proofs.inner.labels.axes.Goals as goal

pub loop-n-init : goal.loop-n-init
unfolding need
loop-n-init c = record { left = simp (pow-zero, div-one); axes = refl }

pub join_label-f-requires : goal.join_label-f-requires
join_label-f-requires c = (omega (arith, c.loop-n.invariant.axes, need_lt c.loop-n._n c.args.w), omega arith)

pub loop-n-preserved : goal.loop-n-preserved
unfolding need
loop-n-preserved c =
    let u = c.loop-n in
    rw (add-one u._n)
    (record {
      left = rw u.invariant.left (div_up u._n c.args.w);
      axes = c.join_label-f.ensures.0 ∙ rw (u.invariant.axes, u.invariant.left);
    })
