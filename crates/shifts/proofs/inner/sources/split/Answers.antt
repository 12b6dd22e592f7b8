-- Row q is filled, or not needed. Assumes nothing.
use Rattle.std.proofs.Common.{arith, []}
use Rattle.records.proofs.Arrays.{prefix_over, prefix_more}
use Rattle.shifts.proofs.inner.sources.split.Invariants.{Parted}
use Rattle.shifts.proofs.inner.sources.split.Goals as goal
use Rattle.shifts.proofs.inner.sources.split.Goals.{then-within, else-within}

pub loop-q-preserved : goal.loop-q-preserved
loop-q-preserved c =
    let u = c.loop-q in
    let row = Parted c.args.depth c.args.l.now c.args.k c.args.f c.args.t in
    let below = c.loop-q-test.true in
    elim c.if-within.branch [
      | then-within w ↦ rw w.r-is (prefix_more row [] 8 u.r u.q _ below (λ _. w.split_slot.ensures) u.invariant)
      | else-within w ↦ rw w.r-is (prefix_over row [] 8 u.r u.q below (λ used. absurd (c.within.ensures.1 w.if-within.false used)) u.invariant)
    ]

pub returns : goal.returns
returns c S x q m h u g = c.loop-q.invariant.each q (omega (arith, c.loop-q-test.false)) u (S q) (x q h u) m g
