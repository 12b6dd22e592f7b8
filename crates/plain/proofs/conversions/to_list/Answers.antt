-- Past the tests, a pass on the empty part that counts, and one on all of the buffer that writes. Assumes nothing.
use Rattle.std.proofs.Common.{refl, inr}
use Rattle.cells.proofs.Decisions.{passes, deep_enough}
use Rattle.emit.proofs.Answers.{crowded, written}
use Rattle.plain.proofs.PlainLaws.{bits_long}
use Rattle.plain.proofs.conversions.to_list.Goals as goal

pub returns-then-out-need : goal.returns-then-out-need
returns-then-out-need c =
    let (d, b) = c.in-Some.ensures in
    inr (
      passes (deep_enough c.if-depth-gt-DEEPEST_PLAIN.false),
      inr (
        bits_long c.args.depth _ refl c.args.bits.now (rw (d, b) at c.in-Some.bits.whole),
        crowded _ _ _ (λ v h. (λ e. e, λ e. e)) (rw (d, b) at c.gather-need.ensures) refl c.if-out-need.true,
      ),
    )

pub returns : goal.returns
returns c =
    let (d, b) = c.in-Some.ensures in
    inr (
      passes (deep_enough c.if-depth-gt-DEEPEST_PLAIN.false),
      inr (
        bits_long c.args.depth _ refl c.args.bits.now (rw (d, b) at c.in-Some.bits.whole),
        written _ _ _ (λ v h. (λ e. e, λ e. e)) (rw (d, b) at c.gather-need.ensures) refl c.if-out-need.false (rw (d, b) at c.gather.ensures),
      ),
    )
