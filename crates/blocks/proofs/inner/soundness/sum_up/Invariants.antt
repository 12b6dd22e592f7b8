-- The words before w are taken.
use Rattle.std.proofs.Common.{◌≡◌}
use Rattle.blocks.specs.Block.{word, check}
use Rattle.blocks.proofs.inner.soundness.sum_up.Given as goal

abbrev pub invariant-loop-w : goal.invariant-loop-w
invariant-loop-w l = l.sums ≡ check (word l.bytes l.i) l.w
