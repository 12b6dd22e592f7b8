-- The words before w are 0.
use Rattle.std.proofs.Common.{◌≡◌, ℕ, ◌+◌, ◌<◌, ◌≤◌, true, nat_eq}
use Rattle.blocks.specs.Block.{word}
use Rattle.blocks.proofs.inner.soundness.unused_zero.Given as goal

abbrev pub invariant-loop-w : goal.invariant-loop-w
invariant-loop-w l = (v : ℕ) → v < l.w → 4 + l.k ≤ v → nat_eq (word l.bytes l.i v) 0 ≡ true
