-- The blocks before i are sound.
use Rattle.std.proofs.Common.{◌≡◌, ℕ, ◌<◌, true}
use Rattle.blocks.specs.Block.{sound_at, depth_of}
use Rattle.blocks.proofs.inner.soundness.first_unsound.Given as goal

abbrev pub invariant-loop-i : goal.invariant-loop-i
invariant-loop-i l = (l.depth ≡ depth_of l.bytes) × ((j : ℕ) → j < l.i → sound_at l.bytes j ≡ true)
