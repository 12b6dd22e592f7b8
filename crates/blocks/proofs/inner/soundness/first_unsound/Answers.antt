-- A file of whole blocks has a first one, and each of its blocks lies in it.
use Rattle.std.proofs.Common.{arith}
use Rattle.blocks.proofs.Sound.{whole_blocks}
use Rattle.blocks.proofs.inner.soundness.first_unsound.Goals as goal

pub word_at-depth-requires : goal.word_at-depth-requires
word_at-depth-requires c = omega (arith, whole_blocks _ c.requires.0)
