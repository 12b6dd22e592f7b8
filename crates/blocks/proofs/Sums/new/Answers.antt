use Rattle.std.proofs.Common.{refl}
use Rattle.blocks.specs.Block.{check}
use Rattle.blocks.proofs.Sums.new.Goals as goal

pub returns : goal.returns
unfolding check
returns c v = refl
