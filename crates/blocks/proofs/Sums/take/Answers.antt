use Rattle.std.proofs.Common.{add-one}
use Rattle.blocks.specs.Block.{check}
use Rattle.blocks.proofs.Sums.take.Goals as goal

pub returns : goal.returns
unfolding check
returns c v n p q = rw (add-one n, ← p, ← q)
