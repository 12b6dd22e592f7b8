-- Each leaf is a cell's code. Assumes nothing.
use Rattle.records.proofs.Search.{proper_at}
use Rattle.moves.proofs.inner.Displacement.first_stray.Goals as goal

pub leaf_stays-requires : goal.leaf_stays-requires
leaf_stays-requires c = (c.requires.0, proper_at c.args.depth c.args.list.now c.requires.1 c.loop-i.i c.loop-i-test.true)
