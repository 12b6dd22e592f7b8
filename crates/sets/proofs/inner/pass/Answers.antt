-- The leaf's end is reached. Assumes nothing.
use Rattle.sets.proofs.Cursors.{behind_next}
use Rattle.sets.proofs.inner.pass.Goals as goal

pub returns : goal.returns
returns c l x = c.load.ensures l _ (behind_next x.points x.reach c.if-next-c.false)
