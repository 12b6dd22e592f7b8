-- The three coordinates decide, put together. Assumes nothing.
use Rattle.metres.proofs.TakenLaws.{together_taken}
use Rattle.metres.proofs.inner.measured.Goals as goal

pub returns : goal.returns
returns c = rw c.joined.ensures (together_taken c.args.d c.if-s-gt-FINEST.false _ _ _ c.nearest.ensures c.nearest-2.ensures c.nearest-3.ensures)
