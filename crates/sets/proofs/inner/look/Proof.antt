-- `sets::inner::look` meets its contract: in the leaf, before it. Assumes nothing.
use Rattle.sets.proofs.Cursors.{steady_black, steady_white}
use Rattle.sets.proofs.inner.look.Statement.{statement}
use Rattle.sets.proofs.inner.look.Tie as tie

pub look_spec : {M : Type 1} → statement M
look_spec = tie.close (tie.spec (λ c D l h p. steady_black p h c.if-c-v.true) (λ c D l h p. steady_white p c.if-c-v.false))
