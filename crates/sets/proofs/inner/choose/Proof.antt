-- `sets::inner::choose` meets its contract: each operation by its table. Assumes nothing.
use borrow.Author.Rules.{rules}
use Rattle.sets.proofs.inner.choose.Statement.{statement}
use Rattle.sets.proofs.inner.choose.Tie as tie

pub choose_spec : {M : Type 1} → statement M
choose_spec = tie.close (tie.spec (λ c. search rules) (λ c. search rules) (λ c. search rules) (λ c. search rules) (λ c. search rules) (λ c. search rules) (λ c. search rules) (λ c. search rules) (λ c. search rules))
