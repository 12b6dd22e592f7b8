-- `cab::pack` meets its contract: a place that is too big is cut. Assumes nothing.
use borrow.Author.Rules.{rules}
use Rattle.cab.proofs.pack.Statement.{statement}
use Rattle.cab.proofs.pack.Tie as tie

pub pack_spec : {M : Type 1} → statement M
pack_spec = tie.close (tie.spec (λ c. search rules) (λ c. search rules) (λ c. search rules) (λ c. search rules) (λ c. search rules) (λ c. search rules))
