-- `cells::inner::pow2` meets its contract. A shift.
-- Assumes nothing.
use Rattle.std.proofs.Common.{arith, rules}
use Rattle.cells.proofs.inner.pow2.Statement.{statement}
use Rattle.cells.proofs.inner.pow2.Tie as tie
use Rattle.cells.proofs.Words.{pow2_small}

pub pow2_spec : {M : Type 1} → statement M
pow2_spec = tie.close (tie.spec (λ c. search rules) (λ c. omega (arith, pow2_small c.args.n (omega arith))))
