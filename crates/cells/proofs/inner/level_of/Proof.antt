-- `cells::inner::level_of` meets its contract. By `leading_proper`.
-- Assumes nothing.
use Rattle.std.proofs.Common.{arith}
use Rattle.cells.proofs.Levels.{leading_proper}
use Rattle.cells.proofs.Words.{word_bits}
use Rattle.cells.proofs.inner.level_of.Statement.{statement}
use Rattle.cells.proofs.inner.level_of.Tie as tie

pub level_of_spec : {M : Type 1} → statement M
level_of_spec = tie.close (tie.spec (λ c. omega (arith, leading_proper word_bits c.args.depth c.args.code (omega (arith, c.requires.0)) c.requires.1)) (λ c. omega (arith, leading_proper word_bits c.args.depth c.args.code (omega (arith, c.requires.0)) c.requires.1)))
