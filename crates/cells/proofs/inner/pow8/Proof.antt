-- `cells::inner::pow8` meets its contract: 2 ^ (3 * n) is 8 ^ n, and fits 32 bits. Assumes nothing.
use Rattle.std.proofs.Common.{arith, rules}
use Rattle.cells.proofs.Words.{word_bits, codes_fit, one_shifted}
use Rattle.cells.proofs.inner.pow8.Statement.{statement}
use Rattle.cells.proofs.inner.pow8.Tie as tie

pub pow8_spec : {M : Type 1} → statement M
pow8_spec = tie.close (tie.spec (λ c. search rules) (λ c. search rules) (λ c. one_shifted word_bits c.args.n (omega (arith, codes_fit c.args.n c.requires))))
