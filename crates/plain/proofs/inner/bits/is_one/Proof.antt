-- `plain::inner::bits::is_one` meets its contract: it is the bit's definition. Assumes nothing.
use mathlib.Core.Path.{refl}
use borrow.Author.Rules.{rules}
use Rattle.plain.specs.Bits.{bit_at}
use Rattle.plain.proofs.inner.bits.is_one.Statement.{statement}
use Rattle.plain.proofs.inner.bits.is_one.Tie as tie

returns : tie.Need-returns
unfolding bit_at
returns c = refl

pub is_one_spec : {M : Type 1} → statement M
is_one_spec = tie.close (tie.spec (λ c. search rules) (λ c. search rules) (λ c. search rules) (λ c. search rules) returns)
