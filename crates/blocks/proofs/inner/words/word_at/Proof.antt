-- `blocks::inner::words::word_at` meets its contract. Assumes nothing.
use Rattle.std.proofs.Common.{rules}
use Rattle.blocks.specs.Block.{word}
use Rattle.blocks.proofs.inner.words.word_at.Statement.{statement}
use Rattle.blocks.proofs.inner.words.word_at.Tie as tie

pub word_at_spec : {M : Type 1} → statement M
unfolding word
word_at_spec = tie.close (tie.spec (λ c. search rules) (λ c. search rules) (λ c. search rules) (λ c κs. search rules) (λ c. c.four_bytes.ensures))
