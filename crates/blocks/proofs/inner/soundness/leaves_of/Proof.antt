-- `blocks::inner::soundness::leaves_of` meets its contract. Assumes nothing.
use Rattle.std.proofs.Common.{◌≡◌, ℕ, ◌+◌, ◌-◌, ◌*◌, ◌≤◌, length, sym, ap, ◌∙◌, arith, rules}
use Rattle.blocks.specs.Block.{block_bytes, block_codes, word}
use Rattle.blocks.proofs.Sound.{codes_length, some_block, all_blocks}
use Rattle.blocks.proofs.inner.soundness.leaves_of.Statement.{statement}
use Rattle.blocks.proofs.inner.soundness.leaves_of.Tie as tie

module _ (s : tie.Start) where
  -- there is a block, and the blocks lie in the file
  within : (1 ≤ s.args.n) × (block_bytes * s.args.n ≡ length s.args.bytes.now)
  within = (omega (arith, s.requires.1, some_block _ s.requires.0), omega (arith, s.requires.1, all_blocks _ s.requires.0))

pub leaves_of_spec : {M : Type 1} → statement M
leaves_of_spec =
    tie.close
    (tie.spec
    (λ c. let start = c.before in omega (arith, within start))
    (λ c. let start = c.before in omega (arith, within start))
    (λ c. let start = c.before in omega (arith, within start))
    (λ c κs. let start = c.before in omega (arith, within start))
    (λ c. search rules)
    (λ c. let start = c.before.before in omega (arith, within start))
    (λ c.
    let start = c.before.before in
    let b = start.args.bytes.now in
    ap (λ (x : ℕ). block_codes * (start.args.n - 1) + x) c.word_at.ensures ∙ ap (λ (n : ℕ). block_codes * (n - 1) + word b (n - 1) 3) start.requires.1 ∙ sym (codes_length b)))
