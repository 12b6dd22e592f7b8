-- `cells::inner::width` meets its contract: the shift is three times the levels below the cell. Assumes nothing.
use Rattle.std.proofs.Common.{◌≡◌, ℕ, ◌+◌, ◌-◌, ◌*◌, ◌%◌, ◌^◌, ◌≤◌, true, ap, ◌∙◌, arith, rules}
use lib.Count.{count_leading_zeros}
use Rattle.cells.specs.Answer.{deepest}
use Rattle.cells.specs.Cell.{level, proper, span}
use Rattle.cells.proofs.Cells.{level_le}
use Rattle.cells.proofs.Levels.{leading_proper}
use Rattle.cells.proofs.Words.{word_bits, codes_fit, one_shifted}
use Rattle.cells.proofs.inner.width.Statement.{statement}
use Rattle.cells.proofs.inner.width.Tie as tie

-- the leading zeros, with the level's bits, are 31
zeros : (D c : ℕ) → D ≤ deepest → proper D c ≡ true → (count_leading_zeros word_bits c + 3 * level D c ≡ 31) × (level D c ≤ D)
zeros D c h p = omega (arith, leading_proper word_bits D c (omega arith) p, level_le D c)

shifted_span : (D c : ℕ) → D ≤ deepest → proper D c ≡ true → (1 * 2 ^ (3 * D + count_leading_zeros word_bits c - 31)) % 2 ^ word_bits ≡ span D c
unfolding span
shifted_span D c h p =
    ap (λ (n : ℕ). (1 * 2 ^ n) % 2 ^ word_bits) (omega (arith, zeros D c h p))
    ∙ one_shifted word_bits (D - level D c) (omega (arith, codes_fit (D - level D c) (omega arith)))

pub width_spec : {M : Type 1} → statement M
width_spec = tie.close (tie.spec (λ c. search rules) (λ c. omega (arith, zeros c.args.depth c.args.code c.requires.0 c.requires.1)) (λ c. omega (arith, zeros c.args.depth c.args.code c.requires.0 c.requires.1)) (λ c. omega (arith, zeros c.args.depth c.args.code c.requires.0 c.requires.1)) (λ c. shifted_span c.args.depth c.args.code c.requires.0 c.requires.1))
