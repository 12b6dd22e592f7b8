-- The level read off the count of leading zeros, in a word of W bits that has room for the depth: the highest one bit of a proper code stands at place
-- 3 * level. Assumes nothing.
use Rattle.std.proofs.Common.{◌≡◌, ℕ, zero, suc, ◌+◌, ◌-◌, ◌*◌, ◌/◌, ◌%◌, ◌^◌, ◌<◌, ◌≤◌, Bool, true, false, leb, sym, refl, ap, ◌∙◌, subst, arith, leb-false, leb-true}
use native.Mathlib.Nat.{pow-succ'}
use lib.Count.{count_leading_zeros, leading_top, leading_unique, leading_of_zero}
use Rattle.cells.specs.Cell.{level, proper}
use Rattle.cells.proofs.Bools.{refuted}
use Rattle.cells.proofs.Power.{pow8_bits}
use Rattle.cells.proofs.Cells.{proper_bounds, cell_of_lem, level_le}

-- a number with a one bit among its W is not 0
some_bit : (W c : ℕ) → count_leading_zeros W c < W → 0 < c
some_bit W zero h = absurd (omega (arith, leading_of_zero W))
some_bit W (suc c) h = omega arith

module _ (W D c : ℕ) (hD : 3 * D < W) where
  pub leading_proper : proper D c ≡ true → count_leading_zeros W c + 3 * level D c + 1 ≡ W
  leading_proper p =
      let k : ℕ = level D c in
      let b = proper_bounds D c p in
      let hk : k ≤ D = level_le D c in
      let lo : 2 ^ (3 * k) ≤ c = subst (λ (m : ℕ). m ≤ c) (sym (pow8_bits k)) b.0 in
      let hi : 2 ^ suc (3 * k) ≡ 2 * 8 ^ k = pow-succ' 2 (3 * k) ∙ ap (λ (m : ℕ). 2 * m) (pow8_bits k) in
      let u = leading_unique W c (W - 1 - 3 * k) (suc (3 * k)) (omega arith) (omega (arith, b.1)) (omega (arith, b.0)) in
      omega arith

  -- the other way: a highest one bit at place 3k, k at most D
  pub proper_leading : c < 2 ^ W → count_leading_zeros W c < W → (W - 1 - count_leading_zeros W c) % 3 ≡ 0 → (W - 1 - count_leading_zeros W c) / 3 ≤ D → proper D c ≡ true
  proper_leading fits some third low =
      let pos : 0 < c = some_bit W c some in
      let (j, e, lo, hi) = leading_top W c pos fits in
      let k : ℕ = (W - 1 - count_leading_zeros W c) / 3 in
      let ej : j ≡ 3 * k = omega arith in
      let lo' : 8 ^ k ≤ c = subst (λ (m : ℕ). m ≤ c) (ap (λ (m : ℕ). 2 ^ m) ej ∙ pow8_bits k) lo in
      let hi' : c < 2 * 8 ^ k = subst (λ (m : ℕ). c < m) (pow-succ' 2 j ∙ ap (λ (m : ℕ). 2 * m) (ap (λ (m : ℕ). 2 ^ m) ej ∙ pow8_bits k)) hi in
      let t = cell_of_lem D k (D - k) (c - 8 ^ k) (omega arith) (omega arith) in
      let same : 8 ^ k + (c - 8 ^ k) ≡ c = omega arith in
      rw same at t.0

  -- so, past the tests that there is a one bit and that its place is a multiple of 3, the test of the level decides
  pub leading_test : c < 2 ^ W → count_leading_zeros W c < W → (W - 1 - count_leading_zeros W c) % 3 ≡ 0 → leb ((W - 1 - count_leading_zeros W c) / 3) D ≡ proper D c
  leading_test fits some third = go (leb ((W - 1 - count_leading_zeros W c) / 3) D) refl
    where
      go : (t : Bool) → leb ((W - 1 - count_leading_zeros W c) / 3) D ≡ t → t ≡ proper D c
      go true e = sym (proper_leading fits some third (leb-true _ _ e))
      go false e = sym (refuted (proper D c) (λ p. omega (arith, leb-false ((W - 1 - count_leading_zeros W c) / 3) D e, leading_proper p, level_le D c)))
