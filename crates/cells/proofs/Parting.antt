-- Where two numbers part: the first label in which they differ, read off the leading zeros of their exclusive or, in a word of W bits; and labels in common. Assumes nothing.
use Rattle.std.proofs.Common.{◌≡◌, ℕ, zero, suc, ◌+◌, ◌-◌, ◌*◌, ◌/◌, ◌^◌, ◌<◌, ◌≤◌, ◌↔◌, sym, refl, ap, ◌∙◌, le_trans, mul-le-mul_right, suc-mul, div-lt_iff_lt-mul, le-div_iff_mul-le, div-mul-le_self, arith}
use native.Mathlib.Nat.{pow-le-pow_right, div-eq_of_lt, lt-div-mul-add, div-div-eq-div-mul}
use lib.Arith.{digits_div}
use lib.Bits.{bit_xor, xor_shr, xor_self, xor_lt, xor_add_and, and_le_l, and_le_r}
use lib.Count.{count_leading_zeros, leading_top}
use Rattle.cells.specs.Inner.{PartAt}
use Rattle.cells.proofs.Power.{pow_split, pow8_bits, pow8_pos, pow8_split}

-- ---- labels in common

-- numbers with the labels before the last m in common have those before the last n in common, n no less than m
pub alike_above : {m n : ℕ} (u v : ℕ) → m ≤ n → u / 8 ^ m ≡ v / 8 ^ m → u / 8 ^ n ≡ v / 8 ^ n
alike_above {m} {n} u v h e = coarser u ∙ ap (λ (q : ℕ). q / 8 ^ (n - m)) e ∙ sym (coarser v)
  where
    coarser : (w : ℕ) → w / 8 ^ n ≡ w / 8 ^ m / 8 ^ (n - m)
    coarser w = ap (λ (k : ℕ). w / k) (sym (pow_split 8 h)) ∙ sym (div-div-eq-div-mul w (8 ^ m) (8 ^ (n - m)))

-- the numbers with the labels of v before the last n stand together
pub alike_bounds : (n u v : ℕ) → (u / 8 ^ n ≡ v / 8 ^ n) ↔ ((v / 8 ^ n * 8 ^ n ≤ u) × (u < v / 8 ^ n * 8 ^ n + 8 ^ n))
alike_bounds n u v = (to, back)
  where
    to : u / 8 ^ n ≡ v / 8 ^ n → (v / 8 ^ n * 8 ^ n ≤ u) × (u < v / 8 ^ n * 8 ^ n + 8 ^ n)
    to e = rw (← e) (div-mul-le_self u (8 ^ n), lt-div-mul-add (pow8_pos n))

    back : (v / 8 ^ n * 8 ^ n ≤ u) × (u < v / 8 ^ n * 8 ^ n + 8 ^ n) → u / 8 ^ n ≡ v / 8 ^ n
    back (lo, hi) = ap (λ (x : ℕ). x / 8 ^ n) (omega arith) ∙ digits_div (v / 8 ^ n) {m = 8 ^ n} {r = u - v / 8 ^ n * 8 ^ n} (omega arith)

-- there are as many such runs in the root as cells with n levels below them
pub quotient_below : (D n v : ℕ) → n ≤ D → v < 8 ^ D → v / 8 ^ n < 8 ^ (D - n)
quotient_below D n v h root = (div-lt_iff_lt-mul (pow8_pos n)).1 (omega (arith, pow8_split h))

-- and they lie in it, where v does
pub alike_within : (D n v : ℕ) → n ≤ D → v < 8 ^ D → v / 8 ^ n * 8 ^ n + 8 ^ n ≤ 8 ^ D
alike_within D n v h root =
    omega (arith, pow8_split h, mul-le-mul_right (8 ^ n) (quotient_below D n v h root), suc-mul (v / 8 ^ n) (8 ^ n))

-- a quotient does not fall where the number rises
pub quotient_rises : {u v m : ℕ} → 0 < m → u ≤ v → u / m ≤ v / m
quotient_rises {u} {v} {m} pos h = (le-div_iff_mul-le pos).1 (le_trans (div-mul-le_self u m) h)

-- ---- the exclusive or

-- it is 0 of equal numbers alone
xor_nothing : (a b : ℕ) → bit_xor a b ≡ 0 → a ≡ b
xor_nothing a b e = omega (arith, e, xor_add_and a b, and_le_l a b, and_le_r a b)

-- its labels before the last n are those of the numbers
xor_labels : (a b n : ℕ) → bit_xor a b / 8 ^ n ≡ bit_xor (a / 8 ^ n) (b / 8 ^ n)
xor_labels a b n = let e = pow8_bits n in rw e at (xor_shr a b (3 * n))

module _ (W a b : ℕ) (fits-a : a < 2 ^ W) (fits-b : b < 2 ^ W) (differ : a ≡ b → ⊥) where
  xor_some : 0 < bit_xor a b
  xor_some = go (bit_xor a b) refl
    where
      go : (x : ℕ) → bit_xor a b ≡ x → 0 < x
      go zero e = absurd (differ (xor_nothing a b e))
      go (suc x) e = omega arith

  -- the place j of its highest one bit
  pub top_bit : (j : ℕ) × (count_leading_zeros W (bit_xor a b) + suc j ≡ W) × (2 ^ j ≤ bit_xor a b) × (bit_xor a b < 2 ^ suc j)
  top_bit = leading_top W (bit_xor a b) xor_some (xor_lt W a b fits-a fits-b)

  -- is in the first label that differs
  label_at : (j n : ℕ) → 2 ^ j ≤ bit_xor a b → bit_xor a b < 2 ^ suc j → 3 * n ≤ j → j < 3 * suc n → PartAt a b n
  label_at j n lo hi below above = record {
    apart = λ same.
        let none : bit_xor a b / 8 ^ n ≡ 0 = xor_labels a b n ∙ ap (λ (q : ℕ). bit_xor q (b / 8 ^ n)) same ∙ xor_self (b / 8 ^ n) in
        let small : bit_xor a b < 1 * 8 ^ n = (div-lt_iff_lt-mul (pow8_pos n)).0 (omega arith) in
        omega (arith, pow8_bits n, pow-le-pow_right {n = 2} (omega arith) below);
    together =
        let small : bit_xor a b < 8 ^ suc n = omega (arith, pow8_bits (suc n), pow-le-pow_right {n = 2} (omega arith) above) in
        xor_nothing (a / 8 ^ suc n) (b / 8 ^ suc n) (sym (xor_labels a b (suc n)) ∙ div-eq_of_lt small);
  }

  pub part_leading : PartAt a b ((W - 1 - count_leading_zeros W (bit_xor a b)) / 3)
  part_leading = let (j, e, lo, hi) = top_bit in label_at j ((W - 1 - count_leading_zeros W (bit_xor a b)) / 3) lo hi (omega arith) (omega arith)
