-- Depths up to the greatest, and what of a root cube fits a word of the code; shifts by three bits a level. Assumes nothing.
use Rattle.std.proofs.Common.{◌≡◌, ℕ, ◌*◌, ◌%◌, ◌^◌, ◌<◌, ◌≤◌, true, ℤ, sym, ap, ◌∙◌, mod-eq_of_lt, one-mul, arith, w32, SFits, to_z, of_z}
use native.Mathlib.Nat.{pow-le-pow_right}
use mir.ValLaws.{to_z-of_z}
use Rattle.cells.specs.Answer.{deepest}
use Rattle.cells.specs.Cell.{proper, end}
use Rattle.cells.specs.Place.{axes}
use Rattle.cells.proofs.Power.{pow8_bits}
use Rattle.cells.proofs.Cells.{within}

-- ---- at most the greatest depth

pub pow2_small : (n : ℕ) → n ≤ deepest → 2 ^ n ≤ 2 ^ deepest
pow2_small n h = pow-le-pow_right {n = 2} (omega arith) h

pub pow8_small : (n : ℕ) → n ≤ deepest → 8 ^ n ≤ 8 ^ deepest
pow8_small n h = pow-le-pow_right {n = 8} (omega arith) h

-- ---- what fits a word

abbrev pub word_bits : ℕ
word_bits = 32

-- the codes of a root cube are below 2 * 8 ^ D
pub codes_fit : (D : ℕ) → D ≤ deepest → 2 * 8 ^ D < 2 ^ word_bits
codes_fit D h = omega (arith, pow8_small D h)

module _ (D c : ℕ) (h : D ≤ deepest) (p : proper D c ≡ true) where
  pub end_fits : end D c < 2 ^ word_bits
  end_fits = omega (arith, within D c p, codes_fit D h)

-- a test compares the bits of two signed numbers, and the bits tell the number
pub same_bits : (x y : ℤ) → SFits w32 x → SFits w32 y → of_z w32 x ≡ of_z w32 y → x ≡ y
same_bits x y f g e = sym (to_z-of_z w32 x f) ∙ ap (to_z w32) e ∙ to_z-of_z w32 y g

-- a callee reads signed arguments back from their bits: they are the arguments
pub signed_axes : (P : (ℕ → ℤ) → Type 0) (x y z : ℤ) → SFits w32 x → SFits w32 y → SFits w32 z
    → P (axes (to_z w32 (of_z w32 x)) (to_z w32 (of_z w32 y)) (to_z w32 (of_z w32 z))) → P (axes x y z)
signed_axes P x y z fx fy fz p = rw (to_z-of_z w32 x fx, to_z-of_z w32 y fy, to_z-of_z w32 z fz) at p

-- a shift of 1 by 3 * k, in a word of w bits
pub one_shifted : (w k : ℕ) → 8 ^ k < 2 ^ w → (1 * 2 ^ (3 * k)) % 2 ^ w ≡ 8 ^ k
one_shifted w k h =
    let e : 1 * 2 ^ (3 * k) ≡ 8 ^ k = one-mul (2 ^ (3 * k)) ∙ pow8_bits k in
    rw e (mod-eq_of_lt h)
