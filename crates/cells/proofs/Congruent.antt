-- Numbers that differ by a multiple of p, and the two's complement: the number below 2 ^ n that differs from a displacement by a multiple of it.
-- Assumes nothing.
use Rattle.std.proofs.Common.{◌≡◌, ℕ, ◌+◌, ◌-◌, ◌*◌, ◌/◌, ◌%◌, ◌^◌, ◌<◌, ℤ, pos, negsuc, sym, ap, ◌∙◌, mod-lt, mod-eq_of_lt, add-mul, one-mul, div-add-mod', arith}
use native.Mathlib.Nat.{add-mul-mod_self_right}
use Rattle.cells.specs.AhujaNash.{twos}
use Rattle.cells.proofs.Integers.{above, below}
use Rattle.cells.proofs.Power.{pow2_pos}

pub record Congruent (p x y : ℕ) : Type 0 where
  pub j : ℕ
  pub k : ℕ
  pub same : x + j * p ≡ y + k * p

-- below p they are equal
pub congruent_equal : (p x y : ℕ) → x < p → y < p → Congruent p x y → x ≡ y
congruent_equal p x y hx hy c =
    sym (mod-eq_of_lt hx) ∙ sym (add-mul-mod_self_right x c.j p) ∙ ap (λ (n : ℕ). n % p) c.same ∙ add-mul-mod_self_right y c.k p ∙ mod-eq_of_lt hy

-- ---- the two's complement of d: with what d takes, it is what d adds

module _ (n : ℕ) where
  abbrev p : ℕ
  p = 2 ^ n

  pub twos_congruent : (d : ℤ) → Congruent p (twos n d + below d) (above d)
  unfolding twos
  twos_congruent (pos m) = record { j = m / p; k = 0; same = omega (arith, div-add-mod' m p) }
  twos_congruent (negsuc m) = record { j = 0; k = 1 + m / p; same = omega (arith, div-add-mod' m p, mod-lt m (pow2_pos n), add-mul 1 (m / p) p, one-mul p) }

  -- the difference of two remainders: with y it is x

  pub difference_lt : (x y : ℕ) → (x % p + (p - y % p)) % p < p
  difference_lt x y = mod-lt (x % p + (p - y % p)) (pow2_pos n)

  pub difference_congruent : (x y : ℕ) → Congruent p ((x % p + (p - y % p)) % p + y) x
  difference_congruent x y =
      let A : ℕ = x % p + (p - y % p) in
      record {
        j = A / p + x / p;
        k = 1 + y / p;
        same = omega (arith, div-add-mod' A p, div-add-mod' x p, div-add-mod' y p, mod-lt y (pow2_pos n), add-mul (A / p) (x / p) p, add-mul 1 (y / p) p, one-mul p);
      }
