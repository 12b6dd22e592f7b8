-- The cell of a voxel in the bits, one level larger at a time: its voxels are a run of bits. Assumes nothing.
use mathlib.Core.Path.{◌≡◌, refl, sym, ap, ◌∙◌}
use mathlib.Core.Bool.{Bool, true, false, not}
use mathlib.Core.List.{List}
use Prim.Native.Nat.{ℕ, ◌+◌, ◌-◌, ◌*◌, ◌/◌, ◌^◌, ◌≤◌, ◌<◌}
use native.Mathlib.Omega.{arith}
use lib.Dec.{eqb}
use Rattle.std.specs.Prelude.{Option, Some, None, is_some}
use Rattle.cells.proofs.Bools.{clash}
use Rattle.cells.proofs.Parting.{alike_bounds, alike_within}
use Rattle.plain.specs.Bits.{bit_at, black_in}
use Rattle.moves.specs.Inner.{Searched}
use Rattle.plain.proofs.Voxels.{black_bit}

-- ---- the cell

module _ (D v : ℕ) (b : List ℕ) (black : Bool) (root : v < 8 ^ D) where
  -- a voxel of the other colour
  abbrev Other : ℕ → Type 0
  Other u = black_in D b u ≡ not black

  -- the cell with n levels below it as a run: where it begins, and how many voxels it has
  module _ (n from count : ℕ) (h : n ≤ D) (is-from : from ≡ v / 8 ^ n * 8 ^ n) (is-count : count ≡ 8 ^ n) where
    -- a voxel of the run
    in_root : (i : ℕ) → i < count → from + i < 8 ^ D
    in_root i k = omega (arith, alike_within D n v h root)

    abbrev Found : Option ℕ → Type 0
    Found = Searched count (λ i. eqb (bit_at b (from + i)) 1 ≡ not black)

    -- one of the other colour is found in the cell
    pub some_other : (r : Option ℕ) → is_some r ≡ true → Found r → (u : ℕ) × (u / 8 ^ n ≡ v / 8 ^ n) × Other u
    some_other (Some i) e x = let k = x.below in (from + i, (alike_bounds n (from + i) v).1 (omega arith, omega arith), black_bit D b (from + i) (in_root i k) ∙ x.here)
    some_other None e x = absurd (clash e refl)

    -- or there is none
    pub no_other : (r : Option ℕ) → is_some r ≡ false → Found r → (u : ℕ) → u / 8 ^ n ≡ v / 8 ^ n → Other u → ⊥
    no_other (Some i) e x u same other = absurd (clash refl e)
    no_other None e none u same other =
        let (lo, hi) = (alike_bounds n u v).0 same in
        let place : from + (u - from) ≡ u = omega arith in
        none (u - from) (omega arith) (ap (λ (w : ℕ). eqb (bit_at b w) 1) place ∙ sym (black_bit D b u (omega (arith, alike_within D n v h root))) ∙ other)
