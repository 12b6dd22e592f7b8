-- Other views of a proper cell, from the one of Cells (level k, index i among the 8 ^ k cells of the level, n levels below):
-- as a quotient of voxel numbers, and as a cube of coordinates; and the neighbour by its voxels. Assumes nothing.
use Rattle.std.proofs.Common.{◌≡◌, ℕ, ◌+◌, ◌-◌, ◌*◌, ◌/◌, ◌%◌, ◌^◌, ◌<◌, ◌≤◌, true, ltb, leb, ℤ, pos, ◌*ℤ◌, sym, ap, ◌∙◌, subst, mod-lt, div-lt_iff_lt-mul, add-sub_of_le, div-add-mod', arith, ltb-true, lt-ltb, le-leb, leb-true}
use native.Mathlib.Nat.{add-mul-div_right, div-eq_of_lt}
use Rattle.cells.specs.Cell.{level, proper, index, side, start, span, holds}
use Rattle.cells.specs.Place.{EachAxis, along, corner, Came}
use Rattle.cells.specs.Neighbour.{Neighbour}
use Rattle.cells.proofs.Displacements.{displaced→, displaced_sides}
use Rattle.cells.proofs.Power.{pow8_pos, pow_split}
use Rattle.cells.proofs.Cells.{level_le}
use Rattle.cells.proofs.Bools.{both_true}
use Rattle.cells.proofs.CornerLaws.{index_lt, side_pos}
use Rattle.cells.proofs.Places.{along_div, same_voxel}

module _ (D c : ℕ) (p : proper D c ≡ true) where
  abbrev k : ℕ
  k = level D c

  abbrev n : ℕ
  n = D - level D c

  -- ---- a quotient: the voxels of the cell are those whose first k labels are its own
  pub quotient : (v : ℕ) → holds D c v ≡ true → v / 8 ^ n ≡ index D c
  unfolding holds start span index
  quotient v h =
      let i : ℕ = c - 8 ^ k in
      let s : ℕ = 8 ^ n in
      let t = both_true (leb (i * s) v) (ltb v (i * s + s)) h in
      let lo : i * s ≤ v = leb-true _ _ t.0 in
      let hi : v < i * s + s = ltb-true _ _ t.1 in
      let r : ℕ = v - i * s in
      let e : r + i * s ≡ v = omega arith in
      let z : r / s ≡ 0 = div-eq_of_lt {n = r} {m = s} (omega arith) in
      ap (λ (m : ℕ). m / s) (sym e) ∙ add-mul-div_right r i (pow8_pos n) ∙ omega (arith, z)

  pub from_quotient : (v : ℕ) → v / 8 ^ n ≡ index D c → holds D c v ≡ true
  unfolding holds start span index
  from_quotient v e =
      let i : ℕ = c - 8 ^ k in
      let s : ℕ = 8 ^ n in
      let d : i * s + v % s ≡ v = ap (λ (m : ℕ). m * s + v % s) (sym e) ∙ div-add-mod' v s in
      let m = mod-lt v {m = s} (pow8_pos n) in
      rw (le-leb (i * s) v (omega arith), lt-ltb v (i * s + s) (omega arith))

  -- ---- a cube: its voxels are those whose coordinates, in sides, are the cell's
  pub cube : (b v : ℕ) → holds D c v ≡ true → along b D v / side D c ≡ along b k (index D c)
  unfolding side
  cube b v h =
      let e : k + n ≡ D = add-sub_of_le (level_le D c) in
      subst (λ (m : ℕ). along b m v / 2 ^ n ≡ along b k (index D c)) e (along_div b k n v ∙ ap (along b k) (quotient v h))

  pub from_cube : (v : ℕ) → v < 8 ^ D → EachAxis (λ a. along (2 ^ a) D v / side D c ≡ along (2 ^ a) k (index D c)) → holds D c v ≡ true
  unfolding side
  from_cube v l at =
      let e : k + n ≡ D = add-sub_of_le (level_le D c) in
      let q : ℕ = v / 8 ^ n in
      let w : q < 8 ^ k = (div-lt_iff_lt-mul (pow8_pos n)).1 (omega (arith, pow_split 8 (level_le D c))) in
      from_quotient v (same_voxel k q (index D c) w (index_lt D c p) (λ a h. sym (subst (λ (m : ℕ). along (2 ^ a) m v / 2 ^ n ≡ along (2 ^ a) k q) e (along_div (2 ^ a) k n v)) ∙ at a h))

-- ---- the neighbour by its voxels: each voxel of the cell, displaced by the cell's side, is one of the neighbour's

module _ (D c m : ℕ) (d : ℕ → ℤ) (p : proper D c ≡ true) (next : Neighbour D c d m) where
  pub neighbour_voxels : (u v : ℕ) → holds D c u ≡ true → Came D (λ a. d a *ℤ pos (side D c)) u v → holds D m v ≡ true
  unfolding corner side
  neighbour_voxels u v h came = from_cube D m next.is_proper v came.root beside
    where
      -- along one axis
      beside : EachAxis (λ a. along (2 ^ a) D v / side D m ≡ along (2 ^ a) (level D m) (index D m))
      beside a l =
          let same = next.same_level in
          let s : ℕ = side D c in
          let by = displaced→ (d a) s (along (2 ^ a) (level D c) (index D c)) (along (2 ^ a) (level D c) (index D m)) (side_pos D c) (rw same at (next.each a l)) in
          let q = displaced_sides (d a) s (along (2 ^ a) D u) (along (2 ^ a) D v) (side_pos D c) (came.each a l) in
          rw same (omega (arith, by, q, cube D c p (2 ^ a) u h))
