-- What follows from the statements of the calls: coordinates and back give the code, a step and the step back give the cell, the root has no neighbour.
-- Assumes nothing.
use Rattle.std.proofs.Common.{◌≡◌, ℕ, zero, suc, ◌-◌, ◌*◌, ◌^◌, ◌<◌, ◌≤◌, true, ℤ, pos, negsuc, ◌*ℤ◌, neg_ℤ, sym, refl, subst₂, inr, zero-mul, arith, lt-ltb, le-leb}
use native.Mathlib.Nat.{mul-mod_left}
use Rattle.cells.specs.Cell.{level, proper, index, side}
use Rattle.cells.specs.Place.{along, corner, Displaced}
use Rattle.cells.specs.Answer.{given, deepest}
use Rattle.cells.specs.Corners.{is_corner, CodeOf}
use Rattle.cells.specs.Inner.{on_grid}
use Rattle.cells.specs.Neighbour.{IsDirection, Neighbour}
use Rattle.cells.proofs.Bools.{clash}
use Rattle.cells.proofs.Decisions.{passes, deep_enough}
use Rattle.cells.proofs.Cells.{level_le, level_is}
use Rattle.cells.proofs.CornerLaws.{side_pos, corner_lt}
use Rattle.cells.proofs.Integers.{above, below}
use Rattle.cells.proofs.Displacements.{displaced→, displaced_back}

-- ---- the corner of a cell is a proper corner, and gives the cell's code

corner_on_grid : (b D c : ℕ) → on_grid (2 ^ D) (2 ^ (D - level D c)) (corner b D c) ≡ true
unfolding corner side
corner_on_grid b D c =
    let lt : corner b D c < 2 ^ D = omega (arith, corner_lt b D c, side_pos D c) in
    rw (lt-ltb (corner b D c) (2 ^ D) lt, mul-mod_left (along b (level D c) (index D c)) (2 ^ (D - level D c)))

pub there_and_back : (D c : ℕ) → D ≤ deepest → proper D c ≡ true → CodeOf D (λ a. corner (2 ^ a) D c) (level D c) (given c)
unfolding is_corner
there_and_back D c h p =
    let g : is_corner D (λ a. corner (2 ^ a) D c) (level D c) ≡ true =
    rw (le-leb (level D c) D (level_le D c), corner_on_grid 1 D c, corner_on_grid 2 D c, corner_on_grid 4 D c) in
    inr (passes (deep_enough h), inr (passes (clash g), (c, record { is_proper = p; is_level = refl; each = λ a h. refl }, refl)))

-- ---- the step back

pub step_back : (D c m : ℕ) (d : ℕ → ℤ) → proper D c ≡ true → Neighbour D c d m → Neighbour D m (λ a. neg_ℤ (d a)) c
unfolding side
step_back D c m d p n =
    let l = n.same_level in
    record {
      is_proper = p;
      same_level = sym l;
      each = λ a h. rw l (displaced_back (d a) (2 ^ (D - level D c)) (corner (2 ^ a) D c) (corner (2 ^ a) D m) (n.each a h));
    }

-- ---- the root has no neighbour, at any depth

root_level : (D : ℕ) → level D 1 ≡ 0
root_level D = level_is D 0 1 (omega arith) (omega arith) (omega arith)

-- every coordinate of the root, and of a cell of its level, is 0: a displacement along an axis is none
root_still : (b D m : ℕ) (d : ℤ) → level D m ≡ level D 1 → Displaced (d *ℤ pos (side D 1)) (corner b D 1) (corner b D m) → above d ≡ below d
unfolding along corner
root_still b D m d l e =
    let z = root_level D in
    let c : corner b D 1 ≡ 0 * side D 1 = rw z in
    let n : corner b D m ≡ 0 * side D 1 = rw (l, z) (omega (arith, zero-mul (side D m), zero-mul (side D 1))) in
    let f = displaced→ d (side D 1) 0 0 (side_pos D 1) (subst₂ (λ (x y : ℕ). Displaced (d *ℤ pos (side D 1)) x y) c n e) in
    omega arith

none_still : (z : ℤ) → above z ≡ below z → z ≡ pos 0
none_still (pos zero) e = refl
none_still (pos (suc n)) e = absurd (omega arith)
none_still (negsuc n) e = absurd (omega arith)

pub root_alone : (D m : ℕ) (d : ℕ → ℤ) → IsDirection d → Neighbour D 1 d m → ⊥
root_alone D m d h n = h.some (λ a l. none_still (d a) (root_still (2 ^ a) D m (d a) n.same_level (n.each a l)))
