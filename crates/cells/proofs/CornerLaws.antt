-- Corners of cells: a cell is known by its level and its corner, and its corner is where its first voxel stands. Assumes nothing.
use Rattle.std.proofs.Common.{◌≡◌, ℕ, ◌+◌, ◌-◌, ◌*◌, ◌/◌, ◌%◌, ◌^◌, ◌<◌, ◌≤◌, Bool, true, false, eqb, ltb, leb, [], ◌∷◌, sym, refl, ap, ◌∙◌, mul-le-mul_right, div-lt_iff_lt-mul, div-add-mod', arith, ltb-true, eqb-true, leb-true}
use native.Mathlib.Nat.{eq_of_mul-eq-mul_right, add-sub_cancel_left}
use Rattle.cells.specs.Cell.{level, proper, index, side, start, span}
use Rattle.cells.specs.Place.{EachAxis, all_axes, along, number, corner}
use Rattle.cells.specs.Answer.{answer, alone, refuses, deepest, TooDeep}
use Rattle.cells.specs.Corners.{NoCell, nowhere, CellAt, is_corner, PlaceOf, CodeOf}
use Rattle.cells.specs.Inner.{on_grid}
use Rattle.cells.proofs.Decisions.{One, one_equal, one_given, one_refuses, one_decided}
use Rattle.cells.proofs.Power.{pow2_pos, pow_split}
use Rattle.cells.proofs.Cells.{proper_bounds, cell_of_lem, level_le}
use Rattle.cells.proofs.Bools.{both_true}
use Rattle.cells.proofs.Places.{each_true, along_lt, same_voxel, number_lt, along_axes, along_first, along_last}

pub side_pos : (D c : ℕ) → 0 < side D c
unfolding side
side_pos D c = pow2_pos (D - level D c)

pub index_lt : (D c : ℕ) → proper D c ≡ true → index D c < 8 ^ level D c
unfolding index
index_lt D c p = omega (arith, proper_bounds D c p)

pub code_is : (D c : ℕ) → proper D c ≡ true → c ≡ 8 ^ level D c + index D c
unfolding index
code_is D c p = omega (arith, proper_bounds D c p)

-- ---- the cell of level k and index i

pub record Indexed (D k i : ℕ) : Type 0 where
  pub is_proper : proper D (8 ^ k + i) ≡ true
  pub is_level : level D (8 ^ k + i) ≡ k
  pub is_corner_lem : (b : ℕ) → corner b D (8 ^ k + i) ≡ along b k i * 2 ^ (D - k)

pub cell_at : (D k i : ℕ) → k ≤ D → i < 8 ^ k → Indexed D k i
unfolding index side corner
cell_at D k i h l =
    let t = cell_of_lem D k (D - k) i (omega arith) l in
    let e = t.1 in
    record {
      is_proper = t.0;
      is_level = e;
      is_corner_lem = λ b. rw (e, add-sub_cancel_left (8 ^ k) i);
    }

-- ---- a corner lies in the root, a side before its end

pub corner_lt : (b D c : ℕ) → corner b D c + side D c ≤ 2 ^ D
unfolding corner side
corner_lt b D c =
    let k : ℕ = level D c in
    omega (arith, pow_split 2 (level_le D c), mul-le-mul_right (2 ^ (D - k)) (along_lt b k (index D c)))

-- ---- a level and a corner are of one cell alone

same_along : (b D c d : ℕ) → level D c ≡ level D d → corner b D c ≡ corner b D d → along b (level D c) (index D c) ≡ along b (level D c) (index D d)
unfolding corner side
same_along b D c d l e =
    let e' : along b (level D c) (index D c) * 2 ^ (D - level D c) ≡ along b (level D c) (index D d) * 2 ^ (D - level D c) = e ∙ rw (← l) refl in
    eq_of_mul-eq-mul_right (2 ^ (D - level D c)) (pow2_pos (D - level D c)) _ _ e'

pub one_cell : (D c d : ℕ) → proper D c ≡ true → proper D d ≡ true → level D c ≡ level D d → EachAxis (λ a. corner (2 ^ a) D c ≡ corner (2 ^ a) D d) → c ≡ d
one_cell D c d p q l e =
    let ld : 8 ^ level D d ≡ 8 ^ level D c = ap (λ (n : ℕ). 8 ^ n) (sym l) in
    let same : index D c ≡ index D d =
    same_voxel (level D c) (index D c) (index D d) (index_lt D c p) (omega (arith, index_lt D d q)) (λ a h. same_along (2 ^ a) D c d l (e a h)) in
    omega (arith, code_is D c p, code_is D d q)

-- ---- the corner is where the first voxel stands

pub corner_start : (b D c : ℕ) → corner b D c ≡ along b D (start D c)
unfolding corner side index start span
corner_start b D c =
    let k : ℕ = level D c in
    let e : k + (D - k) ≡ D = omega (arith, level_le D c) in
    sym (along_first b k (D - k) (c - 8 ^ k)) ∙ ap (λ (m : ℕ). along b m ((c - 8 ^ k) * 8 ^ (D - k))) e

-- and the last voxel stands a side further, less one
pub corner_end : (a : ℕ) → a < 3 → (D c : ℕ) → along (2 ^ a) D (start D c + (span D c - 1)) + 1 ≡ corner (2 ^ a) D c + side D c
unfolding corner side index start span
corner_end a h D c =
    let k : ℕ = level D c in
    let e : k + (D - k) ≡ D = omega (arith, level_le D c) in
    ap (λ (m : ℕ). along (2 ^ a) m ((c - 8 ^ k) * 8 ^ (D - k) + (8 ^ (D - k) - 1)) + 1) (sym e) ∙ along_last a h k (D - k) (c - 8 ^ k)

-- ---- from a proper corner and level to its cell

pub record OnGrid (w s x : ℕ) : Type 0 where
  pub root : x < w
  pub multiple : x % s ≡ 0

on_grid_lem : (w s x : ℕ) → on_grid w s x ≡ true → OnGrid w s x
on_grid_lem w s x e =
    let t = both_true (ltb x w) (eqb (x % s) 0) e in
    record { root = ltb-true x w t.0; multiple = eqb-true (x % s) 0 t.1 }

pub record IsCorner (D : ℕ) (x : ℕ → ℕ) (k : ℕ) : Type 0 where
  pub deep : k ≤ D
  pub each : EachAxis (λ a. OnGrid (2 ^ D) (2 ^ (D - k)) (x a))

pub is_corner_lem : (D : ℕ) (x : ℕ → ℕ) (k : ℕ) → is_corner D x k ≡ true → IsCorner D x k
unfolding is_corner
is_corner_lem D x k e =
    let g : ℕ → Bool = λ a. on_grid (2 ^ D) (2 ^ (D - k)) (x a) in
    let t = both_true (leb k D) (all_axes g) e in
    record { deep = leb-true k D t.0; each = λ a h. on_grid_lem _ _ (x a) (each_true g t.1 a h) }

-- a coordinate in sides
module _ (D k x : ℕ) (h : k ≤ D) (g : OnGrid (2 ^ D) (2 ^ (D - k)) x) where
  in_sides : x / 2 ^ (D - k) < 2 ^ k
  in_sides = (div-lt_iff_lt-mul (pow2_pos (D - k))).1 (omega (arith, pow_split 2 h, g.root))

  from_sides : x / 2 ^ (D - k) * 2 ^ (D - k) ≡ x
  from_sides = omega (arith, div-add-mod' x (2 ^ (D - k)), g.multiple)

pub cell_of_corner : (D : ℕ) (x : ℕ → ℕ) (k : ℕ) → is_corner D x k ≡ true → CellAt D x k (8 ^ k + number k (x 0 / 2 ^ (D - k)) (x 1 / 2 ^ (D - k)) (x 2 / 2 ^ (D - k)))
cell_of_corner D x k e =
    let g = is_corner_lem D x k e in
    let s : ℕ = 2 ^ (D - k) in
    let t = cell_at D k (number k (x 0 / s) (x 1 / s) (x 2 / s)) g.deep (number_lt k (x 0 / s) (x 1 / s) (x 2 / s)) in
    record {
      is_proper = t.is_proper;
      is_level = t.is_level;
      each = λ a h.
          t.is_corner_lem (2 ^ a)
          ∙ ap (λ (n : ℕ). n * s) (along_axes k (λ a. x a / s) (λ a h. in_sides D k (x a) g.deep (g.each a h)) a h)
          ∙ from_sides D k (x a) g.deep (g.each a h);
    }

-- ---- no second answer

pub one_place : (D c : ℕ) → One (PlaceOf D c)
one_place D c = one_decided nowhere (TooDeep deepest D ∷ NoCell D c ∷ []) _ (one_refuses, (one_refuses, tt)) one_equal

module _ (D : ℕ) (x : ℕ → ℕ) (k : ℕ) where
  pub one_cell_at : One (CellAt D x k)
  one_cell_at m n p q = one_cell D m n p.is_proper q.is_proper (p.is_level ∙ sym q.is_level) (λ a h. p.each a h ∙ sym (q.each a h))

  pub one_code : One (CodeOf D x k)
  one_code = one_decided alone (TooDeep deepest D ∷ refuses (answer 6 0 0) (is_corner D x k ≡ false) ∷ []) _ (one_refuses, (one_refuses, tt)) (one_given one_cell_at)
