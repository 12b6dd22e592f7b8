-- The neighbour by the cells of its level, which are the voxels of a cube of that depth; and there is one alone. Assumes nothing.
use Rattle.std.proofs.Common.{◌≡◌, ℕ, ◌+◌, ◌-◌, ◌*◌, ◌^◌, [], ◌∷◌, ℤ, sym, ap, ◌∙◌, subst, arith}
use Rattle.cells.specs.Cell.{level, index, side}
use Rattle.cells.specs.Place.{along, corner, Came}
use Rattle.cells.specs.Answer.{given, alone, deepest, TooDeep}
use Rattle.cells.specs.declared.Answer.{Answer}
use Rattle.cells.specs.Corners.{NoCell}
use Rattle.cells.specs.Neighbour.{NoDirection, Neighbour, Outside, NeighbourOf}
use Rattle.cells.proofs.Decisions.{One, one_given, one_refuses, one_decided, refuses_numbered, Opening}
use Rattle.cells.proofs.Cells.{level_le}
use Rattle.cells.proofs.CornerLaws.{side_pos, index_lt, cell_at, one_cell}
use Rattle.cells.proofs.Displacements.{displaced_parts, displaced→, →displaced}
use Rattle.cells.proofs.Integers.{above}

-- the corner of a cell of the same level
pub corner_beside : (b D c m : ℕ) → level D m ≡ level D c → corner b D m ≡ along b (level D c) (index D m) * side D c
unfolding corner side
corner_beside b D c m e = rw e

module _ (D c : ℕ) (d : ℕ → ℤ) where
  abbrev k : ℕ
  k = level D c

  abbrev i : ℕ
  i = index D c

  -- where the cell of index i comes to stand among those of its level, the neighbour stands
  pub found : (j : ℕ) → Came k d i j → Neighbour D c d (8 ^ k + j)
  unfolding corner side
  found j came =
      let t = cell_at D k j (level_le D c) came.root in
      record {
        is_proper = t.is_proper;
        same_level = t.is_level;
        each = λ a h.
            rw (t.is_corner_lem (2 ^ a))
            (→displaced (d a) (2 ^ (D - k)) (along (2 ^ a) k i) (along (2 ^ a) k j) ((displaced_parts (d a) (along (2 ^ a) k i) (along (2 ^ a) k j)).0 (came.each a h)));
      }

  -- and back
  pub beside : (m : ℕ) → Neighbour D c d m → Came k d i (index D m)
  unfolding corner
  beside m n = record {
    root = rw n.same_level at (index_lt D m n.is_proper);
    each = λ a h.
        (displaced_parts (d a) (along (2 ^ a) k i) (along (2 ^ a) k (index D m))).1
        (displaced→ (d a) (side D c) (along (2 ^ a) k i) (along (2 ^ a) k (index D m)) (side_pos D c) (rw (corner_beside (2 ^ a) D c m n.same_level) at (n.each a h)));
  }

-- ---- a call that opens with the tests of `neighbour`, past the depth's

pub neighbours : (D c : ℕ) (d : ℕ → ℤ)
    → Opening (NoCell D c ∷ NoDirection d ∷ Outside D c d ∷ []) (λ r. (m : ℕ) × Neighbour D c d m × (r ≡ given m)) (λ r. Neighbour D c d r.place)
neighbours D c d = record {
  numbered = (refuses_numbered (λ z. omega arith), (refuses_numbered (λ z. omega arith), (refuses_numbered (λ z. omega arith), tt)));
  succeeds = λ r (m, n, e). ap (λ (a : Answer). a.number) e;
  known = λ r passed (m, n, e). subst (Neighbour D c d) (sym (ap (λ (a : Answer). a.place) e)) n;
}

-- ---- no second answer

module _ (D c : ℕ) (d : ℕ → ℤ) where
  pub one_neighbour : One (Neighbour D c d)
  one_neighbour m n p q =
      one_cell D m n p.is_proper q.is_proper (p.same_level ∙ sym q.same_level) (λ a h. ap above (sym (p.each a h) ∙ q.each a h))

  pub one_neighbour_of : One (NeighbourOf D c d)
  one_neighbour_of =
      one_decided alone (TooDeep deepest D ∷ NoCell D c ∷ NoDirection d ∷ Outside D c d ∷ []) _
      (one_refuses, (one_refuses, (one_refuses, (one_refuses, tt)))) (one_given one_neighbour)
