-- The neighbour address by geometry: what the call `neighbour` answers. Document 01, "Neighbours". Definitions only.
use Rattle.std.specs.Prelude.{◌≡◌, ℕ, ◌^◌, true, ◌⊎◌, [], ◌∷◌, ℤ, pos, negsuc, ◌*ℤ◌}
use Rattle.cells.specs.Cell.{level, proper, side}
use Rattle.cells.specs.Place.{EachAxis, corner, Displaced}
use Rattle.cells.specs.Answer.{answer, given, Test, Decided, alone, refuses, deepest, TooDeep}
use Rattle.cells.specs.Corners.{NoCell}
use Rattle.cells.specs.declared.Answer.{Answer}

-- d is a direction: three steps, each -1, 0 or 1, not all 0
pub record IsDirection (d : ℕ → ℤ) : Type 0 where
  pub steps : EachAxis (λ a. (d a ≡ negsuc 0) ⊎ ((d a ≡ pos 0) ⊎ (d a ≡ pos 1)))
  pub some : EachAxis (λ a. d a ≡ pos 0) → ⊥

-- number 6: a bad direction
abbrev pub NoDirection : (ℕ → ℤ) → Test
NoDirection d = refuses (answer 6 1 0) (IsDirection d → ⊥)

-- m is the cell of the same level as c, displaced by its own side along each axis
pub record Neighbour (D c : ℕ) (d : ℕ → ℤ) (m : ℕ) : Type 0 where
  pub is_proper : proper D m ≡ true
  pub same_level : level D m ≡ level D c
  pub each : EachAxis (λ a. Displaced (d a *ℤ pos (side D c)) (corner (2 ^ a) D c) (corner (2 ^ a) D m))

-- number 7: the neighbour lies outside the root
abbrev pub Outside : ℕ → ℕ → (ℕ → ℤ) → Test
Outside D c d = refuses (answer 7 0 0) ((m : ℕ) → Neighbour D c d m → ⊥)

-- THE CALL neighbour
abbrev pub NeighbourOf : ℕ → ℕ → (ℕ → ℤ) → Answer → Type 0
NeighbourOf D c d =
    Decided alone (TooDeep deepest D ∷ NoCell D c ∷ NoDirection d ∷ Outside D c d ∷ [])
    (λ r. (m : ℕ) × Neighbour D c d m × (r ≡ given m))
