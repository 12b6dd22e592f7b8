-- A record of the ground cut: a list of codes, good when it is the one sorted, fully condensed list of its voxels (document 01, "Lists"). Definitions only.
use Rattle.std.specs.Prelude.{◌≡◌, ◌↔◌, ℕ, ◌+◌, ◌*◌, ◌^◌, ◌<◌, ◌≤◌, Bool, true, false, ◌||◌}
use mathlib.Core.List.{List, [], ◌∷◌, Memᴰ}
use Rattle.cells.specs.Cell.{proper, start, end, holds}

-- whether voxel v is black: some leaf holds it
unfoldable pub black : ℕ → List ℕ → ℕ → Bool
black D [] v = false
black D (c ∷ l) v = holds D c v || black D l v

-- every code is proper, and each leaf starts at or after the end of the leaf before it; the first at or after `from`
unfoldable pub Ordered : ℕ → ℕ → List ℕ → Type 0
Ordered D from [] = Unit {0}
Ordered D from (c ∷ l) = (proper D c ≡ true) × (from ≤ start D c) × Ordered D (end D c) l

-- no eight leaves are the eight children of one cell
unfoldable pub Condensed : List ℕ → Type 0
Condensed l = (p : ℕ) → ((k : ℕ) → k < 8 → Memᴰ (8 * p + k) l) → ⊥

pub record Good (D : ℕ) (l : List ℕ) : Type 0 where
  pub ordered : Ordered D 0 l
  pub condensed : Condensed l

-- l is the good list of the voxels that have P: a voxel is black in it exactly when it has P
pub record ListOf (D : ℕ) (P : ℕ → Type 0) (l : List ℕ) : Type 0 where
  pub good : Good D l
  pub exactly : (v : ℕ) → v < 8 ^ D → (black D l v ≡ true) ↔ P v
