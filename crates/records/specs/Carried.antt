-- A set of voxels carried voxel by voxel, by a move or whatever else takes each voxel to one at most: R u v says that the voxel u is carried to v. Definitions only.
use Rattle.std.specs.Prelude.{◌≡◌, Bool, true, List, ℕ, length, get_or}
use Rattle.cells.specs.Answer.{answer, Test, refuses_first}
use Rattle.cells.specs.Cell.{holds}

-- the voxel v came from a black one of the set P: of a list l at depth D, P is `black D l`
abbrev pub FromBlack : (ℕ → ℕ → Type 0) → (ℕ → Bool) → ℕ → Type 0
FromBlack R P v = (u : ℕ) × (P u ≡ true) × R u v

-- some voxel of the leaf c is carried nowhere
abbrev pub Strays : ℕ → (ℕ → ℕ → Type 0) → ℕ → Type 0
Strays D R c = (u : ℕ) × (holds D c u ≡ true) × ((v : ℕ) → R u v → ⊥)

-- number 7: the first leaf of l that strays
abbrev pub Straying : ℕ → (ℕ → ℕ → Type 0) → List ℕ → Test
Straying D R l = refuses_first (length l) (λ i. Strays D R (get_or l i 0)) (λ i. answer 7 i 1)
