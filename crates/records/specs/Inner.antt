-- INNER: for the contracts of private and inner functions. Definitions only.
use Rattle.std.specs.Prelude.{◌≡◌, Bool, true, false, ◌&&◌, List, [], ◌∷◌, ℕ, ◌+◌, ◌-◌, ◌≤◌, ◌<◌, ltb, length, get_or}
use Rattle.cells.specs.Answer.{deepest}
use Rattle.cells.specs.Cell.{start, span, end, holds}
use Rattle.records.specs.Record.{Ordered}

-- how many voxels the leaves have
unfoldable pub volume : ℕ → List ℕ → ℕ
volume D [] = 0
volume D (c ∷ l) = span D c + volume D l

-- the places lo up to hi of a list can be searched
pub record Searchable (D : ℕ) (l : List ℕ) (lo hi : ℕ) : Type 0 where
  pub shallow : D ≤ deepest
  pub ordered : Ordered D 0 l
  pub rising : lo ≤ hi
  pub within : hi ≤ length l

-- some voxel of the cell q fails the test P
pub record White (D : ℕ) (P : ℕ → Bool) (q : ℕ) : Type 0 where
  pub voxel : ℕ
  pub inside : holds D q voxel ≡ true
  pub white : P voxel ≡ false

-- r is the first place from lo up to hi whose leaf starts at v or after it
pub record Starts (D : ℕ) (l : List ℕ) (v lo hi r : ℕ) : Type 0 where
  pub low : lo ≤ r
  pub high : r ≤ hi
  pub below : (i : ℕ) → lo ≤ i → i < r → start D (get_or l i 0) < v
  pub above : (i : ℕ) → r ≤ i → i < hi → v ≤ start D (get_or l i 0)

-- whether the leaf before place `at` ends after voxel v
unfoldable pub reaches : ℕ → List ℕ → ℕ → ℕ → Bool
reaches D l at v = ltb 0 at && ltb v (end D (get_or l (at - 1) 0))
