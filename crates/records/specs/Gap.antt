-- INNER: for the contracts of `lookups`. A white voxel between two leaves of a list, and how large a cell of one colour can be. Definitions only.
use Rattle.std.specs.Prelude.{◌≡◌, false, List, ℕ, suc, ◌/◌, ◌^◌, ◌<◌, ◌≤◌, length}
use Rattle.records.specs.Record.{black}
use Rattle.records.specs.Inner.{Starts}
use Rattle.records.specs.Slot.{Source}

-- voxel v is white, and the leaves before place `at` are those that start before it
pub record Gap (D : ℕ) (l : List ℕ) (v at : ℕ) : Type 0 where
  pub source : Source D l
  pub root : v < 8 ^ D
  pub white : black D l v ≡ false
  pub starts : Starts D l (suc v) 0 (length l) at

-- the cell of voxel v with n levels below it has no voxel that has Q, and the next larger one has, if there is one
pub record Free (D v n : ℕ) (Q : ℕ → Type 0) : Type 0 where
  pub levels : n ≤ D
  pub none : (u : ℕ) → u / 8 ^ n ≡ v / 8 ^ n → Q u → ⊥
  pub some : n < D → (u : ℕ) × (u / 8 ^ suc n ≡ v / 8 ^ suc n) × Q u
