-- Ticket 6 of document 02, as laws of any lookup. The theorems of proofs/ say that the library's lookups keep them. Definitions only.
use Rattle.records.specs.Lookups.{LookupAnswer}
use Rattle.std.specs.Prelude.{◌≡◌, true, false, ℕ, ◌-◌, ◌/◌, ◌^◌, ◌≤◌}
use mathlib.Core.List.{List, Memᴰ}
use Rattle.cells.specs.Answer.{given}
use Rattle.cells.specs.Cell.{level, proper, holds}
use Rattle.cells.specs.Place.{axes, EachAxis, number}
use Rattle.records.specs.Record.{black}
use Rattle.demands.specs.Laws.{Succeeds}

-- a call that tells of a voxel: the depth, what is read, and the voxel's x, y and z
abbrev pub Looker : Type 1
Looker = ℕ → List ℕ → ℕ → ℕ → ℕ → LookupAnswer → Type 0

-- "the level of the black leaf that holds the voxel"
abbrev pub TellsLeaf : Looker → Type 0
TellsLeaf L =
    (D : ℕ) (l : List ℕ) (x y z : ℕ) (r : LookupAnswer) → L D l x y z r → r.answer ≡ given 1
    → (c : ℕ) × Memᴰ c l × (holds D c (number D x y z) ≡ true) × (r.level ≡ level D c)

-- an all-white cell that holds voxel v
pub record WhiteCell (D : ℕ) (l : List ℕ) (v c : ℕ) : Type 0 where
  pub is_proper : proper D c ≡ true
  pub held : holds D c v ≡ true
  pub white : (u : ℕ) → holds D c u ≡ true → black D l u ≡ false

-- "or, if the voxel is white, of the largest all-white cell that holds it"
abbrev pub TellsWhite : Looker → Type 0
TellsWhite L =
    (D : ℕ) (l : List ℕ) (x y z : ℕ) (r : LookupAnswer) → L D l x y z r → r.answer ≡ given 0
    → ((c : ℕ) × WhiteCell D l (number D x y z) c × (r.level ≡ level D c)) × ((c : ℕ) → WhiteCell D l (number D x y z) c → r.level ≤ level D c)

-- the voxels at x and at x' lie in one cell of level k
abbrev pub OneCell : ℕ → ℕ → (ℕ → ℕ) → (ℕ → ℕ) → Type 0
OneCell D k x x' = EachAxis (λ a. x' a / 2 ^ (D - k) ≡ x a / 2 ^ (D - k))

-- What the planner uses: of each voxel of the cell that it is told of, it would be told the same.
abbrev pub TellsCell : Looker → Type 0
TellsCell L =
    (D : ℕ) (l : List ℕ) (x y z : ℕ) (r : LookupAnswer) → L D l x y z r → Succeeds r.answer
    → (x' y' z' : ℕ) → OneCell D r.level (axes x y z) (axes x' y' z')
    → (s : LookupAnswer) → L D l x' y' z' s → s ≡ r
