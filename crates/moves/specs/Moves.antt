-- Moves: what the call `move_list` leaves. Document 01, "Moves", and demand 2 of the order: "after a move, a cell of unit size is black exactly when the cell
-- it came from was black". Definitions only.
use Rattle.std.specs.Prelude.{List, [], ◌∷◌, ℕ, ℤ}
use Rattle.cells.specs.Answer.{Decided, keeping, deepest, TooDeep}
use Rattle.cells.specs.Place.{axes, Came}
use Rattle.cells.specs.declared.Answer.{Answer}
use Rattle.records.specs.Record.{black}
use Rattle.records.specs.Fault.{Faulty}
use Rattle.records.specs.Carried.{FromBlack, Straying}
use Rattle.records.specs.Writing.{WritesListOf}
use Rattle.metres.specs.Metres.{move_tests, Becomes}
use Rattle.metres.specs.declared.Move.{Move}

-- a move by the displacement d: a voxel is carried to the one that it comes to
abbrev pub ShiftOf : ℕ → List ℕ → (ℕ → ℤ) → List ℕ → Answer × List ℕ → Type 0
ShiftOf D l d o = Decided (keeping o) (Straying D (Came D d) l ∷ []) (WritesListOf D (FromBlack (Came D d) (black D l)) o)

-- a move by the whole voxels that m becomes: S d is what a move by the displacement d leaves
abbrev pub ByVoxels : Move → ((ℕ → ℤ) → Answer × List ℕ → Type 0) → Answer × List ℕ → Type 0
ByVoxels m S t = (dx : ℤ) × (dy : ℤ) × (dz : ℤ) × Becomes m (axes dx dy dz) × S (axes dx dy dz) t

-- THE CALL move_list, on the list l, the move m and the buffer o: the answer r and the buffer o' afterwards
abbrev pub MoveOf : ℕ → List ℕ → Move → List ℕ → Answer → List ℕ → Type 0
MoveOf D l m o r o' = Decided (keeping o) (TooDeep deepest D ∷ Faulty D l 1 ∷ move_tests m) (ByVoxels m (λ d. ShiftOf D l d o)) (r, o')
