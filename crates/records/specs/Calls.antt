-- What the calls `check` and `volume` answer: document 01, "Lists" and "Numbers a call gives". Definitions only.
use Rattle.std.specs.Prelude.{◌≡◌, List, [], ◌∷◌, ℕ, ◌^◌, length}
use Rattle.cells.specs.Answer.{given, Decided, alone, deepest, TooDeep}
use Rattle.cells.specs.declared.Answer.{Answer}
use Rattle.records.specs.Record.{black}
use Rattle.records.specs.Count.{count}
use Rattle.records.specs.Fault.{Faulty}

-- THE CALL check: the number of leaves
abbrev pub CheckOf : ℕ → List ℕ → Answer → Type 0
CheckOf D l = Decided alone (TooDeep deepest D ∷ Faulty D l 1 ∷ []) (λ r. r ≡ given (length l))

-- THE CALL volume: how many voxels are black
abbrev pub VolumeOf : ℕ → List ℕ → Answer → Type 0
VolumeOf D l = Decided alone (TooDeep deepest D ∷ Faulty D l 1 ∷ []) (λ r. r ≡ given (count (black D l) (8 ^ D)))
