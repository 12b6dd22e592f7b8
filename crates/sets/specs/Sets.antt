-- Join, intersection and difference: what the calls `join`, `intersect` and `subtract` leave. Document 01, "Lists". Definitions only.
use Rattle.std.specs.Prelude.{◌≡◌, ◌⊎◌, true, List, [], ◌∷◌, ℕ}
use Rattle.cells.specs.Answer.{Decided, keeping, deepest, TooDeep}
use Rattle.cells.specs.declared.Answer.{Answer}
use Rattle.records.specs.Record.{black}
use Rattle.records.specs.Fault.{Faulty}
use Rattle.records.specs.Writing.{WritesListOf}
use Rattle.sets.specs.declared.Op.{Op}
use Rattle.sets.specs.declared.Op.TheVariants.{Join, Intersect, Subtract}

-- in either list; in both; in the first but not the second
abbrev pub Chosen : Op → Type 0 → Type 0 → Type 0
Chosen Join A B = A ⊎ B
Chosen Intersect A B = A × B
Chosen Subtract A B = A × (B → ⊥)

-- the voxels of the result
abbrev pub InResult : Op → ℕ → List ℕ → List ℕ → ℕ → Type 0
InResult op D a b v = Chosen op (black D a v ≡ true) (black D b v ≡ true)

-- THE CALLS join, intersection and difference, on the lists a and b and the buffer o: the answer r and the buffer o' afterwards
abbrev pub SetOf : Op → ℕ → List ℕ → List ℕ → List ℕ → Answer → List ℕ → Type 0
SetOf op D a b o r o' = Decided (keeping o) (TooDeep deepest D ∷ Faulty D a 1 ∷ Faulty D b 2 ∷ []) (WritesListOf D (InResult op D a b) o) (r, o')
