-- Taking in a record, step by step: the order's "a record that arrives must be moved by a whole number of cells before it can be joined to ours". Definitions only.
use Rattle.std.specs.Prelude.{◌≡◌, List, [], ◌∷◌, ℕ, length}
use Rattle.cells.specs.Answer.{answer, Test, Decided, refuses, deepest, TooDeep}
use Rattle.cells.specs.declared.Answer.{Answer}
use Rattle.records.specs.Record.{ListOf}
use Rattle.records.specs.Fault.{Faulty}
use Rattle.records.specs.Writing.{stands, TooShort, WritesOf}
use Rattle.sets.specs.Sets.{InResult}
use Rattle.sets.specs.declared.Op.TheVariants.{Join}
use Rattle.metres.specs.declared.Move.{Move}
use Rattle.moves.specs.Moves.{MoveOf}
use Rattle.blocks.specs.Block.{depth_of, codes}
use Rattle.blocks.specs.File.{file_of}
use Rattle.blocks.specs.Calls.{Unsound}

-- what a step leaves: the answer, the buffer for work, and the buffer of the result
abbrev pub Step : Type 0
Step = Answer × List ℕ × List ℕ

-- refused with the buffers w and o
abbrev pub leaving : List ℕ → List ℕ → Answer → Step
leaving w o a = (a, w, o)

-- number 1: the file is of another depth
abbrev pub OtherDepth : ℕ → List ℕ → Test
OtherDepth D f = refuses (answer 1 0 0) (depth_of f ≡ D → ⊥)

-- THE CALL arrive, of the file f by the move m, with the buffers w and o: the tests of `read`; then the file's list stands in w, and what is left is the
-- move of that list to o
abbrev pub ArriveOf : ℕ → List ℕ → Move → List ℕ → List ℕ → Step → Type 0
ArriveOf D f m w o =
    Decided (leaving w o) (Unsound f ∷ Faulty (depth_of f) (codes f) 1 ∷ TooShort (length (codes f)) w ∷ [])
    (Decided (leaving (stands (codes f) w) o) (OtherDepth D f ∷ []) (λ t. MoveOf D (codes f) m o t.0 t.2 × (t.1 ≡ stands (codes f) w)))

-- THE CALL merge, of the lists a and b, with the buffers w and o: the tests of `join`; then the joined list stands in w, and what is left is the writing of
-- its file to o
abbrev pub MergeOf : ℕ → List ℕ → List ℕ → List ℕ → List ℕ → Step → Type 0
MergeOf D a b w o =
    Decided (leaving w o) (TooDeep deepest D ∷ Faulty D a 1 ∷ Faulty D b 2 ∷ [])
    (λ s. (l : List ℕ) × ListOf D (InResult Join D a b) l × Decided (leaving w o) (TooShort (length l) w ∷ []) (λ t. WritesOf (file_of D l) o (t.0, t.2) × (t.1 ≡ stands l w)) s)
