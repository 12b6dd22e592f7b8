-- What a call leaves that writes to the front of a lent buffer: document 01, "Numbers a call gives". Definitions only.
use Rattle.std.specs.Prelude.{◌≡◌, List, [], ◌∷◌, ◌++◌, ℕ, ◌<◌, length, drop}
use Rattle.cells.specs.Answer.{answer, given, Test, Decided, keeping, refuses}
use Rattle.cells.specs.declared.Answer.{Answer}
use Rattle.records.specs.Record.{ListOf}

-- t at the front of the buffer o, which is as it was beyond
abbrev pub stands : List ℕ → List ℕ → List ℕ
stands t o = t ++ drop (length t) o

-- number 8: n places or bytes are needed, and the buffer o has fewer
abbrev pub TooShort : ℕ → List ℕ → Test
TooShort n o = refuses (answer 8 n 0) (length o < n)

-- A call that writes t to the buffer o: number 8, or success with t at its front. s is the answer, and the buffer afterwards.
abbrev pub WritesOf : List ℕ → List ℕ → Answer × List ℕ → Type 0
WritesOf t o = Decided (keeping o) (TooShort (length t) o ∷ []) (λ s. s ≡ (given (length t), stands t o))

-- the same, of the good list of the voxels that have P
abbrev pub WritesListOf : ℕ → (ℕ → Type 0) → List ℕ → Answer × List ℕ → Type 0
WritesListOf D P o s = (l : List ℕ) × ListOf D P l × WritesOf l o s
