-- What the call `lookup` answers: document 01, "Lists", and ticket 6 of document 02. The black leaf that holds a voxel, and the largest all-white cell that holds
-- it, are both the largest cell of one colour that does. Definitions only.
use Rattle.std.specs.Prelude.{◌≡◌, Bool, true, false, List, [], ◌∷◌, ℕ, ◌^◌, ◌≤◌, ltb, Result, Ok, Err}
use Rattle.cells.specs.Answer.{answer, given, Test, Decided, refuses, deepest, TooDeep}
use Rattle.cells.specs.Cell.{level, proper, holds}
use Rattle.cells.specs.Place.{axes, all_axes, number}
use Rattle.cells.specs.Refusals.{refused}
use Rattle.cells.specs.declared.Answer.{Answer}
use Rattle.cells.specs.declared.refusals.Refusal.{Refusal}
use Rattle.records.specs.Record.{black}
use Rattle.records.specs.Count.{bit}
use Rattle.records.specs.Fault.{Faulty}
use Rattle.records.specs.declared.lookups.Finding.{Finding}

-- the cell c holds voxel v, and each of its voxels has v's colour; P tells which voxels are black
pub record OneColour (D : ℕ) (P : ℕ → Bool) (v c : ℕ) : Type 0 where
  pub is_proper : proper D c ≡ true
  pub held : holds D c v ≡ true
  pub colour : (u : ℕ) → holds D c u ≡ true → P u ≡ P v

-- k is the level of the largest cell of one colour that holds v: no such cell has a smaller level
pub record Largest (D : ℕ) (P : ℕ → Bool) (v k : ℕ) : Type 0 where
  pub cell : ℕ
  pub one_colour : OneColour D P v cell
  pub is_level : level D cell ≡ k
  pub none_larger : (c : ℕ) → OneColour D P v c → k ≤ level D c

-- an answer, and a level beside it
pub record LookupAnswer : Type 0 where
  pub answer : Answer
  pub level : ℕ

-- a refusal, with level 0
abbrev pub unseen : Answer → LookupAnswer
unseen a = record { answer = a; level = 0 }

-- success: 1 for a black voxel, 0 for a white one; and a level
abbrev pub seen : Bool → ℕ → LookupAnswer
seen b k = record { answer = given (bit b); level = k }

-- what the call's result tells
abbrev pub lookup_answer : Result Finding Refusal → LookupAnswer
lookup_answer (Ok f) = seen f.black f.level
lookup_answer (Err r) = unseen (refused r)

-- what is told of voxel v
abbrev pub SeenIn : ℕ → (ℕ → Bool) → ℕ → LookupAnswer → Type 0
SeenIn D P v r = (k : ℕ) × Largest D P v k × (r ≡ seen (P v) k)

-- number 6: a voxel at x, outside the root
abbrev pub NoVoxel : ℕ → (ℕ → ℕ) → Test
NoVoxel D x = refuses (answer 6 0 0) (all_axes (λ a. ltb (x a) (2 ^ D)) ≡ false)

-- THE CALL lookup, of the voxel x, y, z in the list l
abbrev pub LookupOf : ℕ → List ℕ → ℕ → ℕ → ℕ → LookupAnswer → Type 0
LookupOf D l x y z = Decided unseen (TooDeep deepest D ∷ Faulty D l 1 ∷ NoVoxel D (axes x y z) ∷ []) (SeenIn D (black D l) (number D x y z))
