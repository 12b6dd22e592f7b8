-- The leaves met in the neighbour cell: what the calls `met` and `met_at` answer. Document 01, "Neighbours". Definitions only.
use Rattle.std.specs.Prelude.{◌≡◌, ◌↔◌, true, List, [], ◌∷◌, ℕ, ◌+◌, ◌-◌, ◌*◌, ◌≤◌, ◌<◌, ℤ, length, get_or, take, drop, Result, Ok, Err}
use Rattle.cells.specs.Answer.{given, Decided, deepest, TooDeep}
use Rattle.cells.specs.Cell.{start, holds}
use Rattle.cells.specs.Corners.{NoCell}
use Rattle.cells.specs.Neighbour.{NoDirection, Neighbour, Outside}
use Rattle.cells.specs.Refusals.{refused}
use Rattle.cells.specs.declared.Answer.{Answer}
use Rattle.cells.specs.declared.refusals.Refusal.{Refusal}
use Rattle.std.specs.declared.ops.Range.{Range}
use Rattle.records.specs.Fault.{Faulty}

-- the cells c and m share a voxel
abbrev pub Meets : ℕ → ℕ → ℕ → Type 0
Meets D c m = (v : ℕ) × (holds D c v ≡ true) × (holds D m v ≡ true)

-- the part of the list l that begins at index `at` and has n leaves is that of all leaves that meet the cell m
pub record MetPart (D : ℕ) (l : List ℕ) (m at n : ℕ) : Type 0 where
  pub within : at + n ≤ length l
  pub met : (i : ℕ) → i < length l → ((at ≤ i) × (i < at + n)) ↔ Meets D (get_or l i 0) m
  -- with none, it begins where the cell would be inserted: after the leaves that start before the cell
  pub inserted : n ≡ 0 → (i : ℕ) → i < length l → (i < at) ↔ (start D (get_or l i 0) < start D m)

-- what is told, with the index of the first leaf and the number of leaves
pub record Meeting : Type 0 where
  pub answer : Answer
  pub at : ℕ
  pub n : ℕ

-- a refusal, with the empty part at the list's beginning
abbrev pub unmet : Answer → Meeting
unmet a = record { answer = a; at = 0; n = 0 }

-- What both calls find: an answer, and the part of n leaves that begins at index `at`. Success tells where the part begins.
abbrev pub MeetingOf : ℕ → List ℕ → ℕ → (ℕ → ℤ) → Meeting → Type 0
MeetingOf D l c d =
    Decided unmet (TooDeep deepest D ∷ Faulty D l 1 ∷ NoCell D c ∷ NoDirection d ∷ Outside D c d ∷ [])
    (λ r. (m : ℕ) × Neighbour D c d m × MetPart D l m r.at r.n × (r.answer ≡ given r.at))

-- INNER, for `find`: a part by its first place and its end, or why there is none, as a meeting
abbrev pub meeting_of : Result (Range ℕ) Refusal → Meeting
meeting_of (Ok r) = record { answer = given r.start; at = r.start; n = r.end - r.start }
meeting_of (Err r) = unmet (refused r)

-- THE CALL met: the part r of the caller's own list l, not a copy. p is where l begins in memory and q where r does: a block and a place in it, in bytes.
pub record MetOf (D : ℕ) (l : List ℕ) (p : ℕ × ℕ) (c : ℕ) (d : ℕ → ℤ) (r : List ℕ) (q : ℕ × ℕ) : Type 0 where
  pub meeting : Meeting
  pub found : MeetingOf D l c d meeting
  pub codes : r ≡ take meeting.n (drop meeting.at l)
  pub begins : q ≡ (p.0, p.1 + meeting.at * 4)

-- THE CALL met_at: the index where that part begins
abbrev pub MetAtOf : ℕ → List ℕ → ℕ → (ℕ → ℤ) → Answer → Type 0
MetAtOf D l c d r = (t : Meeting) × MeetingOf D l c d t × (r ≡ t.answer)
