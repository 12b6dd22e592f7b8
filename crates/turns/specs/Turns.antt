-- Quarter turns about the root's vertical axis: what the call `turn_list` leaves. Ticket 4 of document 02: "one turn takes (x, y) to (2^D - 1 - y, x), z kept".
-- Definitions only.
use Rattle.std.specs.Prelude.{◌≡◌, List, [], ◌∷◌, ℕ, zero, suc, ◌+◌, ◌^◌, ◌<◌}
use Rattle.cells.specs.Answer.{answer, Test, Decided, keeping, refuses, deepest, TooDeep}
use Rattle.cells.specs.Place.{along}
use Rattle.cells.specs.declared.Answer.{Answer}
use Rattle.records.specs.Record.{black}
use Rattle.records.specs.Fault.{Faulty}
use Rattle.records.specs.Carried.{FromBlack}
use Rattle.records.specs.Writing.{WritesListOf}

-- One turn takes the voxel u to the voxel v of the same root cube. A label's bits are 1 along x, 2 along y and 4 along z.
pub record Quarter (D u v : ℕ) : Type 0 where
  pub root : v < 8 ^ D
  -- the x of v is 2 ^ D - 1 less the y of u
  pub x : along 1 D v + along 2 D u + 1 ≡ 2 ^ D
  pub y : along 2 D v ≡ along 1 D u
  pub z : along 4 D v ≡ along 4 D u

-- n turns take u to v: n of those, one after the other
unfoldable pub Turned : ℕ → ℕ → ℕ → ℕ → Type 0
Turned D zero u v = (v < 8 ^ D) × (u ≡ v)
Turned D (suc n) u v = (w : ℕ) × Turned D n u w × Quarter D w v

-- the greatest turn number
abbrev pub most_turns : ℕ
most_turns = 3

-- number 6: a turn number above it
abbrev pub NoTurn : ℕ → Test
NoTurn n = refuses (answer 6 1 0) (most_turns < n)

-- THE CALL turn_list, on the list l, the turn number n and the buffer o: the answer r and the buffer o' afterwards
abbrev pub TurnOf : ℕ → List ℕ → ℕ → List ℕ → Answer → List ℕ → Type 0
TurnOf D l n o r o' = Decided (keeping o) (TooDeep deepest D ∷ Faulty D l 1 ∷ NoTurn n ∷ []) (WritesListOf D (FromBlack (Turned D n) (black D l)) o) (r, o')
