-- A code as coordinates and level, and back: what the calls `place` and `code` answer. Document 01, "Cells and codes", and number 6 of its table.
-- Definitions only.
use Rattle.std.specs.Prelude.{◌≡◌, ℕ, ◌-◌, ◌%◌, ◌^◌, Bool, true, false, ◌&&◌, [], ◌∷◌, ◌==◌, nat_le, nat_lt, Result, Ok, Err}
use Rattle.cells.specs.Cell.{level, proper}
use Rattle.cells.specs.Place.{EachAxis, all_axes, corner}
use Rattle.cells.specs.Answer.{answer, given, Test, Decided, alone, refuses, deepest, TooDeep}
use Rattle.cells.specs.Refusals.{refused}
use Rattle.cells.specs.declared.Answer.{Answer}
use Rattle.cells.specs.declared.corners.Corner.{Corner}
use Rattle.cells.specs.declared.refusals.Refusal.{Refusal}

-- number 6: the code is not proper
abbrev pub NoCell : ℕ → ℕ → Test
NoCell D c = refuses (answer 6 0 0) (proper D c ≡ false)

-- coordinates and level beside an answer
pub record PlaceAnswer : Type 0 where
  pub answer : Answer
  pub x : ℕ
  pub y : ℕ
  pub z : ℕ
  pub level : ℕ

-- they are 0 where the call is refused
abbrev pub nowhere : Answer → PlaceAnswer
nowhere a = record { answer = a; x = 0; y = 0; z = 0; level = 0 }

-- what the call's result tells
abbrev pub place_answer : Result Corner Refusal → PlaceAnswer
place_answer (Ok c) = record { answer = given 0; x = c.x; y = c.y; z = c.z; level = c.level }
place_answer (Err r) = nowhere (refused r)

-- THE CALL place: code to corner and level
abbrev pub PlaceOf : ℕ → ℕ → PlaceAnswer → Type 0
PlaceOf D c =
    Decided nowhere (TooDeep deepest D ∷ NoCell D c ∷ [])
    (λ r. r ≡ record { answer = given 0; x = corner 1 D c; y = corner 2 D c; z = corner 4 D c; level = level D c })

-- whether a corner x and a level are proper: the level is at most D, the corner lies in the root, each coordinate is a multiple of the side
unfoldable pub is_corner : ℕ → (ℕ → ℕ) → ℕ → Bool
is_corner D x k = nat_le k D && all_axes (λ a. nat_lt (x a) (2 ^ D) && x a % 2 ^ (D - k) == 0)

-- m is the cell of level k whose corner is x
pub record CellAt (D : ℕ) (x : ℕ → ℕ) (k m : ℕ) : Type 0 where
  pub is_proper : proper D m ≡ true
  pub is_level : level D m ≡ k
  pub each : EachAxis (λ a. corner (2 ^ a) D m ≡ x a)

-- THE CALL code: corner and level to code; number 6 where they are not proper
abbrev pub CodeOf : ℕ → (ℕ → ℕ) → ℕ → Answer → Type 0
CodeOf D x k = Decided alone (TooDeep deepest D ∷ refuses (answer 6 0 0) (is_corner D x k ≡ false) ∷ []) (λ r. (m : ℕ) × CellAt D x k m × (r ≡ given m))
