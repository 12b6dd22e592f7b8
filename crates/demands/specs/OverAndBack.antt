-- Ticket 3 in the customer's story: "a record sent over and back shifts by a cell", as a law that forbids it, of any call that moves a list by metres. Definitions only.
use Rattle.std.specs.Prelude.{◌≡◌, ◌⊎◌, List, [], ℕ, length}
use Rattle.cells.specs.Answer.{given}
use Rattle.cells.specs.declared.Answer.{Answer}
use Rattle.metres.specs.Opposite.{opposite}
use Rattle.metres.specs.declared.Metres.{Metres}
use Rattle.metres.specs.declared.Move.TheVariants as the-move
use Rattle.moves.specs.Moves.{MoveOf}
use Rattle.demands.specs.Laws.{Carrier, Succeeds, Unaccepted, Roomy, wrote}

-- the library's move by metres
abbrev pub move_metres : Carrier Metres
move_metres D l m = MoveOf D l (the-move.Metres m)

-- the metres are no whole move
abbrev pub Unmeasured : Answer → Type 0
Unmeasured r = r.number ≡ 5

-- the way back gives the record l: no voxel leaves the root, and with room the answer and the list are those of l
abbrev pub Returns : List ℕ → Answer → List ℕ → Type 0
Returns l s p' = (Unaccepted s → ⊥) × (Roomy s → (s ≡ given (length l)) × (wrote s p' ≡ l))

-- A record moved over by metres, and moved back by the negated metres, is the record itself. Only the empty record goes over by metres whose negation is no whole move.
abbrev pub OverAndBack : Carrier Metres → Type 0
OverAndBack M =
    (D : ℕ) (l : List ℕ) (m : Metres)
    -- over
    → (o o' : List ℕ) (r : Answer) → M D l m o r o' → Succeeds r
    -- and back
    → (p p' : List ℕ) (s : Answer) → M D (wrote r o') (opposite m) p s p'
    → ((l ≡ []) × Unmeasured s) ⊎ Returns l s p'
