-- Ticket 4 of document 02, sentence by sentence, as laws of any call that turns a list; "keeps .. the volume" is `KeepsVolume`, and "turning carries through join,
-- intersection and difference" is `Distributes`, laws of demand 3. The theorems of proofs/ say that the library's call keeps them. Definitions only.
use Rattle.std.specs.Prelude.{◌≡◌, ◌⊎◌, ◌↔◌, List, ℕ, ◌+◌, ◌%◌, ◌<◌, ◌≤◌, ℤ, neg_ℤ, length}
use Rattle.cells.specs.Answer.{answer, given, deepest}
use Rattle.cells.specs.Place.{axes}
use Rattle.cells.specs.declared.Answer.{Answer}
use Rattle.records.specs.Record.{Good}
use Rattle.turns.specs.Turns.{most_turns, TurnOf}
use Rattle.demands.specs.Laws.{Carrier, Succeeds, Unaccepted, Roomy, wrote, Alike}

-- the library's turn
abbrev pub turn : Carrier ℕ
turn = TurnOf

-- "A turn never leaves the root, keeps the leaf count": a good list is refused for want of room alone, and the room that it needs is that of its own leaves
abbrev pub KeepsLeaves : Carrier ℕ → Type 0
KeepsLeaves T =
    (D : ℕ) (l : List ℕ) (n : ℕ) → D ≤ deepest → Good D l → n ≤ most_turns
    → (o o' : List ℕ) (r : Answer) → T D l n o r o'
    → ((length l ≤ length o) × (r ≡ given (length l))) ⊎ ((length o < length l) × (r ≡ answer 8 (length l) 0))

-- no turn: the list itself
abbrev pub NoneIsItself : Carrier ℕ → Type 0
NoneIsItself T = (D : ℕ) (l : List ℕ) (o o' : List ℕ) (r : Answer) → T D l 0 o r o' → Succeeds r → wrote r o' ≡ l

-- "Turns add up modulo four"
abbrev pub TurnsAddUp : Carrier ℕ → Type 0
TurnsAddUp T =
    (D : ℕ) (l : List ℕ) (m n : ℕ) → n ≤ most_turns
    -- a first turn
    → (o o' : List ℕ) (r : Answer) → T D l m o r o' → Succeeds r
    -- a second turn, of the list that it wrote
    → (p p' : List ℕ) (s : Answer) → T D (wrote r o') n p s p'
    -- the single turn by their sum
    → (q q' : List ℕ) (t : Answer) → T D l ((m + n) % 4) q t q'
    → Roomy s → Roomy t → Alike s p' t q'

-- the displacement (dx, dy, dz) turned: (-dy, dx, dz)
abbrev pub quarter : (ℕ → ℤ) → ℕ → ℤ
quarter d = axes (neg_ℤ (d 1)) (d 0) (d 2)

-- "A move by (dx, dy, dz) and then one turn equals the turn and then a move by (-dy, dx, dz)": the one move is accepted exactly when the other is
abbrev pub TurnsMoves : Carrier (ℕ → ℤ) → Carrier ℕ → Type 0
TurnsMoves M T =
    (D : ℕ) (l : List ℕ) (d : ℕ → ℤ)
    -- the turn
    → (o o' : List ℕ) (r : Answer) → T D l 1 o r o' → Succeeds r
    -- and then the turned move
    → (p p' : List ℕ) (s : Answer) → M D (wrote r o') (quarter d) p s p'
    -- the move
    → (q q' : List ℕ) (t : Answer) → M D l d q t q'
    → (Unaccepted t ↔ Unaccepted s)
    -- and then the turn
    × (Succeeds t → (f f' : List ℕ) (u : Answer) → T D (wrote t q') 1 f u f' → Roomy u → Roomy s → Alike u f' s p')
