-- What a probe leaves in its answer buffer. Definitions only.
use Rattle.std.specs.Prelude.{◌≡◌, ◌⊎◌, List, ◌∷◌, ◌++◌, ℕ, ◌-◌, ◌<◌, ◌≤◌, min, length, replicate, take, drop, Float}
use Rattle.cells.specs.declared.Answer.{Answer}
use Rattle.records.specs.Lookups.{LookupAnswer}
use Rattle.metres.specs.declared.Metres.{Metres}

-- the buffer o afterwards: number, place, list, the four numbers beside the place, and 0 in the rest
abbrev pub told : List ℕ → Answer → ℕ → ℕ → ℕ → ℕ → List ℕ
told o a x y z k = a.number ∷ a.place ∷ a.list ∷ x ∷ y ∷ z ∷ k ∷ replicate (length o - 7) 0

-- With fewer than 8 words for the answer nothing is done; else the call is made and its answer told. o is the answer buffer, o' what is left of it.
abbrev pub Probed : List ℕ → Type 0 → Type 0 → Type 0
Probed o idle busy = ((length o < 8) × idle) ⊎ ((8 ≤ length o) × busy)

-- an answer that fits F is told, with nothing beside its place
abbrev pub Tells : List ℕ → List ℕ → (Answer → Type 0) → Type 0
Tells o o' F = Probed o (o' ≡ o) ((a : Answer) × F a × (o' ≡ told o a 0 0 0 0))

-- the same of a call that is lent a buffer: p, and p' afterwards
abbrev pub Writes : List ℕ → List ℕ → List ℕ → List ℕ → (Answer → List ℕ → Type 0) → Type 0
Writes o o' p p' F = Probed o ((o' ≡ o) × (p' ≡ p)) ((a : Answer) × F a p' × (o' ≡ told o a 0 0 0 0))

-- a voxel's finding that fits F is told: its answer, with the level last beside the place
abbrev pub Finds : List ℕ → List ℕ → (LookupAnswer → Type 0) → Type 0
Finds o o' F = Probed o (o' ≡ o) ((r : LookupAnswer) × F r × (o' ≡ told o r.answer 0 0 0 r.level))

-- the codes l at the front of the buffer o, as many as fit
abbrev pub copied : List ℕ → List ℕ → List ℕ
copied l o = take (min (length l) (length o)) l ++ drop (min (length l) (length o)) o

-- the metres record of three coordinates and the edge number
abbrev pub metres_of : Float → Float → Float → ℕ → Metres
metres_of x y z s = record { x = x; y = y; z = z; s = s }
