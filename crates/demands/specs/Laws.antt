-- The end of demand 1 of the order, and demand 3 sentence by sentence, as laws of any calls: that are lent a buffer, carry a list or make one list of two. The
-- theorems of proofs/ say that the library's calls keep them. The order's conditions are the hypotheses of demand 3: moves in whole voxels, calls that succeed
-- where their list is taken further, buffers with room.
-- A displacement is any whole number here; the call takes those that can be written, and so a sum that can be written. Definitions only.
use Rattle.std.specs.Prelude.{◌≡◌, ◌↔◌, List, ℕ, ◌+◌, ℤ, ◌+ℤ◌, take, drop}
use Rattle.cells.specs.declared.Answer.{Answer}
use Rattle.records.specs.Calls.{VolumeOf}
use Rattle.metres.specs.declared.Move.TheVariants.{Voxels}
use Rattle.moves.specs.Moves.{MoveOf}

-- ---- calls

-- a call that carries a list voxel by voxel, as x says: the depth, the list, x and the buffer; the answer and the buffer afterwards
abbrev pub Carrier : Type 0 → Type 1
Carrier X = ℕ → List ℕ → X → List ℕ → Answer → List ℕ → Type 0

-- a call that makes one list of two
abbrev pub Combiner : Type 1
Combiner = ℕ → List ℕ → List ℕ → List ℕ → Answer → List ℕ → Type 0

-- the library's move, by whole voxels along each axis. Its join, intersection and difference are `SetOf Join`, `SetOf Intersect` and `SetOf Subtract`.
abbrev pub move : Carrier (ℕ → ℤ)
move D l d = MoveOf D l (Voxels (d 0) (d 1) (d 2))

-- ---- what an answer tells

abbrev pub Succeeds : Answer → Type 0
Succeeds r = r.number ≡ 0

-- some voxel would leave the root
abbrev pub Unaccepted : Answer → Type 0
Unaccepted r = r.number ≡ 7

-- the buffer had room
abbrev pub Roomy : Answer → Type 0
Roomy r = r.number ≡ 8 → ⊥

-- the list that a call wrote: as many leaves as its place says, at the front of the buffer
abbrev pub wrote : Answer → List ℕ → List ℕ
wrote r o = take r.place o

-- two calls succeed, with the same answer and the same list
pub record Alike (r : Answer) (o : List ℕ) (s : Answer) (p : List ℕ) : Type 0 where
  pub succeeds : Succeeds r
  pub same_answer : r ≡ s
  pub same_list : wrote r o ≡ wrote s p

-- ---- the law of demand 1

-- what a call leaves of the buffer o, which is o' afterwards: all of it where it is refused, and what lies beyond its place where it succeeds
pub record Kept (o : List ℕ) (r : Answer) (o' : List ℕ) : Type 0 where
  pub refused : (Succeeds r → ⊥) → o' ≡ o
  pub beyond : Succeeds r → drop r.place o' ≡ drop r.place o

-- "A rejected call changes no byte it was lent." And document 01: "Buffers beyond what is written keep their content."
abbrev pub Keeps : (List ℕ → Answer → List ℕ → Type 0) → Type 0
Keeps C = (o o' : List ℕ) (r : Answer) → C o r o' → Kept o r o'

-- ---- the laws of demand 3

-- "If a first move is accepted, a second is accepted exactly when the single move by their sum is, and ends in the same list."
abbrev pub TwoMoves : Carrier (ℕ → ℤ) → Type 0
TwoMoves M =
    (D : ℕ) (l : List ℕ) (d e : ℕ → ℤ)
    -- a first move
    → (o o' : List ℕ) (r : Answer) → M D l d o r o' → Succeeds r
    -- a second move, of the list that it wrote
    → (p p' : List ℕ) (s : Answer) → M D (wrote r o') e p s p'
    -- the single move by their sum
    → (q q' : List ℕ) (t : Answer) → M D l (λ a. d a +ℤ e a) q t q'
    → (Unaccepted s ↔ Unaccepted t) × ((Unaccepted s → ⊥) → Roomy s → Roomy t → Alike s p' t q')

-- "If two lists can both take a move, then moving and then joining, intersecting or subtracting gives the same list as doing that first and then moving."
abbrev pub Distributes : {X : Type 0} → Carrier X → Combiner → Type 0
Distributes {X} M C =
    (D : ℕ) (a b : List ℕ) (x : X)
    -- both lists are moved
    → (o o' : List ℕ) (r : Answer) → M D a x o r o' → Succeeds r
    → (p p' : List ℕ) (s : Answer) → M D b x p s p' → Succeeds s
    -- and made one
    → (q q' : List ℕ) (t : Answer) → C D (wrote r o') (wrote s p') q t q'
    -- both lists are made one
    → (f f' : List ℕ) (u : Answer) → C D a b f u f' → Succeeds u
    -- and moved
    → (g g' : List ℕ) (w : Answer) → M D (wrote u f') x g w g'
    → (Unaccepted w → ⊥) × (Roomy t → Roomy w → Alike t q' w g')

-- "Moves keep the black volume": both volumes are answers of the volume call
abbrev pub KeepsVolume : {X : Type 0} → Carrier X → Type 0
KeepsVolume {X} M =
    (D : ℕ) (l : List ℕ) (x : X) (o o' : List ℕ) (r : Answer) → M D l x o r o' → Succeeds r
    → (v w : Answer) → VolumeOf D l v → VolumeOf D (wrote r o') w → Succeeds v × (w ≡ v)

-- "the volumes of the join and the intersection add up to those of the two lists"
abbrev pub VolumesAddUp : Combiner → Combiner → Type 0
VolumesAddUp J I =
    (D : ℕ) (a b : List ℕ)
    → (o o' : List ℕ) (r : Answer) → J D a b o r o' → Succeeds r
    → (p p' : List ℕ) (s : Answer) → I D a b p s p' → Succeeds s
    -- the volumes of the first list, the second, the join and the intersection
    → (v w j i : Answer) → VolumeOf D a v → VolumeOf D b w → VolumeOf D (wrote r o') j → VolumeOf D (wrote s p') i
    → Succeeds v × Succeeds w × Succeeds j × Succeeds i × (j.place + i.place ≡ v.place + w.place)
