-- Ticket 5 of document 02: "Prove, once for all its depths, that with room it accepts what the list engine accepts and gives the same voxels", as laws of any two
-- calls, one on lists and one on bits. The theorems of proofs/ say that the library's calls keep them. Definitions only.
use Rattle.records.specs.Lookups.{LookupAnswer}
use Rattle.std.specs.Prelude.{◌≡◌, ◌⊎◌, true, List, ℕ, ◌*◌, ◌^◌, ◌<◌, ◌≤◌, get_or, take}
use Rattle.cells.specs.Cell.{holds}
use Rattle.cells.specs.declared.Answer.{Answer}
use Rattle.records.specs.Record.{black, Good}
use Rattle.records.specs.Calls.{CheckOf}
use Rattle.metres.specs.declared.Move.{Move}
use Rattle.plain.specs.Bits.{bytes_for, bit_at, black_in}
use Rattle.plain.specs.Calls.{deepest_plain}
use Rattle.demands.specs.Laws.{Carrier, Combiner, Succeeds, Unaccepted, Roomy, wrote}
use Rattle.demands.specs.Lookups.{Looker}
use Rattle.demands.specs.OverAndBack.{Unmeasured}

-- l is a good list, and the bits b have its voxels
pub record SameVoxels (D : ℕ) (l b : List ℕ) : Type 0 where
  pub good : Good D l
  pub same : (v : ℕ) → v < 8 ^ D → black D l v ≡ black_in D b v

-- ---- a list to bits, and bits to a list

-- a call that makes bits of a list, or a list of bits: the depth, what is read, and the buffer; the answer and the buffer afterwards
abbrev pub Converter : Type 1
Converter = ℕ → List ℕ → List ℕ → Answer → List ℕ → Type 0

-- a list that the check accepts becomes bits of its voxels, and one that it refuses is refused with the check's own answer
abbrev pub PaintsLists : Converter → Type 0
PaintsLists T =
    (D : ℕ) (l : List ℕ) → D ≤ deepest_plain
    → (o o' : List ℕ) (r : Answer) → T D l o r o' → Roomy r
    → (c : Answer) → CheckOf D l c
    → (Succeeds c × Succeeds r × SameVoxels D l o') ⊎ ((Succeeds c → ⊥) × (r ≡ c))

-- bits become the good list of their voxels
abbrev pub ListsBits : Converter → Type 0
ListsBits U = (D : ℕ) (b : List ℕ) → D ≤ deepest_plain → (o o' : List ℕ) (r : Answer) → U D b o r o' → Roomy r → Succeeds r × SameVoxels D (wrote r o') b

-- "List to bits and back is the list"
abbrev pub ListAndBack : Converter → Converter → Type 0
ListAndBack T U =
    (D : ℕ) (l : List ℕ)
    → (o o' : List ℕ) (r : Answer) → T D l o r o' → Succeeds r
    → (p p' : List ℕ) (s : Answer) → U D o' p s p' → Roomy s
    → Succeeds s × (wrote s p' ≡ l)

-- the bits b and c are the same, but that the spare bits of c are 0
pub record SameBits (D : ℕ) (b c : List ℕ) : Type 0 where
  pub voxels : (v : ℕ) → v < 8 ^ D → bit_at c v ≡ bit_at b v
  pub spare : (v : ℕ) → 8 ^ D ≤ v → v < 8 * bytes_for D → bit_at c v ≡ 0
  -- where those of b are 0 too, the bytes are the same
  pub bytes : ((i : ℕ) → get_or b i 0 < 256) → ((v : ℕ) → 8 ^ D ≤ v → v < 8 * bytes_for D → bit_at b v ≡ 0) → c ≡ take (bytes_for D) b

-- "bits to list and back are the bits (spare bits 0)"
abbrev pub BitsAndBack : Converter → Converter → Type 0
BitsAndBack T U =
    (D : ℕ) (b : List ℕ)
    → (o o' : List ℕ) (r : Answer) → U D b o r o' → Succeeds r
    → (p p' : List ℕ) (s : Answer) → T D (wrote r o') p s p' → Roomy s
    → Succeeds s × SameBits D b (wrote s p')

-- ---- both engines do the same

-- a move of a list and a move of bits: the answer r and the buffer o' of the one, s and p' of the other
pub record MovedAlike (D : ℕ) (l : List ℕ) (r : Answer) (o' : List ℕ) (s : Answer) (p' : List ℕ) : Type 0 where
  -- the one accepts what the other accepts
  pub same_number : s.number ≡ r.number
  -- success: the bits are the voxels of the list
  pub moved : Succeeds r → SameVoxels D (wrote r o') p'
  -- number 7: the voxel that the one names lies in the leaf that the other names
  pub strays : Unaccepted r → holds D (get_or l r.place 0) s.place ≡ true
  -- number 5: the same place
  pub unmeasured : Unmeasured r → s ≡ r

abbrev pub MovesAlike : Carrier Move → Carrier Move → Type 0
MovesAlike M N =
    (D : ℕ) (l b : List ℕ) (m : Move) → D ≤ deepest_plain → SameVoxels D l b
    → (o o' : List ℕ) (r : Answer) → M D l m o r o' → Roomy r
    → (p p' : List ℕ) (s : Answer) → N D b m p s p' → Roomy s
    → MovedAlike D l r o' s p'

-- a join, an intersection or a difference of two lists, and one of their bits
abbrev pub CombinesAlike : Combiner → Combiner → Type 0
CombinesAlike C K =
    (D : ℕ) (a b a' b' : List ℕ) → D ≤ deepest_plain → SameVoxels D a a' → SameVoxels D b b'
    → (o o' : List ℕ) (r : Answer) → C D a b o r o' → Roomy r
    → (p p' : List ℕ) (s : Answer) → K D a' b' p s p' → Roomy s
    → Succeeds r × Succeeds s × SameVoxels D (wrote r o') p'

-- a voxel looked up in a list, and in its bits: the same answer and level, refusals too
abbrev pub LooksAlike : Looker → Looker → Type 0
LooksAlike L K = (D : ℕ) (l b : List ℕ) → D ≤ deepest_plain → SameVoxels D l b → (x y z : ℕ) (r s : LookupAnswer) → L D l x y z r → K D b x y z s → Roomy s.answer → s ≡ r
