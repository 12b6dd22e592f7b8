-- What the calls of the plain engine leave: ticket 5 of document 02. The set vocabulary is that of the lists: which voxels an operation takes (`Chosen`), where a
-- voxel came from (`FromBlack`, `Came`), a move's own tests and what it becomes (`move_tests`, `ByVoxels`). Definitions only.
use Rattle.std.specs.Prelude.{◌≡◌, Bool, true, List, [], ◌∷◌, ℕ, ◌^◌, ℤ, length}
use Rattle.cells.specs.Answer.{answer, given, Test, Decided, keeping, refuses_first, TooDeep}
use Rattle.cells.specs.Place.{axes, number, Came}
use Rattle.cells.specs.declared.Answer.{Answer}
use Rattle.records.specs.Record.{black}
use Rattle.records.specs.Fault.{Faulty}
use Rattle.records.specs.Lookups.{LookupAnswer, NoVoxel, unseen, SeenIn}
use Rattle.records.specs.Carried.{FromBlack}
use Rattle.records.specs.Writing.{stands, TooShort, WritesListOf}
use Rattle.sets.specs.Sets.{Chosen}
use Rattle.sets.specs.declared.Op.{Op}
use Rattle.metres.specs.Metres.{move_tests}
use Rattle.metres.specs.declared.Move.{Move}
use Rattle.moves.specs.Moves.{ByVoxels}
use Rattle.plain.specs.Bits.{bytes_for, black_in, BitsOf}

-- the greatest depth of the plain engine
abbrev pub deepest_plain : ℕ
deepest_plain = 6

-- number 8: the bit buffer b, read or written, is shorter than the bits of depth D
abbrev pub BitsShort : ℕ → List ℕ → Test
BitsShort D b = TooShort (bytes_for D) b

-- success: the bits of the voxels that have P stand at the front of the buffer o, and their bytes are told
abbrev pub GivesBits : ℕ → (ℕ → Type 0) → List ℕ → Answer × List ℕ → Type 0
GivesBits D P o s = (t : List ℕ) × BitsOf D P t × (s ≡ (given (length t), stands t o))

-- THE CALL to_bits, of the list l to the bit buffer o: the answer r and the buffer o' afterwards
abbrev pub ToBitsOf : ℕ → List ℕ → List ℕ → Answer → List ℕ → Type 0
ToBitsOf D l o r o' = Decided (keeping o) (TooDeep deepest_plain D ∷ Faulty D l 1 ∷ BitsShort D o ∷ []) (GivesBits D (λ v. black D l v ≡ true) o) (r, o')

-- THE CALL to_list, of the bits b to the list buffer o
abbrev pub ToListOf : ℕ → List ℕ → List ℕ → Answer → List ℕ → Type 0
ToListOf D b o r o' = Decided (keeping o) (TooDeep deepest_plain D ∷ BitsShort D b ∷ []) (WritesListOf D (λ v. black_in D b v ≡ true) o) (r, o')

-- THE CALLS join_bits, intersect_bits and subtract_bits, of the bits a and b to the bit buffer o
abbrev pub SetBitsOf : Op → ℕ → List ℕ → List ℕ → List ℕ → Answer → List ℕ → Type 0
SetBitsOf op D a b o r o' =
    Decided (keeping o) (TooDeep deepest_plain D ∷ BitsShort D a ∷ BitsShort D b ∷ BitsShort D o ∷ [])
    (GivesBits D (λ v. Chosen op (black_in D a v ≡ true) (black_in D b v ≡ true)) o) (r, o')

-- the voxel u is black in the set P, and is carried nowhere; R u v says that it is carried to v
abbrev pub Leaves : (ℕ → ℕ → Type 0) → (ℕ → Bool) → ℕ → Type 0
Leaves R P u = (P u ≡ true) × ((v : ℕ) → R u v → ⊥)

-- number 7: the first such voxel
abbrev pub Leaving : ℕ → (ℕ → ℕ → Type 0) → (ℕ → Bool) → Test
Leaving D R P = refuses_first (8 ^ D) (Leaves R P) (λ u. answer 7 u 1)

-- the bits b moved by the displacement d, to the bit buffer o
abbrev pub ShiftBitsOf : ℕ → List ℕ → List ℕ → (ℕ → ℤ) → Answer × List ℕ → Type 0
ShiftBitsOf D b o d =
    Decided (keeping o) (BitsShort D b ∷ BitsShort D o ∷ Leaving D (Came D d) (black_in D b) ∷ [])
    (GivesBits D (FromBlack (Came D d) (black_in D b)) o)

-- THE CALL move_bits, of the bits b by the move m to the bit buffer o
abbrev pub MoveBitsOf : ℕ → List ℕ → Move → List ℕ → Answer → List ℕ → Type 0
MoveBitsOf D b m o r o' = Decided (keeping o) (TooDeep deepest_plain D ∷ move_tests m) (ByVoxels m (ShiftBitsOf D b o)) (r, o')

-- THE CALL lookup_bits, of the voxel x, y, z in the bits b: what the lookup in a list tells
abbrev pub LookupBitsOf : ℕ → List ℕ → ℕ → ℕ → ℕ → LookupAnswer → Type 0
LookupBitsOf D b x y z = Decided unseen (TooDeep deepest_plain D ∷ NoVoxel D (axes x y z) ∷ BitsShort D b ∷ []) (SeenIn D (black_in D b) (number D x y z))
