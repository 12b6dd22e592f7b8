-- The calls that document 01 wants told apart from the library's ("How tight the statements are") and that take a definition of their own. Definitions only.
use Rattle.std.specs.Prelude.{◌≡◌, true, [], ◌∷◌, ℕ, ◌*◌, ◌%◌, ℤ, pos}
use Rattle.cells.specs.Answer.{Decided, keeping, deepest, TooDeep}
use Rattle.cells.specs.Place.{axes, number}
use Rattle.records.specs.Record.{black}
use Rattle.records.specs.Fault.{Faulty}
use Rattle.records.specs.Lookups.{NoVoxel, unseen, seen, SeenIn}
use Rattle.records.specs.Writing.{WritesListOf}
use Rattle.plain.specs.Bits.{black_in}
use Rattle.plain.specs.Calls.{deepest_plain, BitsShort}
use Rattle.demands.specs.Laws.{Carrier, Combiner, move}
use Rattle.demands.specs.Lookups.{Looker}
use Rattle.demands.specs.Turns.{turn}

-- A call with the tests of join, intersect and subtract, that gives the good list of the voxels that T takes, from whether they are black in the first list and in the
-- second. `SetOf op` is `Combines (Chosen op)`.
abbrev pub Combines : (Type 0 → Type 0 → Type 0) → Combiner
Combines T D a b o r o' =
    Decided (keeping o) (TooDeep deepest D ∷ Faulty D a 1 ∷ Faulty D b 2 ∷ []) (WritesListOf D (λ v. T (black D a v ≡ true) (black D b v ≡ true)) o) (r, o')

-- a join that is its first list, and an intersection that is its second
abbrev pub first_list : Combiner
first_list = Combines (λ A B. A)

abbrev pub second_list : Combiner
second_list = Combines (λ A B. B)

-- a move that goes along x and skips y and z
abbrev pub along_x : Carrier (ℕ → ℤ)
along_x D l d = move D l (axes (d 0) (pos 0) (pos 0))

-- a lookup in bits that tests the bits before the voxel
abbrev pub short_first : Looker
short_first D b x y z = Decided unseen (TooDeep deepest_plain D ∷ BitsShort D b ∷ NoVoxel D (axes x y z) ∷ []) (SeenIn D (black_in D b) (number D x y z))

-- a lookup that tells the level of a voxel, D, whatever the cell
abbrev pub voxel_alone : Looker
voxel_alone D l x y z = Decided unseen (TooDeep deepest D ∷ Faulty D l 1 ∷ NoVoxel D (axes x y z) ∷ []) (λ r. r ≡ seen (black D l (number D x y z)) D)

-- a turn that goes the other way round: three times as many this way
abbrev pub other_way : Carrier ℕ
other_way D l n = turn D l (3 * n % 4)

-- a turn that leaves the list as it is
abbrev pub unturned : Carrier ℕ
unturned D l n = turn D l 0
