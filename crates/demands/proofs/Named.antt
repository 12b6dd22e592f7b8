-- Named inputs for the impostors of document 01, with the right answer of each, worked out. Assumes nothing.
use mathlib.Core.Path.{◌≡◌, refl}
use mathlib.Core.Bool.{true}
use mathlib.Core.List.{List, [], ◌∷◌}
use Prim.Native.Nat.{ℕ}
use lib.Ieee.{binary64, of_bits}
use lib.IntN.{pos}
use lib.ListN.{length}
use Rattle.records.specs.Writing.{stands}
use Rattle.cells.specs.Answer.{answer, given}
use Rattle.cells.specs.Cell.{level, proper, index, side, start, span, holds}
use Rattle.cells.specs.Place.{along, number, corner}
use Rattle.records.specs.Calls.{CheckOf, VolumeOf}
use Rattle.records.specs.Count.{count}
use Rattle.records.specs.Fault.{all_from, early, eight_at, fault}
use Rattle.records.specs.Record.{black}
use Rattle.records.proofs.Fill.{upto, leaves, good_list}
use Rattle.sets.specs.declared.Op.{Op}
use Rattle.sets.specs.declared.Op.TheVariants.{Join, Intersect, Subtract}
use Rattle.sets.specs.Inner.{both}
use Rattle.sets.specs.Sets.{SetOf}
use Rattle.metres.proofs.Rounding.{rounded}
use Rattle.metres.specs.declared.Move.{Move}
use Rattle.metres.specs.declared.Move.TheVariants.{Metres}
use Rattle.shifts.specs.LabelSums.{sum_label, carry_label}
use Rattle.shifts.specs.Shift.{shift, shifted}
use Rattle.moves.specs.Inner.{keeps_along, leaf_keeps, reversed, back}
use Rattle.moves.specs.Moves.{MoveOf}
use Rattle.demands.specs.Examples.{Row, moves, makes, checks, measures, Fits, All, r057, r0, east, north}
use Rattle.demands.proofs.Worked.{all_work, all_fit}

-- ---- the inputs

-- depth 1, r0 r1 and r1 r2: their join, intersection and difference, none empty, none of the two
abbrev pub a : List ℕ
a = 8 ∷ 9 ∷ []

abbrev pub b : List ℕ
b = 9 ∷ 10 ∷ []

abbrev pub made : Op → List ℕ
made Join = 8 ∷ 9 ∷ 10 ∷ []
made Intersect = 9 ∷ []
made Subtract = 8 ∷ []

-- and of the second list with itself
abbrev pub twice : Op → List ℕ
twice Join = b
twice Intersect = b
twice Subtract = []

-- a buffer with something in it
abbrev pub room : List ℕ
room = 5 ∷ 5 ∷ 5 ∷ []

abbrev pub seven : List ℕ
seven = 5 ∷ 5 ∷ 5 ∷ 5 ∷ room

-- ---- the right answers, worked out

abbrev row : Op → Row
row op = makes op 1 a b 3 (given (length (made op))) (made op)

abbrev row_twice : Op → Row
row_twice op = makes op 1 b b 3 (given (length (twice op))) (twice op)

abbrev row_crowded : Op → Row
row_crowded op = makes op 1 a b 0 (answer 8 (length (made op)) 0) []

abbrev of_op : (Op → Row) → List Row → List Row
of_op f rows = f Join ∷ f Intersect ∷ f Subtract ∷ rows

abbrev named : List Row
named =
    moves 3 r057 (north (pos 5)) 3 (given 1) (701 ∷ [])
    ∷ moves 3 r057 (north (pos 1)) 3 (given 1) (573 ∷ [])
    ∷ moves 3 r057 (north (pos 0)) 3 (given 1) r057
    ∷ moves 2 r0 (east (pos 1)) 7 (answer 8 8 0) []
    ∷ checks 3 r057 (given 1)
    ∷ checks 3 [] (given 0)
    ∷ measures 3 r057 (given 1)
    ∷ measures 3 [] (given 0)
    ∷ of_op row (of_op row_twice (of_op row_crowded []))

named_work : all_work named ≡ true
unfolding level proper index side start span holds along number corner count all_from early eight_at fault black upto leaves good_list both sum_label carry_label shift shifted keeps_along leaf_keeps reversed back
named_work = refl

right : All Fits named
right = all_fit named named_work

-- ---- the same, by the call

pub right_far : MoveOf 3 r057 (north (pos 5)) room (given 1) (701 ∷ 5 ∷ 5 ∷ [])
right_far = right.0 room refl

pub right_near : MoveOf 3 r057 (north (pos 1)) room (given 1) (573 ∷ 5 ∷ 5 ∷ [])
right_near = right.1.0 room refl

pub right_still : MoveOf 3 r057 (north (pos 0)) room (given 1) (559 ∷ 5 ∷ 5 ∷ [])
right_still = right.1.1.0 room refl

pub right_seven : MoveOf 2 r0 (east (pos 1)) seven (answer 8 8 0) seven
right_seven = right.1.1.1.0 seven refl

pub right_check_lem : CheckOf 3 r057 (given 1)
right_check_lem = right.1.1.1.1.0

pub right_check_none : CheckOf 3 [] (given 0)
right_check_none = right.1.1.1.1.1.0

pub right_volume : VolumeOf 3 r057 (given 1)
right_volume = right.1.1.1.1.1.1.0

pub right_volume_none : VolumeOf 3 [] (given 0)
right_volume_none = right.1.1.1.1.1.1.1.0

-- the rows of an operation, in the rows that begin with those of all three
of_each : (f : Op → Row) (rows : List Row) → All Fits (of_op f rows) → (op : Op) → Fits (f op)
of_each f rows t Join = t.0
of_each f rows t Intersect = t.1.0
of_each f rows t Subtract = t.1.1.0

pub right_made : (op : Op) → SetOf op 1 a b room (given (length (made op))) (stands (made op) room)
right_made op = of_each row (of_op row_twice (of_op row_crowded [])) right.1.1.1.1.1.1.1.1 op room refl

pub right_twice : (op : Op) → SetOf op 1 b b room (given (length (twice op))) (stands (twice op) room)
right_twice op = of_each row_twice (of_op row_crowded []) right.1.1.1.1.1.1.1.1.1.1.1 op room refl

pub right_crowded : (op : Op) → SetOf op 1 a b [] (answer 8 (length (made op)) 0) []
right_crowded op = of_each row_crowded [] right.1.1.1.1.1.1.1.1.1.1.1.1.1.1 op [] refl

-- ---- metres: the second coordinate is no number

abbrev unmeasured : Move
unmeasured = Metres (record { x = of_bits binary64 0; y = of_bits binary64 0x7ff8_0000_0000_0000; z = of_bits binary64 0; s = 3 })

abbrev refused : List Row
refused = moves 3 r057 unmeasured 3 (answer 5 1 0) [] ∷ []

refused_works : all_work refused ≡ true
unfolding level proper index side start span holds along number corner all_from early eight_at fault rounded of_bits
refused_works = refl

pub right_refused : MoveOf 3 r057 unmeasured room (answer 5 1 0) room
right_refused = (all_fit refused refused_works).0 room refl
