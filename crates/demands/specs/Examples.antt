-- The checked examples of document 01, with ticket 3's, as rows: a call with its inputs, and what it leaves. A row that has a star there stands with its whole bullet.
-- Definitions only.
use Rattle.std.specs.Prelude.{List, [], ◌∷◌, ◌≡◌, ℕ, ℤ, pos, negsuc, length}
use Rattle.std.specs.Float.{binary64}
use Rattle.std.specs.Float.Ieee.{of_bits}
use Rattle.cells.specs.Answer.{answer, given}
use Rattle.cells.specs.Neighbour.{NeighbourOf}
use Rattle.cells.specs.Place.{axes}
use Rattle.cells.specs.declared.Answer.{Answer}
use Rattle.records.specs.Calls.{CheckOf, VolumeOf}
use Rattle.records.specs.Writing.{stands}
use Rattle.sets.specs.declared.Op.{Op}
use Rattle.sets.specs.declared.Op.TheVariants.{Join, Subtract}
use Rattle.sets.specs.Sets.{SetOf}
use Rattle.metres.specs.Metres.{Becomes}
use Rattle.metres.specs.Opposite.{opposite}
use Rattle.metres.specs.declared.Metres.{Metres}
use Rattle.metres.specs.declared.Move.{Move}
use Rattle.metres.specs.declared.Move.TheVariants.{Voxels}
use Rattle.metres.specs.declared.Move.TheVariants as the-move
use Rattle.moves.specs.Moves.{MoveOf}

pub data Row : Type 0 where
  -- the move call: depth, list, move, the buffer's places; the answer and the list written
  moves : ℕ → List ℕ → Move → ℕ → Answer → List ℕ → Row
  -- join, intersection or difference: depth, two lists, the buffer's places; the answer and the list written
  makes : Op → ℕ → List ℕ → List ℕ → ℕ → Answer → List ℕ → Row
  -- the check and the volume: depth, list; the answer
  checks : ℕ → List ℕ → Answer → Row
  measures : ℕ → List ℕ → Answer → Row
  -- the neighbour address: depth, code, direction; the answer
  steps : ℕ → ℕ → ℤ → ℤ → ℤ → Answer → Row
  -- the whole voxels that a move becomes in the move call
  becomes : Move → ℤ → ℤ → ℤ → Row

-- The row fits the definition that is the call's contract: whatever stands in the buffer, the list is written at its front, and beyond it is as it was.
abbrev pub Fits : Row → Type 0
Fits (moves D l m n r w) = (o : List ℕ) → length o ≡ n → MoveOf D l m o r (stands w o)
Fits (makes op D a b n r w) = (o : List ℕ) → length o ≡ n → SetOf op D a b o r (stands w o)
Fits (checks D l r) = CheckOf D l r
Fits (measures D l r) = VolumeOf D l r
Fits (steps D c dx dy dz r) = NeighbourOf D c (axes dx dy dz) r
Fits (becomes m i j k) = Becomes m (axes i j k)

abbrev pub All : (Row → Type 0) → List Row → Type 0
All F [] = Unit {0}
All F (x ∷ rows) = F x × All F rows

-- ---- the table

abbrev pub r057 : List ℕ
r057 = 559 ∷ []

abbrev r275 : List ℕ
r275 = 701 ∷ []

abbrev pub r0 : List ℕ
r0 = 8 ∷ []

abbrev root : List ℕ
root = 1 ∷ []

-- r01 r03 r05 r07 r10 r12 r14 r16
abbrev face : List ℕ
face = 65 ∷ 67 ∷ 69 ∷ 71 ∷ 72 ∷ 74 ∷ 76 ∷ 78 ∷ []

-- the root less r057: r00 to r04, r050 to r056, r06, r07, r1 to r7
abbrev rest : List ℕ
rest = 64 ∷ 65 ∷ 66 ∷ 67 ∷ 68 ∷ 552 ∷ 553 ∷ 554 ∷ 555 ∷ 556 ∷ 557 ∷ 558 ∷ 70 ∷ 71 ∷ 9 ∷ 10 ∷ 11 ∷ 12 ∷ 13 ∷ 14 ∷ 15 ∷ []

abbrev pub east : ℤ → Move
east d = Voxels d (pos 0) (pos 0)

abbrev pub north : ℤ → Move
north d = Voxels (pos 0) d (pos 0)

-- 0.0625, -0.0625 and 0.1875 metres, in voxels of an eighth of a metre
abbrev sixteenths : Metres
sixteenths = record { x = of_bits binary64 0x3fb0_0000_0000_0000; y = of_bits binary64 0xbfb0_0000_0000_0000; z = of_bits binary64 0x3fc8_0000_0000_0000; s = 3 }

abbrev pub table : List Row
table =
    moves 3 r057 (north (pos 5)) 1 (given 1) r275  -- *
    ∷ moves 3 r275 (north (negsuc 4)) 1 (given 1) r057  -- *
    ∷ moves 3 r057 (north (pos 1)) 1 (given 1) (573 ∷ [])  -- * r075
    ∷ moves 3 r057 (north (pos 6)) 1 (given 1) (703 ∷ [])  -- r277
    ∷ moves 3 r057 (north (pos 7)) 1 (answer 7 0 1) []  -- *
    ∷ moves 3 r057 (north (negsuc 0)) 1 (given 1) (557 ∷ [])  -- * r055
    ∷ moves 3 r057 (north (negsuc 1)) 1 (answer 7 0 1) []
    ∷ moves 2 r0 (east (pos 1)) 8 (given 8) face  -- *
    ∷ moves 2 face (east (negsuc 0)) 1 (given 1) r0  -- *
    ∷ moves 2 r0 (east (pos 1)) 7 (answer 8 8 0) []
    ∷ moves 0 root (east (pos 0)) 1 (given 1) root  -- *
    ∷ moves 0 root (east (pos 1)) 1 (answer 7 0 1) []
    ∷ moves 3 [] (east (negsuc 2147483647)) 0 (given 0) []  -- * x = -2^31
    ∷ steps 3 994 (negsuc 0) (pos 1) (pos 1) (given 957)  -- * r742, r675
    ∷ steps 1 8 (negsuc 0) (pos 0) (pos 0) (answer 7 0 0)
    ∷ checks 1 (8 ∷ 9 ∷ 10 ∷ 11 ∷ 12 ∷ 13 ∷ 14 ∷ 15 ∷ []) (answer 4 7 1)
    ∷ makes Join 1 (8 ∷ 9 ∷ 10 ∷ 11 ∷ []) (12 ∷ 13 ∷ 14 ∷ 15 ∷ []) 1 (given 1) root  -- *
    ∷ makes Subtract 3 root r057 21 (given 21) rest  -- *
    ∷ measures 3 rest (given 511)  -- *
    ∷ becomes (the-move.Metres sixteenths) (pos 1) (negsuc 0) (pos 2)  -- * ticket 3: -0.0625 gives -1
    ∷ becomes (the-move.Metres (opposite sixteenths)) (negsuc 0) (pos 1) (negsuc 1)  -- and -0.1875 gives -2
    ∷ moves 3 r057 (the-move.Metres sixteenths) 1 (given 1) (836 ∷ [])  -- r504
    ∷ moves 3 (836 ∷ []) (the-move.Metres (opposite sixteenths)) 1 (given 1) r057
    ∷ []
