-- Why a call refuses, in the numbers of the table: the number, place and list of each refusal, and what a call's result tells. Definitions only.
use Rattle.std.specs.Prelude.{ℕ, Result, Ok, Err}
use Rattle.cells.specs.Answer.{answer, given}
use Rattle.cells.specs.declared.Answer.{Answer}
use Rattle.cells.specs.declared.refusals.Fault.{Fault}
use Rattle.cells.specs.declared.refusals.Fault.TheVariants.{NotProper, Early, EightSiblings}
use Rattle.cells.specs.declared.refusals.NoWholeMove.{NoWholeMove}
use Rattle.cells.specs.declared.refusals.NoWholeMove.TheVariants.{X, Y, Z, EdgeNumber}
use Rattle.cells.specs.declared.refusals.Refusal.{Refusal}
use Rattle.cells.specs.declared.refusals.Refusal.TheVariants.{Depth, Leaf, NoMove, NoCell, NoCorner, NoVoxel, NoDirection, NoTurn, Outside, Strays, TooShort, BadBlock, BadText}

-- the number of a fault
abbrev pub fault_number : Fault → ℕ
fault_number NotProper = 2
fault_number Early = 3
fault_number EightSiblings = 4

-- the place that tells what makes a move in metres none in whole voxels
abbrev pub no_move_place : NoWholeMove → ℕ
no_move_place X = 0
no_move_place Y = 1
no_move_place Z = 2
no_move_place EdgeNumber = 3

-- number, place and list of a refusal
abbrev pub refused : Refusal → Answer
refused Depth = answer 1 0 0
refused (Leaf f i k) = answer (fault_number f) i k
refused (NoMove m) = answer 5 (no_move_place m) 0
refused NoCell = answer 6 0 0
refused NoCorner = answer 6 0 0
refused NoVoxel = answer 6 0 0
refused NoDirection = answer 6 1 0
refused NoTurn = answer 6 1 0
refused Outside = answer 7 0 0
refused (Strays i k) = answer 7 i k
refused (TooShort n) = answer 8 n 0
refused (BadBlock i) = answer 9 i 0
refused (BadText i) = answer 10 i 0

-- what a call tells whose success is a number: that number as the place of success, or the refusal
abbrev pub answer_of : Result ℕ Refusal → Answer
answer_of (Ok p) = given p
answer_of (Err r) = refused r
