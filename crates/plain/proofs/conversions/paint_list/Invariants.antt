-- The voxels below v are written, and `at` leaves start before v. Assumes nothing.
use Rattle.std.proofs.Common.{◌≡◌, true, length}
use Rattle.records.specs.Record.{black}
use Rattle.records.specs.Inner.{Starts}
use Rattle.plain.proofs.BitLaws.{Progress}
use Rattle.plain.proofs.conversions.paint_list.Given as goal

abbrev pub invariant-loop-v : goal.invariant-loop-v
invariant-loop-v l = record { written : Progress (λ u. black l.depth l.list u ≡ true) l.v l.fn.bits l.bits; started : Starts l.depth l.list l.v 0 (length l.list) l.at }
