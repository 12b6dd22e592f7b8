-- The voxels below v are written, whatever displacement `back` leads back from. Assumes nothing.
use Rattle.std.proofs.Common.{ℕ, ℤ, neg_ℤ}
use Rattle.cells.specs.Place.{Came}
use Rattle.records.specs.Carried.{FromBlack}
use Rattle.moves.specs.Inner.{AllSplit, parts}
use Rattle.plain.specs.Bits.{black_in}
use Rattle.plain.proofs.BitLaws.{Progress}
use Rattle.plain.proofs.moving.paint_moved.Given as goal

abbrev pub invariant-loop-v : goal.invariant-loop-v
invariant-loop-v l = (by : ℕ → ℤ) → AllSplit (λ a. neg_ℤ (by a)) (parts l.back) → Progress (FromBlack (Came l.bits.depth by) (black_in l.bits.depth l.bits.bytes.now)) l.v l.fn.out l.out
