-- The voxels below v are written. Assumes nothing.
use Rattle.std.proofs.Common.{◌≡◌, true}
use Rattle.sets.specs.Sets.{Chosen}
use Rattle.plain.specs.Bits.{black_in}
use Rattle.plain.proofs.BitLaws.{Progress}
use Rattle.plain.proofs.operations.paint_chosen.Given as goal

abbrev pub invariant-loop-v : goal.invariant-loop-v
invariant-loop-v l = Progress (λ u. Chosen l.op (black_in l.a.depth l.a.bytes.now u ≡ true) (black_in l.a.depth l.b.bytes.now u ≡ true)) l.v l.fn.out l.out
