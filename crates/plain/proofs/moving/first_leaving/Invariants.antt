-- No voxel passed leaves, whatever displacement the parts are those of. Assumes nothing.
use Rattle.std.proofs.Common.{ℕ, ◌<◌, ℤ}
use Rattle.cells.specs.Place.{Came}
use Rattle.moves.specs.Inner.{AllSplit, parts}
use Rattle.plain.specs.Bits.{black_in}
use Rattle.plain.specs.Calls.{Leaves}
use Rattle.plain.proofs.moving.first_leaving.Given as goal

abbrev pub invariant-loop-u : goal.invariant-loop-u
invariant-loop-u l = (by : ℕ → ℤ) → AllSplit by (parts l.d) → (j : ℕ) → j < l.u → Leaves (Came l.bits.depth by) (black_in l.bits.depth l.bits.bytes.now) j → ⊥
