-- No voxel passed has another colour. Assumes nothing.
use Rattle.std.proofs.Common.{◌≡◌, ℕ, ◌+◌, ◌<◌, not, eqb}
use Rattle.plain.specs.Bits.{bit_at}
use Rattle.plain.proofs.lookups.first_other.Given as goal

abbrev pub invariant-loop-i : goal.invariant-loop-i
invariant-loop-i l = (j : ℕ) → j < l.i → eqb (bit_at l.bits (l.from + j)) 1 ≡ not l.black → ⊥
