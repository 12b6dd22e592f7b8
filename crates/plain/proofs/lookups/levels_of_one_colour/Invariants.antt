-- The cell reached has one colour. Assumes nothing.
use Rattle.std.proofs.Common.{◌≡◌, ℕ, ◌/◌, ◌^◌, not}
use Rattle.plain.specs.Bits.{black_in}
use Rattle.plain.proofs.lookups.levels_of_one_colour.Given as goal

abbrev pub invariant-loop-levels : goal.invariant-loop-levels
invariant-loop-levels l = (u : ℕ) → u / 8 ^ l.levels ≡ l.v / 8 ^ l.levels → black_in l.bits.depth l.bits.bytes.now u ≡ not l.black → ⊥
