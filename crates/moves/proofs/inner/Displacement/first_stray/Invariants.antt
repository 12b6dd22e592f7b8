-- Each leaf passed stays. Assumes nothing.
use Rattle.std.proofs.Common.{◌≡◌, ℕ, ◌<◌, false, get_or}
use Rattle.moves.specs.Inner.{parts, leaf_keeps}
use Rattle.moves.proofs.inner.Displacement.first_stray.Given as goal

abbrev pub invariant-loop-i : goal.invariant-loop-i
invariant-loop-i l = (j : ℕ) → j < l.i → leaf_keeps l.depth (parts l.self) (get_or l.list j 0) ≡ false → ⊥
