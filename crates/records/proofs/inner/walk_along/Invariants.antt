-- The walk has passed the first i codes, of whatever list they are told.
use Rattle.std.proofs.Common.{List, ℕ}
use Rattle.records.specs.Walk.{Faultless, Tells}
use Rattle.records.proofs.inner.walk_along.Given as goal

abbrev pub invariant-loop-i : goal.invariant-loop-i
invariant-loop-i g l = (xs : List ℕ) → Tells l.n (goal.F-post g l.code_at) xs → Faultless l.depth xs l.i l.walk
