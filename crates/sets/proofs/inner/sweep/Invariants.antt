-- The emitter has what is black below v, and each cursor is at its list's first leaf that ends after v.
use Rattle.std.proofs.Common.{◌≡◌, ◌-◌}
use Rattle.sets.proofs.Pieces.{Swept}
use Rattle.sets.proofs.inner.sweep.Given as goal

abbrev pub invariant-loop-v : goal.invariant-loop-v
invariant-loop-v l = record {
  same : l.made.out.ghost_name ≡ l.initial.made.out.ghost_name;
  depth : l.made.depth ≡ l.depth;
  swept : Swept l.op l.depth l.a l.b l.initial.made.out.now l.made.out.now l.made.runs l.x l.y l.v;
}

abbrev pub decreases-loop-v : goal.decreases-loop-v
decreases-loop-v l = l.full - l.v
