-- The cells of the run up to p are put, whatever the set, and [p, to) is the pending run.
use Rattle.std.proofs.Common.{◌-◌, ◌≡◌, Bool, ℕ}
use Rattle.emit.specs.Inner.{Ready, Fed}
use Rattle.emit.proofs.inner.Emitter.flush.Given as goal

abbrev pub invariant-loop-p : goal.invariant-loop-p
invariant-loop-p l = record {
  same : l.self.out.ghost_name ≡ l.initial.self.out.ghost_name;
  depth : l.self.depth ≡ l.initial.self.depth;
  ready : Ready l.initial.self.depth (record { from = l.p; to = l.to; at = l.n }) l.pos;
  fed : (P : ℕ → Bool) → Fed l.initial.self.depth P l.pos l.pos l.initial.self.out.now l.initial.self.runs l.self.out.now (record { from = l.p; to = l.to; at = l.n });
}

abbrev pub decreases-loop-p : goal.decreases-loop-p
decreases-loop-p l = l.to - l.p
