-- The emitter has what is black below v. Assumes nothing.
use Rattle.std.proofs.Common.{◌≡◌}
use Rattle.emit.specs.Inner.{Feeds}
use Rattle.plain.specs.Bits.{black_in}
use Rattle.plain.proofs.conversions.gather.Given as goal

abbrev pub invariant-loop-v : goal.invariant-loop-v
invariant-loop-v l = record {
  same : l.made.out.ghost_name ≡ l.initial.made.out.ghost_name;
  depth : l.made.depth ≡ l.bits.depth;
  fed : Feeds l.bits.depth (black_in l.bits.depth l.bits.bytes.now) 0 l.v l.initial.made l.made;
}
