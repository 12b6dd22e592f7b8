-- The blocks before i are written.
use Rattle.std.proofs.Common.{◌≡◌, ◌*◌}
use Rattle.blocks.specs.Block.{block_bytes}
use Rattle.blocks.specs.Inner.{begun}
use Rattle.blocks.proofs.writer.put_blocks.Given as goal

abbrev pub invariant-loop-i : goal.invariant-loop-i
invariant-loop-i l = l.bytes ≡ begun l.depth l.list l.initial.bytes (block_bytes * l.i)
