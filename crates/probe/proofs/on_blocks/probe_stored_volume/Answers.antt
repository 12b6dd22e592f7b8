-- The library's answer, told.
use Rattle.std.proofs.Common.{inr, arith}
use Rattle.probe.proofs.on_blocks.probe_stored_volume.Goals as goal

pub returns : goal.returns
returns c = inr (omega arith, (_, c.stored_volume.ensures, rw c.from.ensures at c.tell.ensures))
