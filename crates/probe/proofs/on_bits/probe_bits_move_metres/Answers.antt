-- The library's answer, told.
use Rattle.std.proofs.Common.{inr, arith}
use Rattle.probe.proofs.on_bits.probe_bits_move_metres.Goals as goal

pub returns : goal.returns
returns c = inr (omega arith, (_, c.move_bits-r.ensures, rw c.from.ensures at c.tell.ensures))
