-- The library's answer, told.
use Rattle.std.proofs.Common.{inr, arith}
use Rattle.probe.proofs.on_turns.probe_turn.Goals as goal

pub returns : goal.returns
returns c = inr (omega arith, (_, c.turn_list-r.ensures, rw c.from.ensures at c.tell.ensures))
