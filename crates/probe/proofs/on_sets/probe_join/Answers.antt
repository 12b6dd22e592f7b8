-- The library's answer, told.
use Rattle.std.proofs.Common.{inr, arith}
use Rattle.probe.proofs.on_sets.probe_join.Goals as goal

pub returns : goal.returns
returns c = inr (omega arith, (_, c.join-r.ensures, rw c.from.ensures at c.tell.ensures))
