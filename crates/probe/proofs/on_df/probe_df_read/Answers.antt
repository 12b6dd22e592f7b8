-- The library's answer, told.
use Rattle.std.proofs.Common.{inr, arith}
use Rattle.probe.proofs.on_df.probe_df_read.Goals as goal

pub returns : goal.returns
returns c = inr (omega arith, (_, c.df_read-r.ensures, rw c.from.ensures at c.tell.ensures))
