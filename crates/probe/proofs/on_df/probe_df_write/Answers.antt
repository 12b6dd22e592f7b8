-- The library's answer, told.
use Rattle.std.proofs.Common.{inr, arith}
use Rattle.probe.proofs.on_df.probe_df_write.Goals as goal

pub returns : goal.returns
returns c = inr (omega arith, (_, c.df_write-r.ensures, rw c.from.ensures at c.tell.ensures))
