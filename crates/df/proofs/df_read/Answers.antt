-- The depth, the text, then the room; a pass on the empty part counts, and one on all of the buffer writes.
use Rattle.std.proofs.Common.{refl}
use Rattle.cells.proofs.Refused.{refused_numbered}
use Rattle.df.proofs.CallLaws.{read_refused, read_crowded, read_written}
use Rattle.df.proofs.df_read.Goals as goal

pub returns-in-Err : goal.returns-in-Err
returns-in-Err c = read_refused _ _ _ c.if-depth-gt-DEEPEST.false c.in-Err.ensures (refused_numbered c.in-Err.wrong) c.read_text.auto.out

pub returns-then-out-need : goal.returns-then-out-need
returns-then-out-need c = read_crowded _ _ _ c.if-depth-gt-DEEPEST.false c.in-Ok.ensures refl refl c.if-out-need.true

pub returns : goal.returns
returns c = read_written _ _ _ c.if-depth-gt-DEEPEST.false c.in-Ok.ensures refl c.if-out-need.false c.read_text-2.ensures
