-- The last run is written at the root's end. Assumes nothing.
use Rattle.std.proofs.Common.{◌^◌}
use Rattle.emit.specs.Inner.{fresh, Fed}
use Rattle.emit.proofs.Runs.{emit_done}
use Rattle.emit.proofs.inner.Emitter.finish.Goals as goal

pub returns-clause-list : goal.returns-clause-list
returns-clause-list c = λ P o e.
    let m = c.args.self.now in
    let n = c.flush.new.self in
    let x : Fed m.depth P (8 ^ m.depth) (8 ^ m.depth) m.out.now m.runs n.out.now (fresh (8 ^ m.depth) n.runs.at) =
    rw (c.flush.ensures.none, c.pow8.ensures) at (c.flush.ensures.fed P) in
    emit_done m.depth P o n.out.now n.runs.at (x.emits o e)
