-- A sweep on the empty part counts, and, where there is room, one on all of the buffer writes.
use Rattle.std.proofs.Common.{refl}
use Rattle.emit.proofs.Answers.{crowded, written}
use Rattle.sets.proofs.Pieces.{exactly}
use Rattle.sets.proofs.inner.combine.Goals as goal

pub returns-then-out-need : goal.returns-then-out-need
returns-then-out-need c =
    let a = c.args in
    crowded a.depth _ _ (exactly a.op a.depth a.a.now a.b.now) c.sweep-need.ensures refl c.if-out-need.true

pub returns : goal.returns
returns c =
    let a = c.args in
    written a.depth _ _ (exactly a.op a.depth a.a.now a.b.now) c.sweep-need.ensures refl c.if-out-need.false c.sweep.ensures
