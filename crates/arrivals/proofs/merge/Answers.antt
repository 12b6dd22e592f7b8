-- The front of `joined` is the joined list.
use Rattle.std.proofs.Common.{refl}
use Rattle.cells.specs.Answer.{given}
use Rattle.cells.specs.Refusals.{answer_of}
use Rattle.arrivals.proofs.Steps.{merge_written}
use Rattle.arrivals.proofs.merge.Goals as goal

pub returns : goal.returns
returns c =
    let a = c.args in
    merge_written a.depth a.ours.now a.theirs.now a.joined.now a.bytes.now (given c.in_ok-n.n) c.join.new.out c.in_ok-n.ensures refl (answer_of c.write.result) _ c.write.ensures
