-- The front of the codes read is the file's list.
use Rattle.std.proofs.Common.{Ok, refl}
use Rattle.cells.specs.Refusals.{answer_of}
use Rattle.blocks.specs.Calls.{read_answer}
use Rattle.arrivals.proofs.Steps.{arrive_moved}
use Rattle.arrivals.proofs.arrive.Goals as goal

pub returns : goal.returns
returns c =
    let a = c.args in
    arrive_moved a.depth a.file.now a.m a.codes.now a.moved.now (read_answer (Ok c.in_ok-found.found)) c.read.new.out c.in_ok-found.ensures refl c.if-found-depth.false (answer_of c.move_list.result) _ c.move_list.ensures
