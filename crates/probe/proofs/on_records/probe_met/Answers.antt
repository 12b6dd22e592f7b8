-- `probe::on_records::probe_met` meets its contract: the part's codes copied, the companion's answer told.
use Rattle.std.proofs.Common.{inr, arith}
use Rattle.cells.specs.Refusals.{answer_of}
use Rattle.cells.proofs.Words.{signed_axes}
use Rattle.records.specs.Met.{MetOf, MetAtOf}
use Rattle.probe.proofs.on_records.probe_met.Goals as goal

pub returns : goal.returns
returns c =
    let a = c.args in
    let f = c.ranges in
    let at = signed_axes (λ d. MetAtOf a.depth a.list.now a.code d (answer_of c.met_at-a.result)) _ _ _ f.dx f.dy f.dz c.met_at-a.ensures in
    let part = c.met-found.result in
    let found = signed_axes (λ d. MetOf a.depth a.list.now a.list.ref_ptr a.code d part.now part.ref_ptr) _ _ _ f.dx f.dy f.dz c.met-found.ensures in
    inr (omega arith, (_, _, _, at, found, rw c.from.ensures at c.tell.ensures, c.copy.ensures))
