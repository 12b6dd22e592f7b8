-- The meeting that `find` tells of.
use Rattle.std.proofs.Common.{Ok, Err, refl}
use Rattle.std.proofs.lemmas.Result.{err_from_is_err_and}
use Rattle.records.specs.Met.{meeting_of}
use Rattle.records.proofs.MetLaws.{directed}
use Rattle.records.proofs.meetings.met_at.Goals as goal

pub returns-in_err-found : goal.returns-in_err-found
returns-in_err-found c =
    let a = c.args in
    let m = meeting_of (Err c.in_err-found.field-0.0) in
    let p = err_from_is_err_and c.from_residual.result c.from_residual.ensures.1 in
    rw (p.1, p.2) (m, directed a.depth a.list.now a.code a.dx a.dy a.dz c.ranges.dx c.ranges.dy c.ranges.dz m c.in_err-found.ensures.meeting, refl)

pub returns : goal.returns
returns c =
    let a = c.args in
    let m = meeting_of (Ok c.in_ok-found.found) in
    (m, directed a.depth a.list.now a.code a.dx a.dy a.dz c.ranges.dx c.ranges.dy c.ranges.dz m c.in_ok-found.ensures.meeting, refl)
