-- The library's answer, told.
use Rattle.std.proofs.Common.{inr, arith}
use Rattle.cells.specs.Neighbour.{NeighbourOf}
use Rattle.cells.specs.Refusals.{answer_of}
use Rattle.cells.proofs.Words.{signed_axes}
use Rattle.probe.proofs.on_cells.probe_neighbour.Goals as goal

pub returns : goal.returns
returns c =
    let a = c.args in
    let told = signed_axes (λ d. NeighbourOf a.depth a.code d (answer_of c.neighbour.result)) _ _ _ c.ranges.dx c.ranges.dy c.ranges.dz c.neighbour.ensures in
    inr (omega arith, (_, told, rw c.from.ensures at c.tell.ensures))
