-- `cab_c::cab_neighbour` gives what `cab::cab_neighbour` gives.
use Rattle.cells.specs.Neighbour.{NeighbourOf}
use Rattle.cells.proofs.Words.{signed_axes}
use Rattle.cab.specs.Packed.{Packed}
use Rattle.cab_c.proofs.cab_neighbour.Goals as goal

pub returns : goal.returns
returns c =
    let a = c.args in
    signed_axes (λ d. Packed (NeighbourOf a.depth a.code d) c.cab_neighbour.result) _ _ _ c.ranges.dx c.ranges.dy c.ranges.dz c.cab_neighbour.ensures
