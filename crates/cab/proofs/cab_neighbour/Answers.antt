-- The library's answer, packed.
use Rattle.std.proofs.Common.{ap, ◌∙◌}
use Rattle.cells.specs.Neighbour.{NeighbourOf}
use Rattle.cells.specs.Refusals.{answer_of}
use Rattle.cells.specs.declared.Answer.{Answer}
use Rattle.cells.proofs.Words.{signed_axes}
use Rattle.cab.specs.Packed.{packed}
use Rattle.cab.proofs.cab_neighbour.Goals as goal

pub returns : goal.returns
returns c =
    let a = c.args in
    let told = signed_axes (λ d. NeighbourOf a.depth a.code d (answer_of c.neighbour.result)) _ _ _ c.ranges.dx c.ranges.dy c.ranges.dz c.neighbour.ensures in
    (answer_of c.neighbour.result, told, c.pack.ensures ∙ ap (λ (r : Answer). packed r) c.from-next.ensures)
