-- The voxels of the leaves are the black ones.
use Rattle.std.proofs.Common.{sym, ap, ◌∙◌, inr}
use Rattle.cells.specs.Answer.{given}
use Rattle.cells.proofs.Decisions.{passes, deep_enough}
use Rattle.records.proofs.Volumes.{list_volume}
use Rattle.records.proofs.Walks.{walked_good, walked_passes, walked_volume}
use Rattle.records.proofs.checks.volume.Goals as goal

pub returns-in-Ok : goal.returns-in-Ok
returns-in-Ok c =
    let D = c.args.depth in
    let l = c.args.list.now in
    let w = c.in-Ok.ensures in
    inr (
      passes (deep_enough c.if-depth-gt-DEEPEST.false),
      inr (
        walked_passes D l c.in-Ok.walk w 1,
        ap given (walked_volume D l c.in-Ok.walk w ∙ sym (list_volume D 0 l (walked_good D l c.in-Ok.walk w).ordered)),
      ),
    )
