-- The test of the depth, then the move's own, by what it becomes. Assumes nothing.
use Rattle.std.proofs.Common.{List, ℕ, inr}
use Rattle.cells.specs.Answer.{keeping}
use Rattle.cells.specs.Refusals.{answer_of}
use Rattle.cells.specs.declared.Answer.{Answer}
use Rattle.cells.proofs.Decisions.{passes, deep_enough}
use Rattle.metres.proofs.TakenLaws.{whole_decides}
use Rattle.moves.specs.Moves.{ByVoxels}
use Rattle.plain.specs.Calls.{ShiftBitsOf}
use Rattle.plain.proofs.moving.move_bits.Goals as goal

pub returns-in-Ok : goal.returns-in-Ok
returns-in-Ok c =
    let a = c.args in
    let P : Answer × List ℕ → Type 0 = ByVoxels a.m (ShiftBitsOf a.depth a.bits.now a.out.now) in
    let v = c.in-Ok.by in
    inr (
      passes (deep_enough c.if-depth-gt-DEEPEST_PLAIN.false),
      whole_decides (keeping a.out.now) P a.m v (answer_of c.move_whole.result, c.move_whole.new.out) c.in-Ok.ensures (λ becomes. (v.x, v.y, v.z, becomes, c.move_whole.ensures)),
    )
