-- The list's tests, then the move's own, by what it becomes.
use Rattle.std.proofs.Common.{List, ℕ, refl}
use Rattle.cells.specs.Answer.{given, keeping}
use Rattle.cells.specs.Refusals.{answer_of}
use Rattle.cells.specs.declared.Answer.{Answer}
use Rattle.cells.proofs.Decisions.{opening_known, opening_passes}
use Rattle.records.proofs.CallLaws.{checks}
use Rattle.metres.specs.Metres.{move_tests}
use Rattle.metres.proofs.TakenLaws.{whole_decides}
use Rattle.moves.specs.Moves.{ShiftOf, ByVoxels}
use Rattle.moves.proofs.move_list.Goals as goal

pub move_whole-requires : goal.move_whole-requires
move_whole-requires c =
    let k = opening_known (checks c.args.depth c.args.list.now) (given c.in_ok-check.field-0) c.in_ok-check.ensures refl in
    (k.shallow, k.good.ordered)

pub returns-in-Ok : goal.returns-in-Ok
returns-in-Ok c =
    let a = c.args in
    let P : Answer × List ℕ → Type 0 = ByVoxels a.m (λ x. ShiftOf a.depth a.list.now x a.out.now) in
    let v = c.in-Ok.by in
    let told : Answer × List ℕ = (answer_of c.move_whole.result, c.move_whole.new.out) in
    opening_passes (checks a.depth a.list.now) (given c.in_ok-check.field-0) c.in_ok-check.ensures (keeping a.out.now) (move_tests a.m) P told refl
    (whole_decides (keeping a.out.now) P a.m v told c.in-Ok.ensures (λ becomes. (v.x, v.y, v.z, becomes, c.move_whole.ensures)))
