-- Past the tests the depth is taken and both lists are good.
use Rattle.std.proofs.Common.{refl}
use Rattle.cells.specs.Answer.{given}
use Rattle.cells.proofs.Decisions.{opening_known}
use Rattle.records.proofs.CallLaws.{judges}
use Rattle.sets.proofs.set_of.Goals as goal

pub combine-requires : goal.combine-requires
combine-requires c =
    let D = c.args.depth in
    let deep = c.if-depth-gt-DEEPEST.false in
    let first = opening_known (judges D c.args.a.now 1 deep) (given c.in_ok-judged.field-0) c.in_ok-judged.ensures refl in
    let second = opening_known (judges D c.args.b.now 2 deep) (given c.in_ok-judged-2.field-0) c.in_ok-judged-2.ensures refl in
    (deep, first.good.ordered, second.good.ordered)
