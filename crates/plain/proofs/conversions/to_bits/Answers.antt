-- Past the tests of the depth, the list and the buffer. Assumes nothing.
use Rattle.std.proofs.Common.{refl, arith, ◌≤◌}
use Rattle.cells.specs.Answer.{given, deepest}
use Rattle.cells.proofs.Decisions.{opening_known}
use Rattle.records.proofs.CallLaws.{judges}
use Rattle.plain.proofs.conversions.to_bits.Goals as goal

pub paint_list-requires : goal.paint_list-requires
paint_list-requires c =
    let shallow : c.args.depth ≤ deepest = omega arith in
    let k = opening_known (judges c.args.depth c.args.list.now 1 shallow) (given c.in_ok-judged.field-0) c.in_ok-judged.ensures refl in
    (c.if-depth-gt-DEEPEST_PLAIN.false, k.good.ordered, omega (arith, c.if-bits-need.false, c.bytes_for-need.ensures))
