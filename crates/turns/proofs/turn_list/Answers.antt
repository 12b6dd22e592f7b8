-- Past the tests the list is good, and its turned list has as many leaves.
use Rattle.std.proofs.Common.{refl, arith}
use Rattle.cells.specs.Answer.{given}
use Rattle.cells.proofs.Decisions.{opening_known}
use Rattle.records.proofs.CallLaws.{checks}
use Rattle.turns.proofs.TurnLaws.{turn_of, turn_crowded, turn_written}
use Rattle.turns.proofs.turn_list.Goals as goal

pub returns-then-out-need : goal.returns-then-out-need
returns-then-out-need c =
    let a = c.args in
    let k = opening_known (checks a.depth a.list.now) (given c.in_ok-need.need) c.in_ok-need.ensures refl in
    turn_of _ _ _ _ _ _ k.shallow k.good c.if-turns-gt-MOST_TURNS.false (turn_crowded _ _ _ k.good k.is_length c.if-out-need.true refl refl)

pub turn_root-requires : goal.turn_root-requires
turn_root-requires c =
    let a = c.args in
    let k = opening_known (checks a.depth a.list.now) (given c.in_ok-need.need) c.in_ok-need.ensures refl in
    record { deep = k.shallow; ordered = k.good.ordered }

pub returns : goal.returns
returns c =
    let a = c.args in
    let k = opening_known (checks a.depth a.list.now) (given c.in_ok-need.need) c.in_ok-need.ensures refl in
    turn_of _ _ _ _ _ _ k.shallow k.good c.if-turns-gt-MOST_TURNS.false (turn_written _ _ _ k.good refl (omega (arith, k.is_length, c.if-out-need.false)) c.turn_root.ensures)
