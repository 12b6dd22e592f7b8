-- Past the tests of `check` the list is good, and a voxel in the root has a number below the root's end.
use Rattle.std.proofs.Common.{refl, arith}
use Rattle.cells.specs.Answer.{given}
use Rattle.cells.proofs.Decisions.{opening_known}
use Rattle.cells.proofs.Places.{number_lt}
use Rattle.records.proofs.CallLaws.{checks}
use Rattle.records.proofs.lookups.lookup.Goals as goal

pub look_at-requires : goal.look_at-requires
look_at-requires c =
    let a = c.args in
    let k = opening_known (checks a.depth a.list.now) (given c.in_ok-check.field-0) c.in_ok-check.ensures refl in
    (k.shallow, k.good, omega (arith, c.number_of.ensures, number_lt a.depth a.x a.y a.z))
