-- The code of a proper corner is that of the cell there.
use Rattle.std.proofs.Common.{◌≡◌, ◌≤◌, ◌/◌, true, sym, ap, ◌∙◌, inr, arith}
use Rattle.cells.specs.Answer.{given}
use Rattle.cells.specs.Corners.{is_corner}
use Rattle.cells.specs.Place.{axes}
use Rattle.cells.proofs.Bools.{clash}
use Rattle.cells.proofs.CornerLaws.{IsCorner, is_corner_lem, cell_of_corner}
use Rattle.cells.proofs.Decisions.{passes, deep_enough}
use Rattle.cells.proofs.Places.{number_lt}
use Rattle.cells.proofs.Words.{codes_fit}
use Rattle.cells.proofs.corners.code.Goals as goal
use Rattle.cells.proofs.corners.code.Goals.{Else-not-is_corner}

-- past the tests
module _ (c : Else-not-is_corner) where
  corner : is_corner c.args.depth (axes c.args.x c.args.y c.args.z) c.args.level ≡ true
  corner = sym c.is_corner.ensures ∙ c.if-not-is_corner.false

  grid : IsCorner c.args.depth (axes c.args.x c.args.y c.args.z) c.args.level
  grid = is_corner_lem c.args.depth _ c.args.level corner

pub overflow_sub-depth : goal.overflow_sub-depth
overflow_sub-depth c = (grid c).deep

pub pow8-requires : goal.pow8-requires
pow8-requires c = omega (arith, (grid c.before).deep, c.if-depth-gt-DEEPEST.false)

pub number_of-requires : goal.number_of-requires
number_of-requires c = omega (arith, (grid c.before.before).deep, c.if-depth-gt-DEEPEST.false)

pub overflow_add-result : goal.overflow_add-result
overflow_add-result c =
    let a = c.args in
    let s = c.pow2-side.result in
    let shallow : a.level ≤ 10 = omega (arith, (grid c.before.before.before).deep, c.if-depth-gt-DEEPEST.false) in
    omega (arith, c.number_of.ensures, c.pow8.ensures, number_lt a.level (a.x / s) (a.y / s) (a.z / s), codes_fit a.level shallow)

pub returns : goal.returns
returns c =
    let a = c.args in
    let past = corner c.before.before.before in
    inr (
      passes (deep_enough c.if-depth-gt-DEEPEST.false),
      inr (passes (clash past), (_, cell_of_corner a.depth (axes a.x a.y a.z) a.level past, ap given (rw (c.number_of.ensures, c.pow8.ensures, c.pow2-side.ensures)))),
    )
