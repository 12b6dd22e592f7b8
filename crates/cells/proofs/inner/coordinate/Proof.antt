-- `cells::inner::coordinate` meets its contract.
-- Assumes nothing.
use Rattle.std.proofs.Common.{ℕ, ◌≤◌, arith}
use Rattle.cells.specs.Answer.{deepest}
use Rattle.cells.specs.Cell.{index, side}
use Rattle.cells.specs.Place.{corner}
use Rattle.cells.proofs.Cells.{level_le, proper_bounds}
use Rattle.cells.proofs.CornerLaws.{corner_lt}
use Rattle.cells.proofs.Words.{pow2_small}
use Rattle.cells.proofs.inner.coordinate.Statement.{statement}
use Rattle.cells.proofs.inner.coordinate.Tie as tie

-- past the level

module _ (c : tie.After-level_of-level) where
  abbrev start : tie.Start
  start = c.before

  abbrev D : ℕ
  D = start.args.depth

  -- it is at most the depth, which is at most the greatest
  low : (c.level_of-level.result ≤ D) × (D ≤ deepest)
  low = omega (arith, c.level_of-level.ensures, level_le D start.args.code, start.requires.1)

-- the product is the corner
returns : tie.Need-returns
unfolding index side corner
returns c = rw (c.pow2.ensures, c.before.axis.ensures, c.before.before.pow8.ensures, c.before.before.before.level_of-level.ensures)

pub coordinate_spec : {M : Type 1} → statement M
coordinate_spec =
    tie.close
    (tie.spec
    (λ c κs. (c.requires.1, c.requires.2))
    (λ c κs. omega (arith, low c))
    (λ c. let at-level-of = c.before in rw (c.pow8.ensures, at-level-of.level_of-level.ensures) (proper_bounds (D at-level-of) (start at-level-of).args.code (start at-level-of).requires.2).0)
    (λ c κs. let at-level-of = c.before in (omega (arith, low at-level-of), (start at-level-of).requires.0))
    (λ c. (low c.before.before).0)
    (λ c κs. omega (arith, low c.before.before))
    (λ c. let at-level-of = c.before.before.before in omega (arith, returns c, corner_lt (start at-level-of).args.b (D at-level-of) (start at-level-of).args.code, pow2_small (D at-level-of) (low at-level-of).1))
    returns)
