-- What each voxel's test says. Assumes nothing.
use Rattle.std.proofs.Common.{arith, below_more}
use Rattle.cells.proofs.Bools.{clash}
use Rattle.plain.proofs.moving.first_leaving.Goals as goal

pub returns-then-leaves : goal.returns-then-leaves
returns-then-leaves c by split = record { below = omega (arith, c.loop-u-test.true, c.pow8-u-end.ensures); here = (c.leaves.ensures by split).0 c.if-leaves.true; before = c.loop-u.invariant by split }

pub loop-u-preserved : goal.loop-u-preserved
loop-u-preserved c by split = below_more _ _ (c.loop-u.invariant by split) (λ l. clash ((c.leaves.ensures by split).1 l) c.if-leaves.false)

pub returns : goal.returns
returns c by split i h = c.loop-u.invariant by split i (omega (arith, c.loop-u-test.false, c.pow8-u-end.ensures))
