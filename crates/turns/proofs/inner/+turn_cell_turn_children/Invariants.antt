-- The measures are 2 * k and 2 * k + 1, k the levels left. The children before child m are fed.
use Rattle.std.proofs.Common.{◌+◌, ◌*◌}
use Rattle.emit.proofs.Children.{Children}
use Rattle.turns.specs.Inner.{turned}
use Rattle.turns.proofs.inner.+turn_cell_turn_children.Given as goal

abbrev pub decreases-turn_cell : goal.decreases-turn_cell
decreases-turn_cell l = 2 * l.c.k

abbrev pub decreases-turn_children : goal.decreases-turn_children
decreases-turn_children l = 2 * l.c.k + 1

abbrev pub invariant-turn_children-loop-m : goal.invariant-turn_children-loop-m
invariant-turn_children-loop-m l = Children l.depth (turned l.depth l.l l.fn.c.turns) l.fn.c.from l.fn.made l.span l.made l.v l.m
