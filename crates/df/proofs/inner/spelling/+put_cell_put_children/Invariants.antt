-- The measures are 2 * k and 2 * k + 1, k the levels left. The texts of the children before child m are put.
use Rattle.std.proofs.Common.{◌≡◌, ◌+◌, ◌*◌}
use Rattle.df.proofs.Spelled.{TextsPut}
use Rattle.df.proofs.inner.spelling.+put_cell_put_children.Given as goal

abbrev pub decreases-put_cell : goal.decreases-put_cell
decreases-put_cell l = 2 * l.k

abbrev pub decreases-put_children : goal.decreases-put_children
decreases-put_children l = 2 * l.k + 1

abbrev pub invariant-put_children-loop-m : goal.invariant-put_children-loop-m
invariant-put_children-loop-m l = record {
  same : l.page.bytes.ghost_name ≡ l.fn.page.bytes.ghost_name;
  text : TextsPut l.depth l.l l.k l.parts l.fn.page.bytes.now l.fn.page.at l.m l.page.bytes.now l.page.at;
}
