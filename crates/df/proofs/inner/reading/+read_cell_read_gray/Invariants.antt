-- The measures are 2 * k and 2 * k + 1, k the levels left. The children before child m are read.
use Rattle.std.proofs.Common.{◌+◌, ◌*◌}
use Rattle.df.proofs.Readings.{KidsRead}
use Rattle.df.proofs.inner.reading.+read_cell_read_gray.Given as goal

abbrev pub decreases-read_cell : goal.decreases-read_cell
decreases-read_cell l = 2 * l.k

abbrev pub decreases-read_gray : goal.decreases-read_gray
decreases-read_gray l = 2 * l.k + 1

abbrev pub invariant-read_gray-loop-m : goal.invariant-read_gray-loop-m
invariant-read_gray-loop-m l = KidsRead l.depth l.text l.k l.from l.initial.after l.fn.made l.made l.after l.v l.alike l._m
