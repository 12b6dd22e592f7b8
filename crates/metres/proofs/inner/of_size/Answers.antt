-- Below 2^32 by three steps, each of which ensures its part, and from there on no 32-bit number is near. Assumes nothing.
use Rattle.std.proofs.Common.{lit≤}
use lib.Ieee.{of_bits}
use Rattle.metres.proofs.Coordinates.{reached, beyond, measured_rounded}
use Rattle.metres.proofs.inner.of_size.Goals as goal

pub halved-requires-clause-t : goal.halved-requires-clause-t
unfolding of_bits
halved-requires-clause-t c = (reached c.args.a c.requires.t c.if-a.true (lit≤ tt)).0

pub halved-requires-clause-a_bound : goal.halved-requires-clause-a_bound
unfolding of_bits
halved-requires-clause-a_bound c = (reached c.args.a c.requires.t c.if-a.true (lit≤ tt)).1

pub returns-then-a : goal.returns-then-a
unfolding of_bits
returns-then-a c =
    rw (c.fit.ensures, c.size.ensures)
    (measured_rounded c.args.s c.args.negative c.args.a c.halved.result (reached c.args.a c.requires.t c.if-a.true (lit≤ tt)).0 c.halved.ensures)

pub returns-else-a : goal.returns-else-a
unfolding of_bits
returns-else-a c = beyond c.args.s c.args.negative c.args.a c.requires.t c.if-a.false
