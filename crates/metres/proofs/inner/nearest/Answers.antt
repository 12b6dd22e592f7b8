-- The tests leave a NaN, a coordinate above zero, one below zero, and a zero. Assumes nothing.
use Rattle.std.proofs.Common.{sym, ◌∙◌}
use lib.Ieee.{of_bits}
use Rattle.metres.proofs.Coordinates.{negated, neg_neg, not_a_number, is_zero}
use Rattle.metres.proofs.inner.nearest.Goals as goal

pub returns-then-is_nan : goal.returns-then-is_nan
returns-then-is_nan c = not_a_number c.args.s c.args.d (sym c.is_nan.ensures.value ∙ c.if-is_nan.true)

pub of_size-requires-then-d-2-clause-t : goal.of_size-requires-then-d-2-clause-t
unfolding of_bits
of_size-requires-then-d-2-clause-t c = negated c.args.d c.if-d-2.true

pub returns-then-d-2 : goal.returns-then-d-2
returns-then-d-2 c = rw (← neg_neg c.args.d) c.of_size-then-d-2.ensures

pub returns : goal.returns
unfolding of_bits
returns c = is_zero c.args.s c.args.d (sym c.is_nan.ensures.value ∙ c.if-is_nan.false) c.if-d.false c.if-d-2.false
