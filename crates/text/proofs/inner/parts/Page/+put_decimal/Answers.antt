-- The last digit is put after the others. Assumes nothing.
use Rattle.std.proofs.Common.{arith, sym, ◌/◌}
use Rattle.text.proofs.Puts.{put_as}
use Rattle.text.proofs.Digits.{digits_last, digits_length, put_digits}
use Rattle.text.proofs.inner.parts.Page.+put_decimal.Goals as goal

pub returns-then-n-lt10-clause-text : goal.returns-then-n-lt10-clause-text
returns-then-n-lt10-clause-text t c = λ f h. put_as (sym (digits_last f c.args.n c.if-n-lt10.true)) c.put.ensures.text

-- the number without its last digit has 19 digits at most
pub put-requires-2 : goal.put-requires-2
put-requires-2 t c = omega (arith, (c.put_decimal.ensures.text 18 (omega (arith, c.ranges.n))).place, digits_length 10 18 (c.args.n / 10), c.requires)

pub returns-clause-text : goal.returns-clause-text
returns-clause-text t c = λ f h. put_digits c.args.n f c.if-n-lt10.false h c.put_decimal.ensures.text c.put-2.ensures.text
