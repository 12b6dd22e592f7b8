-- The recursion follows `digits`: the measure is the number.
use Rattle.text.proofs.inner.parts.Page.+put_decimal.Given as goal

abbrev pub decreases-put_decimal : goal.decreases-put_decimal
decreases-put_decimal l = l.n
