-- The number is put after the word. Assumes nothing.
use Rattle.std.proofs.Common.{arith}
use Rattle.text.specs.Text.{digits}
use Rattle.text.specs.Inner.{Puts}
use Rattle.text.proofs.Puts.{put_append}
use Rattle.text.proofs.Digits.{digits_length}
use Rattle.text.proofs.inner.parts.Page.put_field.Goals as goal
use Rattle.text.proofs.inner.parts.Page.put_field.Goals.{After-put_decimal}

number : (c : After-put_decimal) → Puts c.put_word.new.self (digits 10 19 c.args.n) c.put_decimal.new.self
number c = c.put_decimal.ensures.text 19 (omega (arith, c.ranges.n))

pub returns-clause-text : goal.returns-clause-text
returns-clause-text c = put_append c.put_word.ensures.text (number (goal.at.returns-clause-text c).After-put_decimal)

pub returns-clause-near : goal.returns-clause-near
returns-clause-near c = omega (arith, c.put_word.ensures.text.place, (number (goal.at.returns-clause-near c).After-put_decimal).place, digits_length 10 19 c.args.n)
