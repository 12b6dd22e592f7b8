-- The labels of a proper code are those of its level and index. Assumes nothing.
use Rattle.std.proofs.Common.{arith}
use Rattle.cells.specs.Cell.{level, index}
use Rattle.text.specs.Inner.{longest_labels}
use Rattle.text.proofs.Puts.{put_append}
use Rattle.text.proofs.Digits.{proper_labelled}
use Rattle.text.proofs.inner.parts.Page.put_path.Goals as goal

-- all but the line's end
pub put-requires-2 : goal.put-requires-2
put-requires-2 c = omega (arith, c.put.ensures.text.place, c.put_labels.ensures.near longest_labels (omega (arith, c.ranges.code)), c.requires)

pub returns-clause-text : goal.returns-clause-text
returns-clause-text c =
    λ D is.
    put_append c.put.ensures.text (put_append (c.put_labels.ensures.text (level D c.args.code) (index D c.args.code) (proper_labelled D c.args.code is)) c.put-2.ensures.text)

pub returns-clause-near : goal.returns-clause-near
returns-clause-near c = omega (arith, c.put.ensures.text.place, c.put_labels.ensures.near longest_labels (omega (arith, c.ranges.code)), c.put-2.ensures.text.place)
