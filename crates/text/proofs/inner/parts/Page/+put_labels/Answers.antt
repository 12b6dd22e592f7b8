-- The last label is put after the others. Assumes nothing.
use Rattle.std.proofs.Common.{arith, sym}
use Rattle.text.proofs.Puts.{put_none, put_as}
use Rattle.text.proofs.Digits.{labels_none, put_label, label_near}
use Rattle.text.proofs.inner.parts.Page.+put_labels.Goals as goal

pub returns-then-code-lt8-clause-text : goal.returns-then-code-lt8-clause-text
returns-then-code-lt8-clause-text t c = λ k i l. put_as (sym (labels_none c.args.code c.if-code-lt8.true k i l)) put_none

-- the code without its last label has one label less
pub put-requires : goal.put-requires
put-requires t c = omega (arith, c.put_labels.ensures.near 9 (omega (arith, c.ranges.code)), c.requires)

pub returns-clause-text : goal.returns-clause-text
returns-clause-text t c = λ k i l. put_label c.args.code c.if-code-lt8.false k i l c.put_labels.ensures.text c.put.ensures.text

pub returns-clause-near : goal.returns-clause-near
returns-clause-near t c =
    λ f h.
    omega (arith, c.put.ensures.text.place, label_near c.args.code f c.args.self.now.at c.put_labels.new.self.at c.if-code-lt8.false h c.put_labels.ensures.near)
