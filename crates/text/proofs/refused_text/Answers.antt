-- The line is counted by putting it into the empty part of the bytes, and where there is room it is put.
use Rattle.std.proofs.Common.{refl}
use Rattle.text.specs.Text.{refused_text}
use Rattle.text.proofs.CallLaws.{text_stands}
use Rattle.text.proofs.refused_text.Goals as goal

pub returns : goal.returns
returns c =
    let a = c.args in
    text_stands (refused_text a.number a.place) a.bytes.now _ c.put_refused-need.result c.put_refused-need.ensures c.if-bytes-need.false _ c.put_refused.result c.put_refused.ensures _ refl
