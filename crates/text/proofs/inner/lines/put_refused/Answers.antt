-- Two fields, and the line's end. Assumes nothing.
use Rattle.std.proofs.Common.{rules}
use Rattle.text.specs.Text.{refused_text}
use Rattle.text.proofs.Puts.{put_append, put_front}
use Rattle.text.proofs.inner.lines.put_refused.Goals as goal

pub returns : goal.returns
unfolding refused_text
returns c =
    let text = put_append (put_append c.put_field.ensures.text c.put_field-2.ensures.text) c.put.ensures.text in
    put_front text c.new-page.ensures.bytes c.new-page.ensures.place (search rules) c.place.ensures
