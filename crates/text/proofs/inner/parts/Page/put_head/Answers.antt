-- Three fields, and the line's end. Assumes nothing.
use Rattle.text.proofs.Puts.{put_append}
use Rattle.text.proofs.inner.parts.Page.put_head.Goals as goal

pub returns-clause-text : goal.returns-clause-text
returns-clause-text c = put_append (put_append (put_append c.put_field.ensures.text c.put_field-2.ensures.text) c.put_field-3.ensures.text) c.put.ensures.text
