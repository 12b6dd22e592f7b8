-- A byte more is put after those before it.
use Rattle.std.proofs.Common.{◌∙◌, sym}
use Rattle.std.proofs.lemmas.List.{take_more}
use Rattle.text.proofs.Puts.{put_append, put_as}
use Rattle.text.proofs.inner.parts.Page.put_word.Goals as goal

pub loop-byte-preserved : goal.loop-byte-preserved
loop-byte-preserved c = record {
  same = c.put.ensures.same ∙ c.loop-byte.invariant.same;
  text = put_as (sym (take_more c.args.word.now c.loop-byte.byte-index 0 c.loop-byte-test.true)) (put_append c.loop-byte.invariant.text c.put.ensures.text);
}
