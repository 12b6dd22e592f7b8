-- The first line, and then the paths. Assumes nothing.
use Rattle.std.proofs.Common.{arith, rules}
use Rattle.cells.proofs.Words.{pow8_small}
use Rattle.text.specs.Inner.{listing}
use Rattle.text.proofs.Puts.{put_append, put_front}
use Rattle.text.proofs.inner.lines.put_listing.Goals as goal

pub put_paths-requires : goal.put_paths-requires
put_paths-requires c = let (shallow, ordered, few) = c.requires in omega (arith, c.put_head.ensures.near, c.new-page.ensures.place, few, pow8_small c.args.depth c.requires.0)

pub returns : goal.returns
unfolding listing
returns c =
    let text = put_append c.put_head.ensures.text (c.put_paths.ensures.text c.args.depth c.requires.1) in
    put_front text c.new-page.ensures.bytes c.new-page.ensures.place (search rules) c.place.ensures
