-- The text of the whole cube, put from the front of the bytes. Assumes nothing.
use Rattle.std.proofs.Common.{rules}
use Rattle.records.proofs.SlotLaws.{whole_list}
use Rattle.text.proofs.Puts.{put_front}
use Rattle.df.proofs.Spelled.{spelling_root}
use Rattle.df.proofs.inner.spelling.put_text.Goals as goal

pub put_cell-requires : goal.put_cell-requires
put_cell-requires c = rw c.new-page.ensures.place (spelling_root c.requires.0 c.requires.1)

pub returns : goal.returns
returns c =
    let root = c.put_cell.ensures.text 0 (whole_list (record { deep = c.requires.0; ordered = c.requires.1.ordered })) in
    record { tree = root.tree; is_tree = root.is_tree; put = put_front root.put c.new-page.ensures.bytes c.new-page.ensures.place (search rules) c.place.ensures }
