-- Past the tests the list is good, and its text is the listing: counted by putting it into the empty part of the bytes, and put where there is room.
use Rattle.std.proofs.Common.{List, ℕ, refl, ap}
use Rattle.cells.specs.Answer.{given}
use Rattle.cells.specs.declared.Answer.{Answer}
use Rattle.cells.proofs.Decisions.{opening_known}
use Rattle.records.specs.Calls.{VolumeOf}
use Rattle.records.specs.Writing.{WritesOf}
use Rattle.records.proofs.Writing.{list_written}
use Rattle.text.specs.Text.{text_of, TextOf}
use Rattle.text.specs.Inner.{Put, listing}
use Rattle.text.proofs.Puts.{put_as}
use Rattle.text.proofs.CallLaws.{text_short, text_stands, GoodVolume, measures}
use Rattle.text.proofs.list_text.Goals as goal

-- ---- a good list of volume v

module _ (D : ℕ) (l o : List ℕ) (v : ℕ) (measured : VolumeOf D l (given v)) where
  good : GoodVolume D l v
  good = opening_known (measures D l) (given v) measured refl

  -- the text that is put is the listing
  listed : {b after : List ℕ} {r : ℕ} → Put b 0 (listing D l v) after r → Put b 0 (text_of D l) after r
  unfolding text_of listing
  listed p = put_as (ap (listing D l) good.is_volume) p

  told : {r : Answer} {after : List ℕ} → WritesOf (text_of D l) o (r, after) → TextOf D l o r after
  told w = list_written (text_of D l) o D l _ (given v) measured refl _ _ w

pub put_listing-need-requires : goal.put_listing-need-requires
put_listing-need-requires c = let k = good c.args.depth c.args.list.now c.args.bytes.now c.in_ok-voxels.field-0 c.in_ok-voxels.ensures in (k.shallow, k.good.ordered, k.few)

pub put_listing-requires : goal.put_listing-requires
put_listing-requires c = let k = good c.args.depth c.args.list.now c.args.bytes.now c.in_ok-voxels.field-0 c.in_ok-voxels.ensures in (k.shallow, k.good.ordered, k.few)

-- no room: the first pass put nothing
pub returns-then-bytes-need : goal.returns-then-bytes-need
returns-then-bytes-need c =
    let a = c.args in
    let v = c.in_ok-voxels.field-0 in
    let m = c.in_ok-voxels.ensures in
    told a.depth a.list.now a.bytes.now v m
    (text_short (text_of a.depth a.list.now) a.bytes.now _ c.put_listing-need.result (listed a.depth a.list.now a.bytes.now v m c.put_listing-need.ensures) c.if-bytes-need.true _ refl)

pub returns : goal.returns
returns c =
    let a = c.args in
    let v = c.in_ok-voxels.field-0 in
    let m = c.in_ok-voxels.ensures in
    told a.depth a.list.now a.bytes.now v m
    (text_stands (text_of a.depth a.list.now) a.bytes.now _ c.put_listing-need.result (listed a.depth a.list.now a.bytes.now v m c.put_listing-need.ensures) c.if-bytes-need.false _ c.put_listing.result
    (listed a.depth a.list.now a.bytes.now v m c.put_listing.ensures) _ refl)
