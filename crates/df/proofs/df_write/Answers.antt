-- Past the tests the list is good, and its text is counted by putting it into the empty part of the bytes, and put where there is room.
use Rattle.std.proofs.Common.{ℕ, List, [], refl}
use Rattle.cells.specs.Answer.{given, keeping}
use Rattle.cells.specs.declared.Answer.{Answer}
use Rattle.cells.proofs.Decisions.{opening_passes, opening_known}
use Rattle.records.specs.Calls.{CheckOf}
use Rattle.records.specs.Writing.{WritesOf}
use Rattle.records.proofs.CallLaws.{checks}
use Rattle.text.proofs.Puts.{put_as}
use Rattle.text.proofs.CallLaws.{text_short, text_stands}
use Rattle.df.specs.Df.{spell, DfOf, DfWriteOf}
use Rattle.df.proofs.OneText.{one_df}
use Rattle.df.proofs.Spelled.{spelled_df}
use Rattle.df.proofs.df_write.Goals as goal

-- what success says decides where `check` told n leaves
told : (D : ℕ) (l o : List ℕ) (n : ℕ) → CheckOf D l (given n) → {r : Answer} {after : List ℕ} → (t : List ℕ) × DfOf D l t × WritesOf t o (r, after) → DfWriteOf D l o r after
told D l o n checked w = opening_passes (checks D l) (given n) checked (keeping o) [] (λ (s : Answer × List ℕ). (t : List ℕ) × DfOf D l t × WritesOf t o s) _ refl w

pub put_text-need-requires : goal.put_text-need-requires
put_text-need-requires c = let k = opening_known (checks c.args.depth c.args.list.now) (given c.in_ok-check.field-0) c.in_ok-check.ensures refl in (k.shallow, k.good)

pub put_text-requires : goal.put_text-requires
put_text-requires c = let k = opening_known (checks c.args.depth c.args.list.now) (given c.in_ok-check.field-0) c.in_ok-check.ensures refl in (k.shallow, k.good)

-- no room: the first pass put nothing
pub returns-then-bytes-need : goal.returns-then-bytes-need
returns-then-bytes-need c =
    let a = c.args in
    let x = c.put_text-need.ensures in
    told a.depth a.list.now a.bytes.now c.in_ok-check.field-0 c.in_ok-check.ensures
    (spell x.tree, spelled_df x, text_short (spell x.tree) a.bytes.now _ c.put_text-need.result x.put c.if-bytes-need.true _ refl)

-- the second pass puts the text that the first one counted
pub returns : goal.returns
returns c =
    let a = c.args in
    let x = c.put_text-need.ensures in
    let y = c.put_text.ensures in
    told a.depth a.list.now a.bytes.now c.in_ok-check.field-0 c.in_ok-check.ensures (
      spell x.tree,
      spelled_df x,
      text_stands (spell x.tree) a.bytes.now _ c.put_text-need.result x.put c.if-bytes-need.false _ c.put_text.result (put_as (one_df _ _ _ _ (spelled_df y) (spelled_df x)) y.put) _ refl,
    )
