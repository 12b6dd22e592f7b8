-- The text is wrong in the root, goes on after it, or is all read. Assumes nothing.
use Rattle.std.proofs.Common.{rules, ◌≡◌, refl, ◌∙◌}
use Rattle.emit.proofs.Runs.{finished}
use Rattle.df.specs.Inner.{CellRead}
use Rattle.df.proofs.Texts.{root_stuck, root_followed, root_read}
use Rattle.df.proofs.Readings.{root_ahead, root_fed}
use Rattle.df.proofs.inner.reading.read_text.Goals as goal
use Rattle.df.proofs.inner.reading.read_text.Goals.{In-Ok}

pub read_cell-requires : goal.read_cell-requires
read_cell-requires c = root_ahead _ _ c.requires c.new-made.ensures.depth c.new-made.ensures.runs

-- the root is read
root : (c : In-Ok) → CellRead c.args.depth c.args.text.now c.args.depth 0 0 c.new-made.result c.read_cell.new.made c.in-Ok.root
root c = c.in-Ok.ensures.read

depth : (c : In-Ok) → c.read_cell.new.made.depth ≡ c.args.depth
depth c = c.read_cell.ensures.depth ∙ c.new-made.ensures.depth

pub returns-in-Err : goal.returns-in-Err
returns-in-Err c = root_stuck _ _ _ _ c.in-Err.ensures.read refl

pub returns-then-end-text : goal.returns-then-end-text
returns-then-end-text c =
    let x = root (goal.at.returns-then-end-text c).In-Ok in
    root_followed _ _ _ _ x.tree x.allowed x.reads c.if-end-text.true refl

pub finish-requires : goal.finish-requires
finish-requires c = let d = (goal.at.finish-requires c).In-Ok in rw (depth d) (c.requires, (root_fed (root d)).ready)

pub returns : goal.returns
returns c =
    let d = (goal.at.returns c).In-Ok in
    let x = root d in
    root_read _ _ _ _ x.tree x.allowed x.reads c.if-end-text.false (finished c.new-made.ensures.codes c.new-made.ensures.runs (root_fed x) (depth d) c.finish.ensures.list (search rules)) refl
