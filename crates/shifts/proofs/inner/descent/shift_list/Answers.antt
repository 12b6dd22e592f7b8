-- The descent from the root, and the end. Assumes nothing.
use Rattle.std.proofs.Common.{rules, ◌≡◌, ◌∙◌, ◌^◌}
use native.Mathlib.Nat.{zero-add}
use Rattle.emit.specs.Inner.{Feeds}
use Rattle.emit.proofs.Runs.{fed_to, finished}
use Rattle.shifts.specs.Shift.{shifted}
use Rattle.shifts.proofs.Targets.{root_aimed}
use Rattle.shifts.proofs.inner.descent.shift_list.Goals as goal
use Rattle.shifts.proofs.inner.descent.shift_list.Goals.{After-shift_cell}

pub shift_cell-requires : goal.shift_cell-requires
shift_cell-requires c = root_aimed c.requires c.axes.ensures c.new-made.ensures.depth c.new-made.ensures.runs

-- all voxels are fed
all : (c : After-shift_cell) → Feeds c.args.depth (shifted c.args.depth c.args.l.now c.args.w) 0 (8 ^ c.args.depth) c.new-made.result c.shift_cell.new.made
all c = fed_to _ _ (zero-add _) c.shift_cell.ensures.fed

depth : (c : After-shift_cell) → c.shift_cell.new.made.depth ≡ c.args.depth
depth c = c.shift_cell.ensures.depth ∙ c.new-made.ensures.depth

pub finish-requires : goal.finish-requires
finish-requires c = let d = (goal.at.finish-requires c).After-shift_cell in rw (depth d) (c.requires.deep, (all d).ready)

pub returns : goal.returns
returns c = let d = (goal.at.returns c).After-shift_cell in finished c.new-made.ensures.codes c.new-made.ensures.runs (all d) (depth d) c.finish.ensures.list (search rules)
