-- The descent from the root, and the end. Assumes nothing.
use Rattle.std.proofs.Common.{rules, ◌≡◌, ◌∙◌, ◌^◌}
use native.Mathlib.Nat.{zero-add}
use Rattle.emit.specs.Inner.{Feeds}
use Rattle.emit.proofs.Runs.{fed_to, finished}
use Rattle.turns.specs.Inner.{turned}
use Rattle.turns.proofs.Targets.{root_turning}
use Rattle.turns.proofs.inner.turn_root.Goals as goal
use Rattle.turns.proofs.inner.turn_root.Goals.{After-turn_cell}

pub turn_cell-requires : goal.turn_cell-requires
turn_cell-requires c = root_turning c.requires c.new-made.ensures.depth c.new-made.ensures.runs

-- all voxels are fed
all : (c : After-turn_cell) → Feeds c.args.depth (turned c.args.depth c.args.l.now c.args.turns) 0 (8 ^ c.args.depth) c.new-made.result c.turn_cell.new.made
all c = fed_to _ _ (zero-add _) c.turn_cell.ensures.fed

depth : (c : After-turn_cell) → c.turn_cell.new.made.depth ≡ c.args.depth
depth c = c.turn_cell.ensures.depth ∙ c.new-made.ensures.depth

pub finish-requires : goal.finish-requires
finish-requires c = let d = (goal.at.finish-requires c).After-turn_cell in rw (depth d) (c.requires.deep, (all d).ready)

pub returns : goal.returns
returns c = let d = (goal.at.returns c).After-turn_cell in finished c.new-made.ensures.codes c.new-made.ensures.runs (all d) (depth d) c.finish.ensures.list (search rules)
