-- A leaf more is copied, until all are. Assumes nothing.
use Rattle.std.proofs.Common.{arith, ◌≡◌, sym, ap, ◌∙◌, ℕ, ◌+◌, ◌-◌, get_or}
use Rattle.cells.proofs.Words.{pow8_small}
use Rattle.records.specs.Record.{black}
use Rattle.shifts.proofs.Copying.{Comes, copied_none, copied_leaf, copied_next, copied_all}
use Rattle.shifts.proofs.inner.descent.copy_leaves.Goals as goal
use Rattle.shifts.proofs.inner.descent.copy_leaves.Goals.{In-loop-i}

-- the leaf at place i comes next
comes : (c : In-loop-i) → Comes c.args.depth c.cell_from-base.result c.args.c.from (get_or c.args.l.now c.loop-i.i 0) c.loop-i.made.runs
comes c =
    let held = c.requires.0.held in
    copied_leaf held c.requires.1 (c.cell_from-base.ensures _ held.part) c.requires.0.root c.loop-i.invariant c.loop-i-test.true

-- the emitter's depth
depth : (c : In-loop-i) → c.loop-i.made.depth ≡ c.args.depth
depth c = c.loop-i.invariant.depth ∙ c.requires.0.depth

pub loop-i-init : goal.loop-i-init
loop-i-init c =
    let held = c.requires.0.held in
    copied_none held c.requires.1 (c.cell_from-base.ensures _ held.part) c.requires.0.root c.requires.0.ready

pub first-requires : goal.first-requires
first-requires c = let x = comes (goal.at.first-requires c).In-loop-i in (x.piece.deep, x.is_proper)

pub overflow_add-v : goal.overflow_add-v
overflow_add-v c =
    let p = (comes (goal.at.overflow_add-v c).In-loop-i).piece in
    record { fits = omega (arith, c.first.ensures, p.some, p.root, pow8_small _ p.deep) }

pub width-requires : goal.width-requires
width-requires c = let x = comes (goal.at.width-requires c).In-loop-i in (x.piece.deep, x.is_proper)

pub overflow_add-v-in-loop-i : goal.overflow_add-v-in-loop-i
overflow_add-v-in-loop-i c =
    let p = (comes (goal.at.overflow_add-v-in-loop-i c).In-loop-i).piece in
    record { fits = omega (arith, c.first.ensures, c.width.ensures, p.root, pow8_small _ p.deep) }

pub push-requires : goal.push-requires
push-requires c = rw (depth (goal.at.push-requires c).In-loop-i, c.first.ensures, c.width.ensures) (comes (goal.at.push-requires c).In-loop-i).piece

pub loop-i-preserved : goal.loop-i-preserved
loop-i-preserved c =
    let held = c.requires.0.held in
    copied_next held c.requires.1 (c.cell_from-base.ensures _ held.part) c.requires.0.root c.loop-i.invariant c.loop-i-test.true
    c.first.result c.width.result c.first.ensures c.width.ensures c.push.ensures.same c.push.ensures.depth (rw (depth (goal.at.loop-i-preserved c).In-loop-i) at c.push.ensures.fed)

pub returns-clause-fed : goal.returns-clause-fed
returns-clause-fed c P b y h =
    let held = c.requires.0.held in
    copied_all held c.requires.1 (c.cell_from-base.ensures _ held.part) c.requires.0.root c.loop-i.invariant c.loop-i-test.false P
    (λ v m n. h v m n ∙ ap (λ (x : ℕ). black c.args.depth c.args.l.now (x + (v - c.args.c.from))) (sym (c.cell_from-base.ensures b y)))
