-- The cell, by its tint; and the children, each with the part that the label picks. Assumes nothing.
use Rattle.std.proofs.Common.{arith, ◌≡◌, refl, ap, ◌∙◌, true, false, ℕ, suc, ◌+◌, ◌-◌, ◌*◌, ◌^◌}
use mathlib.Core.Path.{subst₂}
use Rattle.cells.proofs.Power.{pow8_suc}
use Rattle.cells.proofs.Words.{pow8_small}
use Rattle.records.specs.Slot.{SlotTint, slot_at}
use Rattle.records.specs.declared.inner.slots.Tint.{Tint}
use Rattle.records.specs.declared.inner.slots.Tint.TheVariants.{White, Mixed}
use Rattle.records.proofs.Edges.{child_within}
use Rattle.records.proofs.SlotLaws.{slot_parent, slot_above}
use Rattle.emit.proofs.Runs.{fed_white, fed_to}
use Rattle.emit.proofs.Children.{children_more, children_all}
use Rattle.turns.specs.Inner.{Turning}
use Rattle.turns.proofs.Targets.{turning_slot, turning_colour, turning_children, child_turning}
use Rattle.turns.proofs.inner.+turn_cell_turn_children.Goals as goal
use Rattle.turns.proofs.inner.+turn_cell_turn_children.Goals.{turn_cell-After-tint_slot, turn_cell-In-Mixed, turn_children-After-source_label, turn_children-then-slot, turn_children-else-slot}

-- ---- the cell

-- the tint as the match told it
told : (t : ℕ) (c : turn_cell-After-tint_slot t) {x : Tint} → c.tint_slot.result ≡ x → SlotTint c.args.depth c.args.l.now (8 ^ c.args.c.k) c.args.s x
told t c e = subst₂ (λ (w : ℕ) (x : Tint). SlotTint c.args.depth c.args.l.now w c.args.s x) c.pow8-w.ensures e c.tint_slot.ensures

-- where it has leaves smaller than itself, it has children
mixed : (t : ℕ) (c : turn_cell-In-Mixed t) → SlotTint c.args.depth c.args.l.now (8 ^ c.args.c.k) c.args.s Mixed
mixed t c = subst₂ (λ (w : ℕ) (x : Tint). SlotTint c.args.depth c.args.l.now w c.args.s x) c.pow8-w.ensures c.in-Mixed.is c.tint_slot.ensures

level : (t : ℕ) (c : turn_cell-In-Mixed t) → suc (c.args.c.k - 1) ≡ c.args.c.k
level t c = omega (arith, slot_parent (turning_slot c.requires) (mixed t c))

pub turn_cell-overflow_add-c : goal.turn_cell-overflow_add-c
turn_cell-overflow_add-c t c = record { fits = omega (arith, c.pow8-w.ensures, c.requires.root, pow8_small c.args.depth c.requires.source.deep) }

pub turn_cell-cut_slot-parts-requires : goal.turn_cell-cut_slot-parts-requires
turn_cell-cut_slot-parts-requires t c =
    let d = (goal.at.turn_cell-cut_slot-parts-requires t c).In-Mixed in
    slot_above (turning_slot c.requires) (mixed t d) _ (level t d)

pub turn_cell-turn_children-requires : goal.turn_cell-turn_children-requires
turn_cell-turn_children-requires t c =
    let d = (goal.at.turn_cell-turn_children-requires t c).In-Mixed in
    (omega (arith, c.decreases, level t d), turning_children c.requires _ (level t d) c.cut_slot-parts.result c.cut_slot-parts.ensures)

pub turn_cell-returns-in-White-clause-fed : goal.turn_cell-returns-in-White-clause-fed
turn_cell-returns-in-White-clause-fed t c =
    let d = (goal.at.turn_cell-returns-in-White-clause-fed t c).After-tint_slot in
    fed_white _ _ _ _ _ _ (omega arith) c.requires.root (turning_colour c.requires (told t d c.in-White.is) false refl) c.requires.ready

pub turn_cell-returns-in-Black-clause-fed : goal.turn_cell-returns-in-Black-clause-fed
turn_cell-returns-in-Black-clause-fed t c =
    let d = (goal.at.turn_cell-returns-in-Black-clause-fed t c).After-tint_slot in
    let wide : c.pow8-w.result ≡ 8 ^ c.args.c.k = c.pow8-w.ensures in
    fed_to _ _ (ap (λ (y : ℕ). c.args.c.from + y) wide)
    (rw c.requires.depth at (c.push.ensures.fed _ (λ v lo hi. turning_colour c.requires (told t d c.in-Black.is) true refl v lo (omega (arith, wide)))))

pub turn_cell-returns-in-Mixed-clause-fed : goal.turn_cell-returns-in-Mixed-clause-fed
turn_cell-returns-in-Mixed-clause-fed t c =
    let d = (goal.at.turn_cell-returns-in-Mixed-clause-fed t c).In-Mixed in
    fed_to _ _ (ap (λ (n : ℕ). c.args.c.from + 8 ^ n) (level t d)) c.turn_children.ensures.fed

-- ---- the children

-- child m, with the part that the label picks
child : (t : ℕ) (c : turn_children-After-source_label t)
    → Turning c.args.depth c.args.l.now (record { from = c.loop-m.v; k = c.args.c.k; turns = c.args.c.turns }) (slot_at c.args.parts c.source_label.result) c.loop-m.made
child t c =
    let u = c.loop-m in
    let place = u.invariant.place ∙ ap (λ (y : ℕ). c.args.c.from + u.m * y) c.pow8-span.ensures in
    child_turning c.requires u.m _ u.v c.loop-m-test.true c.source_label.ensures.0 place u.invariant.depth u.invariant.fed.ready

pub turn_children-turn_cell-requires : goal.turn_children-turn_cell-requires
turn_children-turn_cell-requires t c = (omega (arith, c.decreases), child t (goal.at.turn_children-turn_cell-requires t c).After-source_label)

-- child m ends within the root
pub turn_children-overflow_add-v : goal.turn_children-overflow_add-v
turn_children-overflow_add-v t c =
    let r = c.pow8-span in
    record { fits = omega (arith, child_within c.loop-m.m r.result c.loop-m-test.true, pow8_suc c.args.c.k, r.ensures, c.loop-m.invariant.place, c.requires.root, pow8_small c.args.depth c.requires.source.deep) }

pub turn_children-loop-m-preserved : goal.turn_children-loop-m-preserved
turn_children-loop-m-preserved t c =
    let inv = c.loop-m.invariant in
    elim c.if-slot.branch [
      | turn_children-then-slot w ↦ rw w.made-is (children_more inv c.loop-m-test.true c.pow8-span.ensures w.turn_cell.ensures.same w.turn_cell.ensures.depth w.turn_cell.ensures.fed)
      | turn_children-else-slot w ↦
          let x = child t (goal.at.turn_children-loop-m-preserved t c).After-source_label in
          rw w.made-is (children_more inv c.loop-m-test.true c.pow8-span.ensures refl refl (fed_white _ _ _ _ _ _ (omega arith) x.root (turning_colour x {tint = White} w.if-slot.false false refl) x.ready))
    ]

pub turn_children-returns-clause-fed : goal.turn_children-returns-clause-fed
turn_children-returns-clause-fed t c =
    let k = c.args.c.k in
    children_all c.loop-m.invariant (8 ^ suc k) c.loop-m-test.false (omega (arith, pow8_suc k, c.pow8-span.ensures))
