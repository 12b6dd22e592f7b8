-- The cell, where its tint is known; and the children, each with the slots that the labels pick. Assumes nothing.
use Rattle.std.proofs.Common.{arith, ◌≡◌, ap, ◌∙◌, true, false, List, ℕ, suc, ◌+◌, ◌-◌, ◌*◌, ◌/◌, ◌%◌, ◌^◌, ◌<◌, ◌≤◌}
use Rattle.cells.proofs.Power.{pow8_pos, pow8_suc, pow8_bits}
use Rattle.cells.proofs.Words.{pow8_small}
use Rattle.records.proofs.Edges.{child_within}
use Rattle.records.proofs.SlotLaws.{eight_of}
use Rattle.records.specs.Slot.{slot_at}
use Rattle.records.specs.declared.inner.slots.Slot.{Slot}
use Rattle.emit.proofs.Runs.{fed_white, fed_to}
use Rattle.emit.proofs.Children.{children_more, children_all}
use Rattle.shifts.specs.LabelSums.{sum_label, carry_label, Uses}
use Rattle.shifts.specs.Descent.{Aimed, part_at}
use Rattle.shifts.proofs.Bits.{uses_none, none_used}
use Rattle.shifts.proofs.Adder.{need_lt}
use Rattle.shifts.proofs.Targets.{aimed_slots, aimed_colour, aimed_copying, aimed_copies, aimed_parent, aimed_above, aimed_divides, child_aimed}
use Rattle.shifts.proofs.inner.descent.+shift_cell_shift_children.Goals as goal
use Rattle.shifts.proofs.inner.descent.+shift_cell_shift_children.Goals.{shift_cell-After-colour, shift_cell-In-Mixed, shift_children-In-loop-m, shift_children-then-c-eq0, shift_children-else-c-eq0}

-- ---- the cell

-- where its tint is known: the span is 8 ^ k, and the shift has labels below
parent : (t : ℕ) (c : shift_cell-After-colour t) → 1 ≤ c.args.c.k
parent t c = aimed_parent c.requires c.if-c-eq0.false

level : (t : ℕ) (c : shift_cell-After-colour t) → suc (c.args.c.k - 1) ≡ c.args.c.k
level t c = omega (arith, parent t c)

pub shift_cell-returns-then-c-eq0-clause-fed : goal.shift_cell-returns-then-c-eq0-clause-fed
shift_cell-returns-then-c-eq0-clause-fed t c = c.copy_slot.ensures.fed _ _ (c.requires.slots 0 (omega arith) (uses_none _)) (aimed_copies c.requires c.if-c-eq0.true)

pub shift_cell-colour-requires : goal.shift_cell-colour-requires
shift_cell-colour-requires t c = (omega (arith, c.requires.axes, need_lt c.args.c.k c.args.w), (_, aimed_slots c.requires))

pub shift_cell-overflow_add-c : goal.shift_cell-overflow_add-c
shift_cell-overflow_add-c t c = record { fits = omega (arith, c.pow8-span.ensures, c.requires.root, pow8_small c.args.depth c.requires.source.deep) }

pub shift_cell-push-requires : goal.shift_cell-push-requires
shift_cell-push-requires t c = rw c.requires.depth (record {
  deep = c.requires.source.deep;
  ready = c.requires.ready;
  some = omega (arith, c.pow8-span.ensures, pow8_pos c.args.c.k);
  root = omega (arith, c.pow8-span.ensures, c.requires.root);
})

pub shift_cell-overflow_sub-k : goal.shift_cell-overflow_sub-k
shift_cell-overflow_sub-k t c = parent t (goal.at.shift_cell-overflow_sub-k t c).After-colour

pub shift_cell-split-p-requires : goal.shift_cell-split-p-requires
shift_cell-split-p-requires t c =
    let d = (goal.at.shift_cell-split-p-requires t c).After-colour in
    (omega (arith, c.requires.axes, need_lt c.args.c.k c.args.w), aimed_above c.requires _ (level t d))

pub shift_cell-shift_children-requires : goal.shift_cell-shift_children-requires
shift_cell-shift_children-requires t c =
    let d = (goal.at.shift_cell-shift_children-requires t c).After-colour in
    (omega (arith, c.decreases, parent t d), aimed_divides c.requires _ (level t d) c.axes.result c.axes.ensures c.split-p.result c.split-p.ensures)

pub shift_cell-returns-in-White-clause-fed : goal.shift_cell-returns-in-White-clause-fed
shift_cell-returns-in-White-clause-fed t c =
    fed_white _ _ _ _ _ _ (omega arith) c.requires.root (aimed_colour c.requires _ c.pow8-span.ensures c.colour.ensures false c.in-White.is) c.requires.ready

pub shift_cell-returns-in-Black-clause-fed : goal.shift_cell-returns-in-Black-clause-fed
shift_cell-returns-in-Black-clause-fed t c =
    let wide : c.pow8-span.result ≡ 8 ^ c.args.c.k = c.pow8-span.ensures in
    fed_to _ _ (ap (λ (y : ℕ). c.args.c.from + y) wide)
    (rw c.requires.depth at (c.push.ensures.fed _ (λ v lo hi. aimed_colour c.requires _ wide c.colour.ensures true c.in-Black.is v lo (omega (arith, wide)))))

pub shift_cell-returns-in-Mixed-clause-fed : goal.shift_cell-returns-in-Mixed-clause-fed
shift_cell-returns-in-Mixed-clause-fed t c =
    let d = (goal.at.shift_cell-returns-in-Mixed-clause-fed t c).After-colour in
    fed_to _ _ (ap (λ (n : ℕ). c.args.c.from + 8 ^ n) (level t d)) c.shift_children.ensures.fed

-- ---- the children

-- child m, with the slots that the labels pick
child : (t : ℕ) (c : shift_children-In-loop-m t) (x : List Slot) → let h = c.args.w / 2 ^ (3 * c.args.c.k) % 8 in
    ((q : ℕ) → q < 8 → Uses c.args.c.axes q → slot_at x q ≡ part_at c.args.p (carry_label h c.loop-m.m q) (sum_label h c.loop-m.m q))
    → Aimed c.args.depth c.args.l.now c.args.w (record { from = c.loop-m.v; k = c.args.c.k; axes = c.args.c.axes }) x c.loop-m.made
child t c x pick =
    let u = c.loop-m in
    let place = u.invariant.place ∙ ap (λ (y : ℕ). c.args.c.from + u.m * y) c.pow8-span.ensures in
    child_aimed c.requires (c.args.w / 2 ^ (3 * c.args.c.k) % 8) u.m u.v (ap (λ (y : ℕ). c.args.w / y % 8) (pow8_bits c.args.c.k)) c.loop-m-test.true place pick u.invariant.depth u.invariant.fed.ready

-- where no axis can carry, slot 0 is all that is needed
lone : (t : ℕ) (c : shift_children-In-loop-m t) → c.args.c.axes ≡ 0 → (a b : ℕ) → let h = c.args.w / 2 ^ (3 * c.args.c.k) % 8 in
    a ≡ carry_label h c.loop-m.m 0 → b ≡ sum_label h c.loop-m.m 0
    → Aimed c.args.depth c.args.l.now c.args.w (record { from = c.loop-m.v; k = c.args.c.k; axes = c.args.c.axes }) (eight_of (part_at c.args.p a b)) c.loop-m.made
lone t c none a b e g = child t c (eight_of _) (λ q lt u. rw (none_used q lt (rw none at u), e, g))

pub shift_children-copy_slot-requires : goal.shift_children-copy_slot-requires
shift_children-copy_slot-requires t c =
    let d = (goal.at.shift_children-copy_slot-requires t c).In-loop-m in
    aimed_copying (lone t d c.if-c-eq0.true _ _ c.carry_label-from.ensures.0 c.sum_label-label.ensures.0)

pub shift_children-shift_cell-requires : goal.shift_children-shift_cell-requires
shift_children-shift_cell-requires t c =
    let d = (goal.at.shift_children-shift_cell-requires t c).In-loop-m in
    (omega (arith, c.decreases), child t d _ (λ q g u. c.pick.ensures q g))

-- child m ends within the root
pub shift_children-overflow_add-v : goal.shift_children-overflow_add-v
shift_children-overflow_add-v t c =
    let r = c.pow8-span in
    record { fits = omega (arith, child_within c.loop-m.m r.result c.loop-m-test.true, pow8_suc c.args.c.k, r.ensures, c.loop-m.invariant.place, c.requires.root, pow8_small c.args.depth c.requires.source.deep) }

pub shift_children-loop-m-preserved : goal.shift_children-loop-m-preserved
shift_children-loop-m-preserved t c =
    let d = (goal.at.shift_children-loop-m-preserved t c).In-loop-m in
    elim c.if-c-eq0.branch [
      | shift_children-then-c-eq0 w ↦
          let x = lone t d w.if-c-eq0.true _ _ w.carry_label-from.ensures.0 w.sum_label-label.ensures.0 in
          rw w.made-is (children_more c.loop-m.invariant c.loop-m-test.true c.pow8-span.ensures w.copy_slot.ensures.same w.copy_slot.ensures.depth (w.copy_slot.ensures.fed _ _ (x.slots 0 (omega arith) (uses_none _)) (aimed_copies x w.if-c-eq0.true)))
      | shift_children-else-c-eq0 w ↦ rw w.made-is (children_more c.loop-m.invariant c.loop-m-test.true c.pow8-span.ensures w.shift_cell.ensures.same w.shift_cell.ensures.depth w.shift_cell.ensures.fed)
    ]

pub shift_children-returns-clause-fed : goal.shift_children-returns-clause-fed
shift_children-returns-clause-fed t c =
    let k = c.args.c.k in
    children_all c.loop-m.invariant (8 ^ suc k) c.loop-m-test.false (omega (arith, pow8_suc k, c.pow8-span.ensures))
