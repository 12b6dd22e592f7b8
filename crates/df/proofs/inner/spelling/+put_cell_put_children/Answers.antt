-- The cell, by its tint; and the texts of its children, one after the other. Assumes nothing.
use Rattle.std.proofs.Common.{arith, refl, ◌∙◌, ◌≡◌, true, false, ℕ, suc, ◌-◌, ◌^◌}
use mathlib.Core.Path.{subst₂}
use Rattle.records.specs.Slot.{SlotTint}
use Rattle.records.specs.declared.inner.slots.Tint.{Tint}
use Rattle.records.specs.declared.inner.slots.Tint.TheVariants.{Mixed}
use Rattle.records.proofs.SlotLaws.{slot_parent}
use Rattle.df.proofs.Spelled.{spelled_leaf, spelling_children, spelled_gray, texts_none, texts_room, texts_more, texts_all}
use Rattle.df.proofs.inner.spelling.+put_cell_put_children.Goals as goal
use Rattle.df.proofs.inner.spelling.+put_cell_put_children.Goals.{put_cell-After-tint_slot, put_cell-In-Mixed}

-- ---- the cell

-- what the tint says of the cell, of span 8 ^ k
told : (t : ℕ) (c : put_cell-After-tint_slot t) {x : Tint} → c.tint_slot.result ≡ x → SlotTint c.args.depth c.args.l.now (8 ^ c.args.k) c.args.s x
told t c e = subst₂ (λ (w : ℕ) (x : Tint). SlotTint c.args.depth c.args.l.now w c.args.s x) c.pow8.ensures e c.tint_slot.ensures

-- where it has leaves smaller than itself, it has children
mixed : (t : ℕ) (c : put_cell-In-Mixed t) → SlotTint c.args.depth c.args.l.now (8 ^ c.args.k) c.args.s Mixed
mixed t c = subst₂ (λ (w : ℕ) (x : Tint). SlotTint c.args.depth c.args.l.now w c.args.s x) c.pow8.ensures c.in-Mixed.is c.tint_slot.ensures

level : (t : ℕ) (c : put_cell-In-Mixed t) → suc (c.args.k - 1) ≡ c.args.k
level t c = omega (arith, slot_parent c.requires.held (mixed t c))

pub put_cell-put_children-requires : goal.put_cell-put_children-requires
put_cell-put_children-requires t c =
    let d = (goal.at.put_cell-put_children-requires t c).In-Mixed in
    (omega (arith, c.decreases, level t d), spelling_children c.requires (mixed t d) _ (level t d) c.cut_slot-parts.result c.cut_slot-parts.ensures c.put-in-Mixed.ensures.text.place)

pub put_cell-returns-in-White-clause-text : goal.put_cell-returns-in-White-clause-text
put_cell-returns-in-White-clause-text t c = λ b.
    spelled_leaf c.requires.held.source false (told t (goal.at.put_cell-returns-in-White-clause-text t c).After-tint_slot c.in-White.is) (rw c.byte.ensures at c.put.ensures.text)

pub put_cell-returns-in-Black-clause-text : goal.put_cell-returns-in-Black-clause-text
put_cell-returns-in-Black-clause-text t c = λ b.
    spelled_leaf c.requires.held.source true (told t (goal.at.put_cell-returns-in-Black-clause-text t c).After-tint_slot c.in-Black.is) (rw c.byte-in-Black.ensures at c.put-in-Black.ensures.text)

pub put_cell-returns-in-Mixed-clause-text : goal.put_cell-returns-in-Mixed-clause-text
put_cell-returns-in-Mixed-clause-text t c = λ b.
    let d = (goal.at.put_cell-returns-in-Mixed-clause-text t c).In-Mixed in
    spelled_gray c.requires (mixed t d) _ (level t d) c.cut_slot-parts.result c.cut_slot-parts.ensures (rw c.byte-in-Mixed.ensures at c.put-in-Mixed.ensures.text) (c.put_children.ensures.text b)

-- ---- the children

pub put_children-loop-m-init : goal.put_children-loop-m-init
put_children-loop-m-init t c = record { same = refl; text = texts_none }

pub put_children-put_cell-requires : goal.put_children-put_cell-requires
put_children-put_cell-requires t c = (omega (arith, c.decreases), texts_room c.requires c.loop-m.invariant.text c.loop-m-test.true)

pub put_children-loop-m-preserved : goal.put_children-loop-m-preserved
put_children-loop-m-preserved t c = record {
  same = c.put_cell.ensures.same ∙ c.loop-m.invariant.same;
  text = texts_more c.requires c.loop-m.invariant.text c.loop-m-test.true c.put_cell.ensures.text;
}

pub put_children-returns-clause-text : goal.put_children-returns-clause-text
put_children-returns-clause-text t c = texts_all c.loop-m.invariant.text c.loop-m-test.false
