-- An empty slot, and one whose leaf has all of the cell, is each child's as it is.
use Rattle.std.proofs.Common.{◌≡◌, ℕ, suc, ◌+◌, ◌*◌, ◌^◌, ◌<◌, List, Bool, true, false, sym, ap, ◌∙◌, subst, subst₂, ⊎_elim, add-one}
use Rattle.records.specs.Slot.{Of, OfCell, SlotTint, tint_of, slot_at}
use Rattle.records.specs.declared.inner.slots.Slot.{Slot}
use Rattle.records.specs.declared.inner.slots.Tint.{Tint}
use Rattle.records.proofs.SlotLaws.{slot_whole, eight_of, each_of_eight}
use Rattle.records.proofs.inner.slots.split_slot.Goals as goal

-- of one colour
repeated : (D : ℕ) (l : List ℕ) (k w : ℕ) (s : Slot) (t : Tint) (c : Bool) → OfCell D l (suc k) s → w ≡ 8 ^ (k + 1) → SlotTint D l w s t → t ≡ tint_of c
    → (b : ℕ) → Of D l (suc k) b s → (m : ℕ) → m < 8 → Of D l k (8 * b + m) (slot_at (eight_of s) m)
repeated D l k w s t c x wide tint is b y m h =
    subst (Of _ _ _ _) (sym (each_of_eight s m h)) (slot_whole y m h x.source c (subst₂ (λ (w : ℕ) (t : Tint). SlotTint D l w s t) (wide ∙ ap (λ (n : ℕ). 8 ^ n) (add-one k)) is tint))

pub returns-in-White : goal.returns-in-White
returns-in-White c b y m h =
    ⊎_elim
    (λ is. repeated c.args.depth c.args.l.now c.args.k c.pow8.result c.args.s c.tint_slot.result false c.requires c.pow8.ensures c.tint_slot.ensures is b y m h)
    (λ is. repeated c.args.depth c.args.l.now c.args.k c.pow8.result c.args.s c.tint_slot.result true c.requires c.pow8.ensures c.tint_slot.ensures is b y m h)
    c.in-White.is
