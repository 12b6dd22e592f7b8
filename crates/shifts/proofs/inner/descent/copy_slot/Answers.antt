-- No leaf, a leaf that has all of the cell, smaller leaves. Assumes nothing.
use Rattle.std.proofs.Common.{arith, ◌≡◌, ap, ◌∙◌, Bool, true, false, ℕ, ◌+◌, ◌-◌, ◌*◌, ◌^◌, ◌<◌, ◌≤◌}
use mathlib.Core.Path.{subst₂}
use Rattle.cells.proofs.Words.{pow8_small}
use Rattle.emit.proofs.Runs.{fed_white, fed_to}
use Rattle.records.specs.Slot.{Of, SlotTint, tint_of}
use Rattle.records.specs.declared.inner.slots.Tint.{Tint}
use Rattle.records.proofs.SlotLaws.{slot_colour}
use Rattle.shifts.specs.Descent.{Copies}
use Rattle.shifts.proofs.inner.descent.copy_slot.Goals as goal
use Rattle.shifts.proofs.inner.descent.copy_slot.Goals.{After-tint_slot}

-- the cell is of one colour
colour : (c : After-tint_slot) (x : Bool) → c.tint_slot.result ≡ tint_of x → (P : ℕ → Bool) (b : ℕ) → Of c.args.depth c.args.l.now c.args.c.k b c.args.s → Copies c.args.depth c.args.l.now b c.args.c P
    → (v : ℕ) → c.args.c.from ≤ v → v < c.args.c.from + 8 ^ c.args.c.k → P v ≡ x
colour c x e P b part h v lo hi =
    let told = subst₂ (λ (w : ℕ) (t : Tint). SlotTint c.args.depth c.args.l.now w c.args.s t) c.pow8-w.ensures e c.tint_slot.ensures in
    h v lo hi ∙ slot_colour part c.requires.held.source x told (b * 8 ^ c.args.c.k + (v - c.args.c.from)) (omega arith) (omega arith)

pub overflow_add-c : goal.overflow_add-c
overflow_add-c c = record { fits = omega (arith, c.pow8-w.ensures, c.requires.root, pow8_small c.args.depth c.requires.held.source.deep) }

pub returns-in-White-clause-fed : goal.returns-in-White-clause-fed
returns-in-White-clause-fed c P b x h = fed_white _ P _ _ _ _ (omega arith) c.requires.root (colour (goal.at.returns-in-White-clause-fed c).After-tint_slot false c.in-White.is P b x h) c.requires.ready

pub returns-in-Black-clause-fed : goal.returns-in-Black-clause-fed
returns-in-Black-clause-fed c P b x h =
    let w = c.pow8-w.ensures in
    fed_to _ P (ap (λ (y : ℕ). c.args.c.from + y) w)
    (rw c.requires.depth at (c.push.ensures.fed P (λ v lo hi. colour (goal.at.returns-in-Black-clause-fed c).After-tint_slot true c.in-Black.is P b x h v lo (omega (arith, w)))))
