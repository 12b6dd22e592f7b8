-- Truth values. Assumes nothing.
use Rattle.std.proofs.Common.{◌≡◌, Bool, true, false, ◌&&◌, ◌⊎◌, ◌↔◌, sym, refl, ◌∙◌, inl, inr, true≢false}

-- both halves of a test hold
pub both_true : (a b : Bool) → (a && b) ≡ true → (a ≡ true) × (b ≡ true)
both_true true true e = (refl, refl)
both_true true false e = (refl, e)
both_true false true e = (e, refl)
both_true false false e = (e, e)

-- one of them fails
pub one_false : (a b : Bool) → (a && b) ≡ false → (a ≡ false) ⊎ (b ≡ false)
one_false true b e = inr e
one_false false b e = inl refl

-- a test that does not hold is false
pub refuted : (t : Bool) → (t ≡ true → ⊥) → t ≡ false
refuted true h = absurd (h refl)
refuted false h = refl

-- no test is both
pub clash : {t : Bool} → t ≡ true → t ≡ false → ⊥
clash e f = true≢false (sym e ∙ f)

-- two tests that hold together are one
pub same_truth : (s t : Bool) → (s ≡ true) ↔ (t ≡ true) → s ≡ t
same_truth true t h = sym (h.0 refl)
same_truth false true h = h.1 refl
same_truth false false h = refl
