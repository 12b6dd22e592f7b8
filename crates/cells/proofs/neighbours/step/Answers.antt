-- What is added, and the border, are those of the step (`Adds` of AxisSteps).
use Rattle.std.proofs.Common.{◌≡◌, ℕ, ℤ, pos, negsuc, sym, ap, ◌∙◌, ◌⊎◌, inl, inr, subst, ⊎_elim, arith, w32, of_z}
use Rattle.cells.specs.Inner.{IsStep, OnAxis}
use Rattle.cells.proofs.AxisSteps.{Adds, adds_forth, adds_back, step_leaves, step_stays}
use Rattle.cells.proofs.Words.{word_bits, same_bits}
use Rattle.cells.proofs.neighbours.step.Goals as goal
use Rattle.cells.proofs.neighbours.step.Goals.{Joined-d-eqminus1, then-d-eqminus1, else-d-eqminus1}

-- a step that is neither 0 nor back
is_forth : (d : ℤ) → IsStep d → (of_z w32 d ≡ of_z w32 (pos 0) → ⊥) → (of_z w32 d ≡ of_z w32 (negsuc 0) → ⊥) → d ≡ pos 1
is_forth d is some not_back = ⊎_elim (λ e. absurd (not_back (ap (of_z w32) e))) (⊎_elim (λ e. absurd (some (ap (of_z w32) e))) (λ e. e)) is

-- what is added, and the border, by the choice of a step forth or back
adds : (a k i code mask : ℕ) (d : ℤ) (s : ℕ × ℕ) → OnAxis a k i code mask → (d ≡ negsuc 0) × (s ≡ (mask, 0)) ⊎ (d ≡ pos 1) × (s ≡ (1, mask)) → Adds a k d s.0 s.1
adds a k i code mask d s on (inl (e, chosen)) = subst (λ (z : ℤ). Adds a k z s.0 s.1) (sym e) (adds_back a k s.0 s.1 (ap (λ (t : ℕ × ℕ). t.0) chosen ∙ on.is_mask) (ap (λ (t : ℕ × ℕ). t.1) chosen))
adds a k i code mask d s on (inr (e, chosen)) = subst (λ (z : ℤ). Adds a k z s.0 s.1) (sym e) (adds_forth a k s.0 s.1 (ap (λ (t : ℕ × ℕ). t.0) chosen) (ap (λ (t : ℕ × ℕ). t.1) chosen ∙ on.is_mask))

-- ---- past that choice

module _ (c : Joined-d-eqminus1) where
  chosen : IsStep c.args.d → (c.args.d ≡ negsuc 0) × (c.if-d-eqminus1.one ≡ (c.args.mask, 0)) ⊎ (c.args.d ≡ pos 1) × (c.if-d-eqminus1.one ≡ (1, c.args.mask))
  chosen is =
      elim c.if-d-eqminus1.branch [
        | then-d-eqminus1 w ↦ inl (same_bits c.args.d (negsuc 0) c.ranges.d (record { sfits = omega arith }) w.if-d-eqminus1.true, w.one-is)
        | else-d-eqminus1 w ↦ inr (is_forth c.args.d is c.if-d-eq0.false w.if-d-eqminus1.false, w.one-is)
      ]

  added : (a k i : ℕ) → OnAxis a k i c.args.code c.args.mask → IsStep c.args.d → Adds a k c.args.d c.if-d-eqminus1.one.0 c.if-d-eqminus1.one.1
  added a k i on is = adds a k i c.args.code c.args.mask c.args.d c.if-d-eqminus1.one on (chosen is)

pub returns-then-code-mask : goal.returns-then-code-mask
returns-then-code-mask c a k i on is =
    step_leaves word_bits a k i c.args.code c.args.mask c.ranges.code.fits on c.args.d c.if-d-eqminus1.one.0 c.if-d-eqminus1.one.1 (added c.before a k i on is) c.if-code-mask.true

pub returns : goal.returns
returns c a k i on is =
    step_stays word_bits a k i c.args.code c.args.mask c.ranges.code.fits on c.args.d c.if-d-eqminus1.one.0 c.if-d-eqminus1.one.1 (added c.before a k i on is) c.if-code-mask.false
