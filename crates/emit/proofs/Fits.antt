-- The cell that fits at the front of a run: where it is a first child, the run ends in its parent. Assumes nothing.
use mathlib.Core.Path.{◌≡◌, sym, ap, ◌∙◌}
use mathlib.Core.Bool.{true}
use mathlib.Core.Logic.{⊎_elim}
use Prim.Native.Nat.{ℕ, suc, ◌+◌, ◌-◌, ◌*◌, ◌/◌, ◌^◌, ◌<◌, ◌≤◌}
use native.Mathlib.Nat.{add-mul, mul-div_cancel, le_of_mul-le-mul_right, suc-mul}
use native.Mathlib.Omega.{arith}
use Rattle.cells.specs.Cell.{proper, span, start, holds}
use Rattle.cells.proofs.Power.{le_or_lt, pow8_pos, pow8_le_inv, pow8_split}
use Rattle.cells.proofs.Cells.{cell_of_lem, start_multiple, within}
use Rattle.records.proofs.Lists.{holds_between}
use Rattle.records.proofs.Parents.{first_child}
use Rattle.emit.specs.Inner.{Fit}

pub fit_some : {p to w : ℕ} → Fit p to w → 0 < w
fit_some f = omega (arith, pow8_pos f.k, f.wide)

-- the cell that fits at p
pub record Fitted (D p w c : ℕ) : Type 0 where
  pub is_proper : proper D c ≡ true
  pub is_start : start D c ≡ p
  pub is_span : span D c ≡ w

module _ (D p to w : ℕ) (root : to ≤ 8 ^ D) (f : Fit p to w) where
  pub fitted : Fitted D p w ((8 ^ D + p) / w)
  fitted =
      let k : ℕ = f.k in
      let q : ℕ = f.q in
      let j : ℕ = D - k in
      let deep : k ≤ D = pow8_le_inv k D (omega (arith, f.wide, f.fits)) in
      let all : 8 ^ D ≡ 8 ^ j * 8 ^ k = pow8_split deep in
      let at : p ≡ q * 8 ^ k = f.even ∙ ap (λ (x : ℕ). q * x) f.wide in
      let index : suc q ≤ 8 ^ j = le_of_mul-le-mul_right (omega (arith, suc-mul q (8 ^ k), f.wide, f.fits)) (pow8_pos k) in
      let sum : 8 ^ D + p ≡ (8 ^ j + q) * 8 ^ k = omega (arith, add-mul (8 ^ j) q (8 ^ k)) in
      let code : (8 ^ D + p) / w ≡ 8 ^ j + q = rw (sum, f.wide) (mul-div_cancel (8 ^ j + q) (pow8_pos k)) in
      let t = cell_of_lem D j k q (omega arith) index in
      rw code (record { is_proper = t.0; is_start = t.3 ∙ sym at; is_span = t.2 ∙ sym f.wide })

  -- where it is a first child, `to` lies in its parent: else the parent would fit
  pub fitted_capped : (q : ℕ) → 8 * q ≡ (8 ^ D + p) / w → (to < 8 ^ D) × (holds D q to ≡ true)
  fitted_capped q e =
      let x : Fitted D p w (8 * q) = rw e fitted in
      let y = first_child D q x.is_proper in
      let (m, s) = start_multiple D q y.is_proper in
      let at : start D q ≡ p = y.is_start ∙ x.is_start in
      let wide : span D q ≡ 8 * w = y.is_span ∙ ap (λ (n : ℕ). 8 * n) x.is_span in
      let even : p ≡ m * (8 * w) = sym at ∙ s ∙ ap (λ (n : ℕ). m * n) wide in
      let far : to < p + 8 * w = ⊎_elim (λ (g : p + 8 * w ≤ to). absurd (f.most m even g)) (λ g. g) (le_or_lt (p + 8 * w) to) in
      (omega (arith, within D q y.is_proper), holds_between D q to (omega (arith, f.fits)) (omega arith))
