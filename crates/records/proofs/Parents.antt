-- A list is condensed where the parent of each first child holds a white voxel. Assumes nothing.
use mathlib.Core.Path.{◌≡◌, sym, ap, ◌∙◌}
use mathlib.Core.Bool.{Bool, true}
use mathlib.Core.List.{List, Memᴰ}
use Prim.Native.Nat.{ℕ, zero, suc, ◌+◌, ◌-◌, ◌*◌, ◌/◌, ◌^◌, ◌≤◌, ◌<◌}
use native.Mathlib.Nat.{add-zero, div-lt_iff_lt-mul, div-mul-le_self, lt-div-mul-add}
use native.Mathlib.Omega.{arith}
use Rattle.cells.specs.Cell.{level, proper, start, span, holds}
use Rattle.records.specs.Record.{black, Ordered, Condensed}
use Rattle.records.specs.Inner.{White}
use Rattle.cells.proofs.Bools.{clash}
use Rattle.cells.proofs.Power.{pow8_pos}
use Rattle.cells.proofs.Cells.{Child, proper_bounds, span_pos, within, child, parent}
use Rattle.records.proofs.Lists.{holds_true, holds_between}
use Rattle.records.proofs.Leaves.{member, member_black}

-- a code 8 * q is that of a first child, and q is its parent
pub record FirstChild (D q : ℕ) : Type 0 where
  pub is_proper : proper D q ≡ true
  pub is_above : level D q < D
  pub is_start : start D q ≡ start D (8 * q)
  pub is_span : span D q ≡ 8 * span D (8 * q)

pub first_child : (D q : ℕ) → proper D (8 * q) ≡ true → FirstChild D q
first_child D zero p = absurd (omega (arith, proper_bounds D 0 p, pow8_pos (level D 0)))
first_child D (suc r) p =
    let q : ℕ = suc r in
    let e : 8 * q + 0 ≡ 8 * q = add-zero (8 * q) in
    let (a, b) = parent D q 0 (omega arith) (omega arith) (rw e p) in
    let x : Child D q (8 * q) 0 = rw e at (child D q 0 a b (omega arith)) in
    record { is_proper = a; is_above = b; is_start = omega (arith, x.is_start); is_span = sym x.is_span }

-- a voxel of a cell that is no voxel lies in one of its children
pub in_child : (D p v : ℕ) → proper D p ≡ true → level D p < D → holds D p v ≡ true → (j : ℕ) × (j < 8) × (holds D (8 * p + j) v ≡ true)
in_child D p v q h k =
    let u : ℕ = span D (8 * p + 0) in
    let zeroth = child D p 0 q h (omega arith) in
    let pos = span_pos D (8 * p + 0) in
    let (lo, hi) = holds_true D p v k in
    let j : ℕ = (v - start D p) / u in
    let below : j < 8 = (div-lt_iff_lt-mul pos).1 (omega (arith, zeroth.is_span)) in
    let t = child D p j q h below in
    let same : span D (8 * p + j) ≡ u = omega (arith, t.is_span, zeroth.is_span) in
    let st : start D (8 * p + j) ≡ start D p + j * u = t.is_start ∙ ap (λ (x : ℕ). start D p + j * x) same in
    let a : j * u ≤ v - start D p = div-mul-le_self (v - start D p) u in
    let b : v - start D p < j * u + u = lt-div-mul-add pos in
    (j, below, holds_between D (8 * p + j) v (omega arith) (omega arith))

pub capped_condensed : (D : ℕ) (P : ℕ → Bool) (l : List ℕ) → Ordered D 0 l → ((v : ℕ) → v < 8 ^ D → black D l v ≡ P v) → ((q : ℕ) → Memᴰ (8 * q) l → White D P q) → Condensed l
unfolding Condensed
capped_condensed D P l ordered same capped q all =
    let first : Memᴰ (8 * q) l = mathlib.Core.List.Memᴰ.cast (sym (add-zero (8 * q))) (all 0 (omega arith)) in
    let x = first_child D q (member D 0 l (8 * q) ordered first).0 in
    let a : White D P q = capped q first in
    let (j, h, k) = in_child D q a.voxel x.is_proper x.is_above a.inside in
    let inside : a.voxel < 8 ^ D = omega (arith, within D q x.is_proper, holds_true D q a.voxel a.inside) in
    clash (member_black D (8 * q + j) l a.voxel (all j h) k) (same a.voxel inside ∙ a.white)
