-- A writer that goes through the eight children of a cell, in label order: the loop over the children. Assumes nothing.
use mathlib.Core.Path.{◌≡◌, refl, sym, ap, ◌∙◌}
use mathlib.Core.Bool.{Bool}
use Prim.Native.Nat.{ℕ, ◌+◌, ◌*◌, ◌<◌, ◌≤◌}
use native.Mathlib.Nat.{suc-mul, zero-mul}
use native.Mathlib.Numerals.{add-one}
use native.Mathlib.Omega.{arith}
use Rattle.emit.specs.declared.inner.Emitter.{Emitter}
use Rattle.emit.specs.Inner.{Ready, Feeds}
use Rattle.emit.proofs.Runs.{fed_none, fed_to, fed_then}

-- the children before voxel p, i of them, have been fed: they took the emitter e to m
pub record Children (D : ℕ) (P : ℕ → Bool) (from : ℕ) (e : Emitter) (w : ℕ) (m : Emitter) (p i : ℕ) : Type 0 where
  pub same : m.out.ghost_name ≡ e.out.ghost_name
  pub depth : m.depth ≡ e.depth
  pub fed : Feeds D P from p e m
  pub place : p ≡ from + i * w
  pub turns : i ≤ 8

module _ {D : ℕ} {P : ℕ → Bool} {from : ℕ} {e : Emitter} {w : ℕ} where
  pub children_none : Ready D e.runs from → Children D P from e w e from 0
  children_none h = record { same = refl; depth = refl; fed = fed_none D P from e.out.now e.runs h; place = omega (arith, zero-mul w); turns = omega arith }

  module _ {m : Emitter} {p i : ℕ} (c : Children D P from e w m p i) where
    -- one child more, of span u
    pub children_more : {u : ℕ} {n : Emitter} → i < 8 → w ≡ u → n.out.ghost_name ≡ m.out.ghost_name → n.depth ≡ m.depth → Feeds D P p (p + u) m n → Children D P from e w n (p + w) (i + 1)
    children_more {u} {n} h wide same depth x = record {
      same = same ∙ c.same;
      depth = depth ∙ c.depth;
      fed = fed_then D P c.fed (fed_to D P (ap (λ (y : ℕ). p + y) (sym wide)) x);
      place = omega (arith, c.place, suc-mul i w, ap (λ (m : ℕ). m * w) (add-one i));
      turns = omega arith;
    }

    -- all eight, of span u together
    pub children_all : (u : ℕ) → 8 ≤ i → u ≡ 8 * w → Feeds D P from (from + u) e m
    children_all u h wide =
        let j : i ≡ 8 = omega (arith, c.turns) in
        fed_to D P (omega (arith, c.place, ap (λ (m : ℕ). m * w) j)) c.fed
