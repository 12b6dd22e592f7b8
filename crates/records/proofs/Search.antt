-- What the search in an ordered list finds: the leaf that may hold a voxel, and the leaves that meet a cell. Assumes nothing.
use mathlib.Core.Path.{◌≡◌, refl, sym, ◌∙◌}
use mathlib.Core.Bool.{Bool, true, false}
use mathlib.Core.Logic.{⊎_elim}
use mathlib.Core.List.{List}
use Prim.Native.Nat.{ℕ, suc, ◌-◌, ◌≤◌, ◌<◌, zero-le}
use native.Mathlib.Nat.{le_refl}
use native.Mathlib.Omega.{arith}
use lib.Dec.{ltb}
use lib.ListN.{length, get_or}
use borrow.Author.Tests.{ltb-true, ltb-false, lt-ltb, le-ltb}
use Rattle.cells.specs.Cell.{proper, start, end}
use Rattle.records.specs.Record.{black, Ordered}
use Rattle.records.specs.Inner.{Starts, reaches}
use Rattle.records.specs.Met.{MetPart}
use Rattle.cells.proofs.Power.{le_or_lt}
use Rattle.cells.proofs.Bools.{both_true, refuted, clash}
use Rattle.cells.proofs.Cells.{span_pos}
use Rattle.records.proofs.Lists.{holds_true, holds_between}
use Rattle.records.proofs.Leaves.{member, member_black, leaf_of}
use Rattle.records.proofs.Fault.{member_at, index_of, in_order}
use Rattle.records.proofs.Part.{ends_rise, part_made}

pub proper_at : (D : ℕ) (l : List ℕ) → Ordered D 0 l → (i : ℕ) → i < length l → proper D (get_or l i 0) ≡ true
proper_at D l o i h = (member D 0 l (get_or l i 0) o (member_at l i h)).0

-- the same search, by equal numbers
pub starts_same : {D : ℕ} {l : List ℕ} {v w lo hi r : ℕ} → v ≡ w → Starts D l v lo hi r → Starts D l w lo hi r
starts_same e s = rw (← e) s

-- ---- the test of the leaf before a place

pub reaches_none : (D : ℕ) (l : List ℕ) (at v : ℕ) → at ≡ 0 → reaches D l at v ≡ false
unfolding reaches
reaches_none D l at v e = rw (le-ltb 0 at (omega arith))

pub reaches_is : (D : ℕ) (l : List ℕ) (at v : ℕ) → 0 < at → reaches D l at v ≡ ltb v (end D (get_or l (at - 1) 0))
unfolding reaches
reaches_is D l at v h = rw (lt-ltb 0 at h)

pub reaches_true : (D : ℕ) (l : List ℕ) (at v : ℕ) → reaches D l at v ≡ true → (0 < at) × (v < end D (get_or l (at - 1) 0))
unfolding reaches
reaches_true D l at v e = let t = both_true (ltb 0 at) (ltb v (end D (get_or l (at - 1) 0))) e in (ltb-true 0 at t.0, ltb-true v _ t.1)

reaches_false : (D : ℕ) (l : List ℕ) (at v : ℕ) → reaches D l at v ≡ false → 0 < at → end D (get_or l (at - 1) 0) ≤ v
reaches_false D l at v e h = ltb-false v _ (sym (reaches_is D l at v h) ∙ e)

module _ (D : ℕ) (l : List ℕ) (o : Ordered D 0 l) where
  -- ---- a voxel is black just where the last leaf that starts at it or before it ends after it

  -- a leaf that holds v is that one
  the_last : (v at i : ℕ) → Starts D l (suc v) 0 (length l) at → i < length l → start D (get_or l i 0) ≤ v → v < end D (get_or l i 0) → reaches D l at v ≡ true
  the_last v at i s h lo hi =
      let k : i < at = ⊎_elim (λ (k : at ≤ i). absurd (omega (arith, s.above i k h))) (λ k. k) (le_or_lt at i) in
      reaches_is D l at v (omega arith) ∙ lt-ltb v _ (omega (arith, ends_rise D l o i (at - 1) (omega arith) (omega (arith, s.high))))

  pub black_last : (v at : ℕ) → Starts D l (suc v) 0 (length l) at → reaches D l at v ≡ black D l v
  black_last v at s = go (reaches D l at v) refl
    where
      go : (t : Bool) → reaches D l at v ≡ t → t ≡ black D l v
      go true e =
          let (p, r) = reaches_true D l at v e in
          let i : at - 1 < length l = omega (arith, s.high) in
          let lo = s.below (at - 1) zero-le (omega arith) in
          sym (member_black D (get_or l (at - 1) 0) l v (member_at l (at - 1) i) (holds_between D (get_or l (at - 1) 0) v (omega arith) r))
      go false e = sym (refuted (black D l v) (λ b.
          let (c, m, h) = leaf_of D l v b in
          let (i, k, f) = index_of c l m in
          let t = holds_true D c v h in
          clash (the_last v at i s k (rw f t.0) (rw f t.1)) e))

  -- ---- the leaves that meet the cell m: `at` is the first that starts in it, or after it, and e the first that starts after it

  module _ (m at e : ℕ) (s : Starts D l (start D m) 0 (length l) at) (t : Starts D l (end D m) at (length l) e) where
    -- the part begins at a where the leaves before a end before the cell, and those from a up to `at` reach into it
    part_is : (a : ℕ) → a ≤ at → ((i : ℕ) → i < a → end D (get_or l i 0) ≤ start D m) → ((i : ℕ) → a ≤ i → i < at → start D m < end D (get_or l i 0)) → MetPart D l m a (e - a)
    part_is a h before reach =
        let low = t.low in
        let high = t.high in
        part_made D l m a (e - a)
        (record {
          order = omega arith;
          within = omega arith;
          before = before;
          after = λ i b k. t.above i (omega arith) k;
          meets = λ i x y.
              ⊎_elim (λ (g : at ≤ i). (t.below i g (omega arith), omega (arith, s.above i g (omega arith), span_pos D (get_or l i 0))))
              (λ (g : i < at). (omega (arith, s.below i zero-le g, span_pos D m), reach i x g)) (le_or_lt at i);
        })
        (λ z i k. (λ x. s.below i zero-le (omega arith), λ x. ⊎_elim (λ (g : at ≤ i). absurd (omega (arith, s.above i g k))) (λ (g : i < at). omega arith) (le_or_lt at i)))

    pub part_from : reaches D l at (start D m) ≡ false → MetPart D l m at (e - at)
    part_from r =
        part_is at (le_refl at) (λ i h. omega (arith, ends_rise D l o i (at - 1) (omega arith) (omega (arith, s.high)), reaches_false D l at (start D m) r (omega arith)))
        (λ i x y. absurd (omega arith))

    -- a bigger leaf that starts before the cell is met too
    pub part_before : reaches D l at (start D m) ≡ true → MetPart D l m (at - 1) (e - (at - 1))
    part_before r =
        let (pos, far) = reaches_true D l at (start D m) r in
        part_is (at - 1) (omega arith) (λ i h. omega (arith, in_order D 0 l o i (at - 1) h (omega (arith, s.high)), s.below (at - 1) zero-le (omega arith)))
        (λ i x y. let same : at - 1 ≡ i = omega arith in rw (← same) far)
