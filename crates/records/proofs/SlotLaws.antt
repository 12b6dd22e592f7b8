-- Laws of slots: the leaves that meet a cell, and how they fall to its eight children. Assumes nothing.
use mathlib.Core.Path.{◌≡◌, refl, ap, ◌∙◌, subst}
use mathlib.Core.List.{List, [], ◌∷◌}
use mathlib.Core.Bool.{Bool, true, false}
use mathlib.Core.Logic.{⊎_elim}
use Prim.Native.Nat.{ℕ, zero, suc, ◌+◌, ◌-◌, ◌*◌, ◌/◌, ◌^◌, ◌<◌, ◌≤◌}
use native.Mathlib.Nat.{suc-mul, zero-mul}
use native.Mathlib.Omega.{arith}
use lib.Arith.{digits_div}
use lib.ListN.{length, get_or}
use Rattle.cells.specs.Cell.{proper, span, start, holds, end}
use Rattle.cells.proofs.Bools.{refuted, clash}
use Rattle.cells.proofs.Power.{le_or_lt, pow8_pos}
use Rattle.cells.proofs.Cells.{span_pos, within}
use Rattle.records.specs.Record.{black}
use Rattle.records.specs.Inner.{Starts}
use Rattle.records.proofs.Lists.{holds_between, before_cell, after_cell}
use Rattle.records.proofs.Leaves.{member_black, leaf_of}
use Rattle.records.proofs.Fault.{member_at, index_of, in_order}
use Rattle.records.proofs.Search.{proper_at}
use Rattle.records.proofs.Edges.{small_before, small_after, big_from, big_to, smaller, child_edge, inside, edge_next}
use Rattle.records.specs.Slot.{Source, Of, OfCell, SlotTint, tint_of, slot_at}
use Rattle.records.specs.declared.inner.slots.Tint.TheVariants.{Black, Mixed}
use Rattle.records.specs.declared.inner.slots.Slot.{Slot}

-- ---- lists

-- where no leaf holds a voxel it is white
pub black_none : (D : ℕ) (l : List ℕ) (v : ℕ) → ((i : ℕ) → i < length l → holds D (get_or l i 0) v ≡ false) → black D l v ≡ false
black_none D l v h =
    refuted (black D l v) (λ b. let (c, m, k) = leaf_of D l v b in let (i, g, e) = index_of c l m in clash (rw (← e) at k) (h i g))

-- where one does it is black
pub black_at : (D : ℕ) (l : List ℕ) (i v : ℕ) → i < length l → holds D (get_or l i 0) v ≡ true → black D l v ≡ true
black_at D l i v g h = member_black D (get_or l i 0) l v (member_at l i g) h

-- ---- what a slot says of its cell's voxels

module _ {D n b : ℕ} {l : List ℕ} {s : Slot} (x : Of D l n b s) where
  -- no leaf of the slot holds u: white
  pub slot_off : (u : ℕ) → b * 8 ^ n ≤ u → u < b * 8 ^ n + 8 ^ n → ((i : ℕ) → s.lo ≤ i → i < s.hi → holds D (get_or l i 0) u ≡ false) → black D l u ≡ false
  slot_off u v e h =
      black_none D l u
      (λ i g.
      ⊎_elim
      (λ (p : s.lo ≤ i).
      ⊎_elim
      (λ (q : s.hi ≤ i). before_cell D (get_or l i 0) u (omega (arith, x.leaves.after i q g)))
      (λ (q : i < s.hi). h i p q)
      (le_or_lt s.hi i))
      (λ (p : i < s.lo). after_cell D (get_or l i 0) u (omega (arith, x.leaves.before i p)))
      (le_or_lt s.lo i))

  -- the first leaf has all of the cell
  module _ (o : Source D l) (t : SlotTint D l (8 ^ n) s Black) where
    abbrev leaf : ℕ
    leaf = get_or l s.lo 0

    leaf_proper : proper D leaf ≡ true
    leaf_proper = proper_at D l o.ordered s.lo (omega (arith, t.0, x.leaves.within))

    covers : (start D leaf ≤ b * 8 ^ n) × (b * 8 ^ n + 8 ^ n ≤ end D leaf)
    covers =
        let met = x.leaves.meets s.lo (omega arith) t.0 in
        (big_from D leaf leaf_proper b n t.1 met.0, big_to D leaf leaf_proper b n t.1 met.1)

    -- it is the only one
    alone : (i : ℕ) → s.lo ≤ i → i < s.hi → s.lo ≡ i
    alone i p q =
        ⊎_elim
        (λ (g : i ≤ s.lo). omega arith)
        (λ (g : s.lo < i). absurd (omega (arith, in_order D 0 l o.ordered s.lo i g (omega (arith, x.leaves.within)), covers, x.leaves.meets i p q)))
        (le_or_lt i s.lo)

  -- the tint of one colour: all of the cell has it
  pub slot_colour : Source D l → (c : Bool) → SlotTint D l (8 ^ n) s (tint_of c) → (u : ℕ) → b * 8 ^ n ≤ u → u < b * 8 ^ n + 8 ^ n → black D l u ≡ c
  slot_colour o false t u v e = slot_off u v e (λ i p q. absurd (omega arith))
  slot_colour o true t u v e = black_at D l s.lo u (omega (arith, t.0, x.leaves.within)) (holds_between D (leaf o t) u (omega (arith, covers o t)) (omega (arith, covers o t)))

-- the whole list is the root's slot
pub whole_list : {D : ℕ} {l : List ℕ} → Source D l → Of D l D 0 (record { lo = 0; hi = length l })
whole_list {D} {l} o =
    let z = zero-mul (8 ^ D) in
    record {
      leaves = record {
        order = omega arith;
        within = omega arith;
        before = λ i h. absurd (omega arith);
        after = λ i h g. absurd (omega arith);
        meets = λ i h g. (omega (arith, within D (get_or l i 0) (proper_at D l o.ordered i g), span_pos D (get_or l i 0)), omega (arith, span_pos D (get_or l i 0)));
      };
    }

-- the slot of cell b, by that number
abbrev pub at_cell : {D n b : ℕ} {l : List ℕ} {s : Slot} → OfCell D l n s → Of D l n b s → OfCell D l n s
at_cell {D} {n} {b} x y = record { source = x.source; level = x.level; cell = b; part = y }

-- The first leaf is smaller than the cell: so are all, and they lie within it.
module _ {D n : ℕ} {l : List ℕ} {s : Slot} (x : OfCell D l n s) (mixed : SlotTint D l (8 ^ n) s Mixed) where
  pub slot_proper : (i : ℕ) → i < s.hi → proper D (get_or l i 0) ≡ true
  slot_proper i h = proper_at D l x.source.ordered i (omega (arith, x.part.leaves.within))

  pub slot_less : (i : ℕ) → s.lo ≤ i → i < s.hi → span D (get_or l i 0) < 8 ^ n
  slot_less i p q =
      ⊎_elim
      (λ (g : 8 ^ n ≤ span D (get_or l i 0)).
      ⊎_elim
      (λ (h : i ≤ s.lo). let e : i ≡ s.lo = omega arith in absurd (omega (arith, mixed.1, ap (λ (j : ℕ). span D (get_or l j 0)) e)))
      (λ (h : s.lo < i). absurd (omega (arith, in_order D 0 l x.source.ordered s.lo i h (omega (arith, x.part.leaves.within)), big_from D (get_or l i 0) (slot_proper i q) x.cell n g (x.part.leaves.meets i p q).0, (x.part.leaves.meets s.lo (omega arith) mixed.0).1)))
      (le_or_lt i s.lo))
      (λ (g : span D (get_or l i 0) < 8 ^ n). g)
      (le_or_lt (8 ^ n) (span D (get_or l i 0)))

  pub slot_low : (i : ℕ) → s.lo ≤ i → i < s.hi → x.cell * 8 ^ n ≤ start D (get_or l i 0)
  slot_low i p q = small_after D (get_or l i 0) (slot_proper i q) x.cell n (omega (arith, slot_less i p q)) (x.part.leaves.meets i p q).1

  pub slot_high : (i : ℕ) → s.lo ≤ i → i < s.hi → end D (get_or l i 0) ≤ x.cell * 8 ^ n + 8 ^ n
  slot_high i p q =
      let e = suc-mul x.cell (8 ^ n) in
      omega (arith, small_before D (get_or l i 0) (slot_proper i q) (suc x.cell) n (omega (arith, slot_less i p q)) (omega (arith, (x.part.leaves.meets i p q).0)))

  -- it has children
  pub slot_parent : 1 ≤ n
  slot_parent = ⊎_elim (λ (z : n ≤ 0). let e : n ≡ 0 = omega arith in absurd (omega (arith, mixed.1, span_pos D (get_or l s.lo 0), ap (λ (j : ℕ). 8 ^ j) e))) (λ h. h) (le_or_lt n 0)

  -- with j levels left under each
  pub slot_above : (j : ℕ) → suc j ≡ n → OfCell D l (suc j) s × SlotTint D l (8 ^ suc j) s Mixed
  slot_above j level = rw level (x, mixed)

  -- where the cell is, as the code finds it
  pub slot_cell : start D (get_or l s.lo 0) / 8 ^ n ≡ x.cell
  slot_cell =
      let low = slot_low s.lo (omega arith) mixed.0 in
      ap (λ (y : ℕ). y / 8 ^ n) (omega arith) ∙ digits_div x.cell {m = 8 ^ n} {r = start D (get_or l s.lo 0) - x.cell * 8 ^ n} (omega (arith, (x.part.leaves.meets s.lo (omega arith) mixed.0).0))

-- ---- the parts of a slot: one for each child

-- a slot without a leaf, or with one leaf that has all of the cell, is also each child's
module _ {D n b : ℕ} {l : List ℕ} {s : Slot} (x : Of D l (suc n) b s) (m : ℕ) (m<8 : m < 8) where
  whole : ((i : ℕ) → s.lo ≤ i → i < s.hi → (start D (get_or l i 0) ≤ b * 8 ^ suc n) × (b * 8 ^ suc n + 8 ^ suc n ≤ end D (get_or l i 0))) → Of D l n (8 * b + m) s
  whole h = record {
    leaves = record {
      order = x.leaves.order;
      within = x.leaves.within;
      before = λ i p. omega (arith, x.leaves.before i p, child_edge b m n);
      after = λ i p q. omega (arith, x.leaves.after i p q, child_edge b m n, inside m n m<8);
      meets = λ i p q. (omega (arith, h i p q, child_edge b m n, pow8_pos n), omega (arith, h i p q, child_edge b m n, inside m n m<8, pow8_pos n));
    };
  }

  pub slot_whole : Source D l → (c : Bool) → SlotTint D l (8 ^ suc n) s (tint_of c) → Of D l n (8 * b + m) s
  slot_whole o false t = whole (λ i p q. absurd (omega arith))
  slot_whole o true t =
      whole
      (λ i p q. subst (λ (j : ℕ). (start D (get_or l j 0) ≤ b * 8 ^ suc n) × (b * 8 ^ suc n + 8 ^ suc n ≤ end D (get_or l j 0))) (alone x o t i p q) (covers x o t))

-- the cut before child m: the leaves of the part that start before it are those before place i
pub record Cut (D : ℕ) (l : List ℕ) (b n lo hi m i : ℕ) : Type 0 where
  pub low : lo ≤ i
  pub high : i ≤ hi
  pub below : (j : ℕ) → lo ≤ j → j < i → start D (get_or l j 0) < (8 * b + m) * 8 ^ n
  pub above : (j : ℕ) → i ≤ j → j < hi → (8 * b + m) * 8 ^ n ≤ start D (get_or l j 0)

module _ {D n : ℕ} {l : List ℕ} {s : Slot} (x : OfCell D l (suc n) s) (mixed : SlotTint D l (8 ^ suc n) s Mixed) where
  abbrev b : ℕ
  b = x.cell

  -- smaller than a cell, they are no bigger than its children
  small : (i : ℕ) → s.lo ≤ i → i < s.hi → span D (get_or l i 0) ≤ 8 ^ n
  small i p q = smaller D (get_or l i 0) (slot_proper x mixed i q) n (slot_less x mixed i p q)

  pub cut_none : Cut D l b n s.lo s.hi 0 s.lo
  cut_none = record {
    low = omega arith;
    high = x.part.leaves.order;
    below = λ j p q. absurd (omega arith);
    above = λ j p q. omega (arith, child_edge b 0 n, slot_low x mixed j p q);
  }

  module _ {m i e : ℕ} (k : Cut D l b n s.lo s.hi m i) (f : Starts D l ((8 * b + suc m) * 8 ^ n) i s.hi e) where
    pub cut_next : Cut D l b n s.lo s.hi (suc m) e
    cut_next = record {
      low = omega (arith, k.low, f.low);
      high = f.high;
      below = λ j p q. ⊎_elim (λ (g : i ≤ j). f.below j g q) (λ (g : j < i). omega (arith, k.below j p g, edge_next b m n)) (le_or_lt i j);
      above = f.above;
    }

    pub cut_part : m < 8 → Of D l n (8 * b + m) (record { lo = i; hi = e })
    cut_part h = record {
      leaves = record {
        order = f.low;
        within = omega (arith, f.high, x.part.leaves.within);
        before = λ j p.
            ⊎_elim
            (λ (g : s.lo ≤ j). let in-slot : j < s.hi = omega (arith, k.high) in small_before D (get_or l j 0) (slot_proper x mixed j in-slot) (8 * b + m) n (small j g in-slot) (k.below j g p))
            (λ (g : j < s.lo). omega (arith, x.part.leaves.before j g, child_edge b m n))
            (le_or_lt s.lo j);
        after = λ j p q.
            ⊎_elim
            (λ (g : s.hi ≤ j). omega (arith, x.part.leaves.after j g q, child_edge b m n, inside m n h))
            (λ (g : j < s.hi). omega (arith, f.above j p g, edge_next b m n))
            (le_or_lt s.hi j);
        meets = λ j p q. (omega (arith, f.below j p q, edge_next b m n), omega (arith, k.above j p (omega (arith, f.high)), span_pos D (get_or l j 0)));
      };
    }

-- ---- a slot that is repeated

abbrev pub eight_of : Slot → List Slot
eight_of s = s ∷ s ∷ s ∷ s ∷ s ∷ s ∷ s ∷ s ∷ []

pub each_of_eight : (s : Slot) (m : ℕ) → m < 8 → slot_at (eight_of s) m ≡ s
each_of_eight s zero h = refl
each_of_eight s (suc zero) h = refl
each_of_eight s (suc (suc zero)) h = refl
each_of_eight s (suc (suc (suc zero))) h = refl
each_of_eight s (suc (suc (suc (suc zero)))) h = refl
each_of_eight s (suc (suc (suc (suc (suc zero))))) h = refl
each_of_eight s (suc (suc (suc (suc (suc (suc zero)))))) h = refl
each_of_eight s (suc (suc (suc (suc (suc (suc (suc zero))))))) h = refl
each_of_eight s (suc (suc (suc (suc (suc (suc (suc (suc m)))))))) h = absurd (omega arith)
