-- A white voxel between two leaves of a list: the leaf before it and the leaf after it bound its white cell. Assumes nothing.
use mathlib.Core.Path.{◌≡◌, sym, ◌∙◌}
use mathlib.Core.Bool.{true, not}
use mathlib.Core.Logic.{◌⊎◌, inl, inr, ⊎_elim}
use mathlib.Core.List.{List}
use Prim.Native.Nat.{ℕ, ◌-◌, ◌/◌, ◌^◌, ◌≤◌, ◌<◌, zero-le}
use native.Mathlib.Nat.{le_refl, div-eq_of_lt}
use native.Mathlib.Omega.{arith}
use lib.ListN.{length, get_or}
use Rattle.cells.specs.Cell.{start, end}
use Rattle.cells.specs.Inner.{PartAt}
use Rattle.cells.proofs.Bools.{clash}
use Rattle.cells.proofs.Cells.{span_pos}
use Rattle.cells.proofs.Parting.{alike_above, quotient_rises}
use Rattle.cells.proofs.Power.{le_or_lt, pow8_pos, pow8_mono}
use Rattle.records.specs.Record.{black}
use Rattle.records.specs.Lookups.{Largest}
use Rattle.records.specs.Gap.{Gap, Free}
use Rattle.records.proofs.Lists.{holds_true, holds_between, black_in_root}
use Rattle.records.proofs.Leaves.{leaf_of}
use Rattle.records.proofs.Fault.{index_of}
use Rattle.records.proofs.Part.{starts_rise, ends_rise}
use Rattle.records.proofs.Sizes.{free_largest}
use Rattle.records.proofs.SlotLaws.{black_at}

-- ---- cells free of a set Q of voxels

module _ {D v : ℕ} {Q : ℕ → Type 0} where
  -- of an empty set the root is
  pub free_root : ((u : ℕ) → Q u → ⊥) → Free D v D Q
  free_root none = record { levels = le_refl D; none = λ u e. none u; some = λ h. absurd (omega arith) }

  -- Q has w, and all of Q lies on w's side of v and no nearer: the cell is the largest that does not hold w
  pub free_nearest : (w n : ℕ) → v < 8 ^ D → w < 8 ^ D → PartAt v w n → Q w → ((u : ℕ) → Q u → ((u ≤ w) × (w ≤ v)) ⊎ ((v ≤ w) × (w ≤ u))) → Free D v n Q
  free_nearest w n in-v in-w part here beyond = record {
    levels = ⊎_elim (λ (h : n ≤ D). h) (λ (h : D < n). absurd (part.apart (nothing v n in-v (omega arith) ∙ sym (nothing w n in-w (omega arith))))) (le_or_lt n D);
    none = λ u e q. part.apart (between u e (beyond u q));
    some = λ _. (w, sym part.together, here);
  }
    where
      nothing : (u m : ℕ) → u < 8 ^ D → D ≤ m → u / 8 ^ m ≡ 0
      nothing u m h k = div-eq_of_lt (omega (arith, pow8_mono k))

      between : (u : ℕ) → u / 8 ^ n ≡ v / 8 ^ n → ((u ≤ w) × (w ≤ v)) ⊎ ((v ≤ w) × (w ≤ u)) → v / 8 ^ n ≡ w / 8 ^ n
      between u e (inl (a, b)) = omega (arith, e, quotient_rises (pow8_pos n) a, quotient_rises (pow8_pos n) b)
      between u e (inr (a, b)) = omega (arith, e, quotient_rises (pow8_pos n) a, quotient_rises (pow8_pos n) b)

-- the smaller of two cells, each free of a part of S
pub free_both : {D v m n : ℕ} {Q R : ℕ → Type 0} (S : ℕ → Type 0) → Free D v m Q → Free D v n R → m ≤ n → ((u : ℕ) → Q u → S u) → ((u : ℕ) → S u → Q u ⊎ R u) → Free D v m S
free_both {D} {v} {m} {n} {Q} {R} S x y h to parts = record {
  levels = x.levels;
  none = λ u e s. ⊎_elim (λ q. x.none u e q) (λ r. y.none u (alike_above u v h e) r) (parts u s);
  some = λ k. let (u, e, q) = x.some k in (u, e, to u q);
}

-- ---- the leaves on both sides

module _ {D v at : ℕ} {l : List ℕ} (g : Gap D l v at) where
  abbrev leaf : ℕ → ℕ
  leaf i = get_or l i 0

  -- black, and before v or after it
  abbrev pub Behind : ℕ → Type 0
  Behind u = (black D l u ≡ true) × (u < v)

  abbrev pub Ahead : ℕ → Type 0
  Ahead u = (black D l u ≡ true) × (v < u)

  -- no leaf holds v
  not_held : (i : ℕ) → i < length l → start D (leaf i) ≤ v → v < end D (leaf i) → ⊥
  not_held i h from to = clash (black_at D l i v h (holds_between D (leaf i) v from to)) g.white

  -- a black voxel has a leaf, before the place or from it on
  leaf_at : (u : ℕ) → black D l u ≡ true → (i : ℕ) × (i < length l) × (start D (leaf i) ≤ u) × (u < end D (leaf i))
  leaf_at u dark =
      let (c, m, h) = leaf_of D l u dark in
      let (i, k, e) = index_of c l m in
      let (from, to) = holds_true D c u h in
      (i, k, rw e from, rw e to)

  behind_at : (u : ℕ) → Behind u → (i : ℕ) × (i < at) × (u < end D (leaf i))
  behind_at u (dark, before) =
      let (i, k, from, to) = leaf_at u dark in
      (i, ⊎_elim (λ (h : at ≤ i). absurd (omega (arith, g.starts.above i h k))) (λ (h : i < at). h) (le_or_lt at i), to)

  ahead_at : (u : ℕ) → Ahead u → (i : ℕ) × (at ≤ i) × (i < length l) × (start D (leaf i) ≤ u)
  ahead_at u (dark, after) =
      let (i, k, from, to) = leaf_at u dark in
      (i, ⊎_elim (λ (h : at ≤ i). h) (λ (h : i < at). absurd (not_held i k (omega (arith, g.starts.below i zero-le h)) (omega arith))) (le_or_lt at i), k, from)

  pub behind_none : at ≡ 0 → Free D v D Behind
  behind_none z = free_root (λ u q. let (i, h, _) = behind_at u q in omega arith)

  pub ahead_none : length l ≤ at → Free D v D Ahead
  ahead_none z = free_root (λ u q. let (i, h, k, _) = ahead_at u q in omega arith)

  -- the last voxel of the leaf before
  module _ (some : 0 < at) where
    abbrev last : ℕ
    last = end D (leaf (at - 1)) - 1

    pub leaf_before : at - 1 < length l
    leaf_before = omega (arith, g.starts.high)

    pub last_before : (0 < end D (leaf (at - 1))) × (last < v)
    last_before =
        let from = g.starts.below (at - 1) zero-le (omega arith) in
        let pos = span_pos D (leaf (at - 1)) in
        ⊎_elim (λ (h : end D (leaf (at - 1)) ≤ v). (omega arith, omega arith)) (λ (h : v < end D (leaf (at - 1))). absurd (not_held (at - 1) leaf_before (omega arith) h)) (le_or_lt (end D (leaf (at - 1))) v)

    last_black : black D l last ≡ true
    last_black = let pos = span_pos D (leaf (at - 1)) in black_at D l (at - 1) last leaf_before (holds_between D (leaf (at - 1)) last (omega arith) (omega arith))

    pub behind_free : (n : ℕ) → PartAt v last n → Free D v n Behind
    behind_free n part =
        free_nearest last n g.root (omega (arith, g.root, last_before)) part (last_black, last_before.1)
        (λ u q. let (i, h, to) = behind_at u q in inl (omega (arith, ends_rise D l g.source.ordered i (at - 1) (omega arith) leaf_before), omega (arith, last_before)))

  -- the first voxel of the leaf after
  module _ (some : at < length l) where
    pub first_after : v < start D (leaf at)
    first_after = omega (arith, g.starts.above at (le_refl at) some)

    first_black : black D l (start D (leaf at)) ≡ true
    first_black = black_at D l at (start D (leaf at)) some (holds_between D (leaf at) (start D (leaf at)) (le_refl _) (omega (arith, span_pos D (leaf at))))

    pub ahead_free : (n : ℕ) → PartAt v (start D (leaf at)) n → Free D v n Ahead
    ahead_free n part =
        free_nearest (start D (leaf at)) n g.root (black_in_root D 0 l g.source.ordered _ first_black) part (first_black, first_after)
        (λ u q. let (i, h, k, from) = ahead_at u q in inr (omega (arith, first_after), omega (arith, starts_rise D l g.source.ordered at i h k)))

  -- ---- both together: the larger of the two levels

  abbrev Dark : ℕ → Type 0
  Dark u = black D l u ≡ not (black D l v)

  dark : (u : ℕ) → black D l u ≡ true → Dark u
  dark u e = rw g.white e

  sides : (u : ℕ) → Dark u → Behind u ⊎ Ahead u
  sides u d =
      let e : black D l u ≡ true = rw g.white at d in
      ⊎_elim (λ (h : u ≤ v). inl (e, not_v e h)) (λ (h : v < u). inr (e, h)) (le_or_lt u v)
    where
      not_v : black D l u ≡ true → u ≤ v → u < v
      not_v e h = ⊎_elim (λ (k : v ≤ u). let same : u ≡ v = omega arith in absurd (clash (rw same at e) g.white)) (λ (k : u < v). k) (le_or_lt v u)

  module _ (m n : ℕ) (x : Free D v m Behind) (y : Free D v n Ahead) where
    pub by_behind : m ≤ n → Largest D (black D l) v (D - m)
    by_behind h = free_largest D (black D l) v m g.root (free_both Dark x y h (λ u (e, _). dark u e) sides)

    pub by_ahead : n ≤ m → Largest D (black D l) v (D - n)
    by_ahead h = free_largest D (black D l) v n g.root (free_both Dark y x h (λ u (e, _). dark u e) (λ u d. ⊎_elim (λ q. inr q) (λ r. inl r) (sides u d)))
