-- The leaves of an ordered list that meet a cell stand together, and the part of them is known by its leaves and, if it has none, by its place. Assumes nothing.
use mathlib.Core.Path.{◌≡◌}
use mathlib.Core.Logic.{◌⊎◌, inl, inr, ◌↔◌, ⊎_elim}
use mathlib.Core.List.{List}
use Prim.Native.Nat.{ℕ, ◌+◌, ◌-◌, ◌≤◌, ◌<◌, max}
use native.Mathlib.Nat.{le_refl, le_antisymm, eq-or-lt_of_le}
use native.Mathlib.Omega.{arith}
use lib.ListN.{length, get_or}
use Rattle.cells.specs.Cell.{start, end}
use Rattle.records.specs.Record.{Ordered}
use Rattle.records.specs.Met.{Meets, MetPart}
use Rattle.records.specs.Slot.{PartOf}
use Rattle.cells.proofs.Power.{le_or_lt}
use Rattle.cells.proofs.Cells.{span_pos}
use Rattle.records.proofs.Lists.{holds_true, holds_between}
use Rattle.records.proofs.Fault.{in_order}

-- two cells meet just where neither ends before the other begins
pub meets_iff : (D c m : ℕ) → Meets D c m ↔ ((start D c < end D m) × (start D m < end D c))
meets_iff D c m = (to, back)
  where
    to : Meets D c m → (start D c < end D m) × (start D m < end D c)
    to (v, h, k) = let a = holds_true D c v h in let b = holds_true D m v k in omega arith

    back : (start D c < end D m) × (start D m < end D c) → Meets D c m
    back (h, k) =
        let a = span_pos D c in
        let b = span_pos D m in
        (max (start D c) (start D m), holds_between D c _ (omega arith) (omega arith), holds_between D m _ (omega arith) (omega arith))

-- in an ordered list the starts and the ends rise
module _ (D : ℕ) (l : List ℕ) (o : Ordered D 0 l) (i j : ℕ) (h : i ≤ j) (k : j < length l) where
  rises : (start D (get_or l i 0) ≤ start D (get_or l j 0)) × (end D (get_or l i 0) ≤ end D (get_or l j 0))
  rises =
      ⊎_elim (λ (e : i ≡ j). rw e (le_refl _, le_refl _)) (λ (x : i < j). omega (arith, in_order D 0 l o i j x k, span_pos D (get_or l i 0), span_pos D (get_or l j 0)))
      (eq-or-lt_of_le h)

  pub starts_rise : start D (get_or l i 0) ≤ start D (get_or l j 0)
  starts_rise = rises.0

  pub ends_rise : end D (get_or l i 0) ≤ end D (get_or l j 0)
  ends_rise = rises.1

-- so a leaf between two leaves that meet a cell meets it too
pub meets_between : (D : ℕ) (l : List ℕ) → Ordered D 0 l → (m i j k : ℕ) → i ≤ j → j ≤ k → k < length l → Meets D (get_or l i 0) m → Meets D (get_or l k 0) m → Meets D (get_or l j 0) m
meets_between D l o m i j k a b h p q =
    let (x, y) = (meets_iff D (get_or l i 0) m).0 p in
    let (z, w) = (meets_iff D (get_or l k 0) m).0 q in
    (meets_iff D (get_or l j 0) m).1 (omega (arith, starts_rise D l o j k b h), omega (arith, ends_rise D l o i j a (omega arith)))

-- ---- the part of the leaves that meet a cell

-- where it has none, its place is to be known besides
pub part_made : (D : ℕ) (l : List ℕ) (m at n : ℕ) → PartOf D l (start D m) (end D m) at (at + n)
    → (n ≡ 0 → (i : ℕ) → i < length l → (i < at) ↔ (start D (get_or l i 0) < start D m)) → MetPart D l m at n
part_made D l m at n p ins = record { within = p.within; met = λ i h. (λ t. (meets_iff D (get_or l i 0) m).1 (p.meets i t.0 t.1), λ t. back i h ((meets_iff D (get_or l i 0) m).0 t) (le_or_lt at i) (le_or_lt (at + n) i)); inserted = ins }
  where
    back : (i : ℕ) → i < length l → (start D (get_or l i 0) < end D m) × (start D m < end D (get_or l i 0)) → (at ≤ i) ⊎ (i < at) → (at + n ≤ i) ⊎ (i < at + n) → (at ≤ i) × (i < at + n)
    back i h t (inl a) (inr b) = (a, b)
    back i h t (inr a) b = absurd (omega (arith, p.before i a))
    back i h t (inl a) (inl b) = absurd (omega (arith, p.after i b h))

-- ---- there is only one

module _ (D : ℕ) (l : List ℕ) (m at n at' n' : ℕ) (p : MetPart D l m at n) (q : MetPart D l m at' n') where
  -- each index of the one is one of the other
  within_other : (i : ℕ) → at ≤ i → i < at + n → (at' ≤ i) × (i < at' + n')
  within_other i a b = let h : i < length l = omega (arith, p.within) in (q.met i h).1 ((p.met i h).0 (a, b))

  -- where the one has none, the other begins no later
  no_later : n ≡ 0 → n' ≡ 0 → at ≤ at'
  no_later z z' =
      ⊎_elim (λ h. h) (λ (h : at' < at). let k : at' < length l = omega (arith, p.within) in let x = (q.inserted z' at' k).1 ((p.inserted z at' k).0 h) in absurd (omega arith))
      (le_or_lt at at')

pub one_part : (D : ℕ) (l : List ℕ) (m at n at' n' : ℕ) → MetPart D l m at n → MetPart D l m at' n' → (at ≡ at') × (n ≡ n')
one_part D l m at n at' n' p q = go (le_or_lt n 0) (le_or_lt n' 0)
  where
    go : (n ≤ 0) ⊎ (0 < n) → (n' ≤ 0) ⊎ (0 < n') → (at ≡ at') × (n ≡ n')
    go (inl z) (inl w) = (le_antisymm (no_later D l m at n at' n' p q (omega arith) (omega arith)) (no_later D l m at' n' at n q p (omega arith) (omega arith)), omega arith)
    go (inl z) (inr w) = let t = within_other D l m at' n' at n q p at' (le_refl at') (omega arith) in absurd (omega arith)
    go (inr z) (inl w) = let t = within_other D l m at n at' n' p q at (le_refl at) (omega arith) in absurd (omega arith)
    go (inr z) (inr w) =
        let a = within_other D l m at n at' n' p q at (le_refl at) (omega arith) in
        let b = within_other D l m at' n' at n q p at' (le_refl at') (omega arith) in
        let c = within_other D l m at n at' n' p q (at + n - 1) (omega arith) (omega arith) in
        let d = within_other D l m at' n' at n q p (at' + n' - 1) (omega arith) (omega arith) in
        (omega arith, omega arith)
