-- A list is good just where no index has a fault. Assumes nothing.
use mathlib.Core.Path.{◌≡◌, refl, sym, ap, ◌∙◌}
use mathlib.Core.Bool.{Bool, true, false, ◌&&◌, true≢false, and-false}
use mathlib.Core.Logic.{◌⊎◌, inl, inr, ⊎_elim}
use mathlib.Core.List.Memᴰ
use mathlib.Core.List.{List, [], ◌∷◌, Memᴰ}
use Prim.Native.Nat.{ℕ, zero, suc, ◌+◌, ◌-◌, ◌*◌, ◌/◌, ◌%◌, ◌≤◌, ◌<◌, zero-le, suc-le-suc}
use native.Mathlib.Nat.{le_refl, le_of_suc-le-suc, not-suc-le-zero, eq-or-lt_of_le}
use native.Mathlib.Omega.{arith}
use lib.Dec.{leb, ltb, eqb}
use lib.ListN.{length, get_or}
use borrow.Author.Tests.{ltb-false, le-leb, lt-leb, le-ltb, eqb-true, eq-eqb}
use Rattle.cells.specs.Cell.{level, proper, start, span, end}
use Rattle.records.specs.Record.{Ordered, Condensed, Good}
use Rattle.records.specs.Fault.{all_from, early, eight_at, fault}
use Rattle.cells.proofs.Power.{le_or_lt, pow8_pos}
use Rattle.cells.proofs.Bools.{both_true, refuted}
use Rattle.cells.proofs.Cells.{proper_bounds, span_pos, child, parent}
use Rattle.records.proofs.Fill.{all_true}
use Rattle.records.proofs.Leaves.{member}

-- ---- a list by its indices

-- its element at i is a member, and a member stands at some index
pub member_at : (l : List ℕ) (i : ℕ) → i < length l → Memᴰ (get_or l i 0) l
member_at [] i h = absurd (not-suc-le-zero h)
member_at (c ∷ l) zero h = Memᴰ.head refl
member_at (c ∷ l) (suc i) h = Memᴰ.tail (member_at l i (le_of_suc-le-suc h))

pub index_of : (c : ℕ) (l : List ℕ) → Memᴰ c l → (i : ℕ) × (i < length l) × (get_or l i 0 ≡ c)
index_of c [] x' = elim x' [ ]
index_of c (x ∷ l) (Memᴰ.head e) = (0, suc-le-suc zero-le, sym e)
index_of c (x ∷ l) (Memᴰ.tail m) = let (i, h, e) = index_of c l m in (suc i, suc-le-suc h, e)

ordered_of : (D from : ℕ) (l : List ℕ) → ((i : ℕ) → i < length l → proper D (get_or l i 0) ≡ true) → (0 < length l → from ≤ start D (get_or l 0 0))
    → ((i : ℕ) → suc i < length l → end D (get_or l i 0) ≤ start D (get_or l (suc i) 0)) → Ordered D from l
unfolding Ordered
ordered_of D from [] p f s = tt
ordered_of D from (c ∷ l) p f s =
    (p 0 (omega arith), f (omega arith), ordered_of D (end D c) l (λ i h. p (suc i) (suc-le-suc h)) (λ h. s 0 (suc-le-suc h)) (λ i h. s (suc i) (suc-le-suc h)))

-- an earlier leaf ends before a later one starts
pub in_order : (D from : ℕ) (l : List ℕ) → Ordered D from l → (i j : ℕ) → i < j → j < length l → end D (get_or l i 0) ≤ start D (get_or l j 0)
unfolding Ordered
in_order D from [] o i j h k = absurd (not-suc-le-zero k)
in_order D from (c ∷ l) (p, f, o) i zero h k = absurd (not-suc-le-zero h)
in_order D from (c ∷ l) (p, f, o) zero (suc j) h k = (member D (end D c) l _ o (member_at l j (le_of_suc-le-suc k))).1
in_order D from (c ∷ l) (p, f, o) (suc i) (suc j) h k = in_order D (end D c) l o i j (le_of_suc-le-suc h) (le_of_suc-le-suc k)

-- a leaf that ends where another starts stands right before it
next_to : (D from : ℕ) (l : List ℕ) → Ordered D from l → (a b : ℕ) → a < length l → b < length l → end D (get_or l a 0) ≡ start D (get_or l b 0) → suc a ≡ b
next_to D from l o a b ha hb e = go (le_or_lt b a) (le_or_lt (suc (suc a)) b)
  where
    go : (b ≤ a) ⊎ (a < b) → (suc (suc a) ≤ b) ⊎ (b < suc (suc a)) → suc a ≡ b
    go (inl h) k =
        let u = span_pos D (get_or l a 0) in
        absurd
        (⊎_elim (λ (z : b ≡ a). omega (arith, ap (λ (n : ℕ). start D (get_or l n 0)) z)) (λ (z : b < a). omega (arith, in_order D from l o b a z ha, span_pos D (get_or l b 0))) (eq-or-lt_of_le h))
    go (inr h) (inl k) =
        absurd (omega (arith, in_order D from l o a (suc a) (le_refl _) (omega arith), in_order D from l o (suc a) b k hb, span_pos D (get_or l (suc a) 0)))
    go (inr h) (inr k) = omega arith

-- ---- eight siblings

pub all_made : (P : ℕ → Bool) (s n : ℕ) → ((v : ℕ) → s ≤ v → v < s + n → P v ≡ true) → all_from P s n ≡ true
unfolding all_from
all_made P s zero h = refl
all_made P s (suc n) h = rw (h (s + n) (omega arith) (omega arith), all_made P s n (λ v lo hi. h v lo (omega arith)))

-- what the test says
pub eight_true : (l : List ℕ) (a : ℕ) → eight_at l a ≡ true → (j : ℕ) → j < 8 → get_or l (a + j) 0 ≡ 8 * (get_or l a 0 / 8) + j
unfolding eight_at
eight_true l a e j h =
    let (m, r) = both_true (eqb (get_or l a 0 % 8) 0) (all_from (λ k. eqb (get_or l (a + k) 0) (get_or l a 0 + k)) 0 8) e in
    omega (arith, eqb-true (get_or l a 0 % 8) 0 m, eqb-true (get_or l (a + j) 0) (get_or l a 0 + j) (all_true (λ k. eqb (get_or l (a + k) 0) (get_or l a 0 + k)) 0 8 r j zero-le (omega arith)))

pub eight_made : (l : List ℕ) (a p : ℕ) → ((j : ℕ) → j < 8 → get_or l (a + j) 0 ≡ 8 * p + j) → eight_at l a ≡ true
unfolding eight_at
eight_made l a p h =
    let z : get_or l a 0 ≡ 8 * p = ap (λ (x : ℕ). get_or l x 0) (omega arith) ∙ h 0 (omega arith) ∙ omega arith in
    rw (eq-eqb (get_or l a 0 % 8) 0 (omega arith), all_made (λ k. eqb (get_or l (a + k) 0) (get_or l a 0 + k)) 0 8 (λ k lo hi. eq-eqb (get_or l (a + k) 0) (get_or l a 0 + k) (omega (arith, h k (omega arith)))))

-- in a condensed list the test fails wherever eight codes stand
none_eight : (l : List ℕ) (a : ℕ) → Condensed l → a + 7 < length l → eight_at l a ≡ false
unfolding Condensed
none_eight l a con h =
    refuted (eight_at l a) (λ e. con (get_or l a 0 / 8) (λ j k. Memᴰ.cast (sym (eight_true l a e j k)) (member_at l (a + j) (omega arith))))

-- In an ordered list the eight children of one cell stand side by side: the next child's place is the next.
module _ (D from : ℕ) (l : List ℕ) (o : Ordered D from l) (p : ℕ) (all : (k : ℕ) → k < 8 → Memᴰ (8 * p + k) l) where
  -- p is a proper cell, and no voxel
  is_parent : (proper D p ≡ true) × (level D p < D)
  is_parent =
      let q = (member D from l (8 * p + 0) o (all 0 (omega arith))).0 in
      let b = proper_bounds D (8 * p + 0) q in
      parent D p 0 (omega arith) (omega (arith, pow8_pos (level D (8 * p + 0)))) q

  -- two neighbours among the children
  neighbour : (j : ℕ) → suc j < 8 → start D (8 * p + suc j) ≡ end D (8 * p + j)
  neighbour j h =
      let (q, a) = is_parent in
      let x = child D p j q a (omega arith) in
      let y = child D p (suc j) q a h in
      let w : span D (8 * p + suc j) ≡ span D (8 * p + j) = omega (arith, x.is_span, y.is_span) in
      y.is_start ∙ ap (λ (u : ℕ). start D p + suc j * u) w ∙ omega (arith, x.is_start)

  side_by_side : (a : ℕ) → a < length l → get_or l a 0 ≡ 8 * p + 0 → (j : ℕ) → j < 8 → (a + j < length l) × (get_or l (a + j) 0 ≡ 8 * p + j)
  side_by_side a h e zero k = (omega arith, ap (λ (x : ℕ). get_or l x 0) (omega arith) ∙ e)
  side_by_side a h e (suc j) k =
      let (i, b, f) = index_of (8 * p + suc j) l (all (suc j) k) in
      let (b', f') = side_by_side a h e j (omega arith) in
      let next : suc (a + j) ≡ i = next_to D from l o (a + j) i b' b (rw (f, f') (sym (neighbour j k))) in
      (omega arith, ap (λ (x : ℕ). get_or l x 0) (omega arith) ∙ f)

-- so where the test fails at each index, the list is condensed
condensed_of : (D from : ℕ) (l : List ℕ) → Ordered D from l → ((a : ℕ) → a + 7 < length l → eight_at l a ≡ false) → Condensed l
unfolding Condensed
condensed_of D from l o h p all =
    let (a, b, e) = index_of (8 * p + 0) l (all 0 (omega arith)) in
    let side = side_by_side D from l o p all a b e in
    true≢false (sym (eight_made l a p (λ j k. (side j k).1)) ∙ h a (side 7 (omega arith)).0)

-- ---- the faults

-- the number of the first test that fails: whether the code is proper, whether the leaf is early, whether it completes eight siblings; 0 where none does
abbrev pub fault_of : Bool → Bool → Bool → ℕ
fault_of false e s = 2
fault_of true true s = 3
fault_of true false true = 4
fault_of true false false = 0

zero_fault : (x y z : Bool) → fault_of x y z ≡ 0 → (x ≡ true) × (y ≡ false) × (z ≡ false)
zero_fault false y z e = absurd (omega arith)
zero_fault true true z e = absurd (omega arith)
zero_fault true false true e = absurd (omega arith)
zero_fault true false false e = (refl, refl, refl)

-- it is the fault's
pub fault_table : (D : ℕ) (l : List ℕ) (i : ℕ) → fault D l i ≡ fault_of (proper D (get_or l i 0)) (early D l i) (leb 7 i && eight_at l (i - 7))
unfolding fault
fault_table D l i = table (proper D (get_or l i 0)) (early D l i) (leb 7 i && eight_at l (i - 7))
  where
    table : (p e s : Bool) → elim p [ false ↦ 2 | true ↦ elim e [ true ↦ 3 | false ↦ elim s [ true ↦ 4 | false ↦ 0 ] ] ] ≡ fault_of p e s
    table false e s = refl
    table true true s = refl
    table true false true = refl
    table true false false = refl

-- what an index without a fault says
pub no_fault : (D : ℕ) (l : List ℕ) (i : ℕ) → fault D l i ≡ 0 → (proper D (get_or l i 0) ≡ true) × (early D l i ≡ false) × ((leb 7 i && eight_at l (i - 7)) ≡ false)
no_fault D l i e = zero_fault _ _ _ (sym (fault_table D l i) ∙ e)

-- the test for order at an index after the first
pub not_early : (D : ℕ) (l : List ℕ) (i : ℕ) → early D l (suc i) ≡ ltb (start D (get_or l (suc i) 0)) (end D (get_or l i 0))
unfolding early
not_early D l i = let back : suc i - 1 ≡ i = omega arith in rw (le-leb 1 (suc i) (omega arith), back)

pub faultless_good : (D : ℕ) (l : List ℕ) → ((i : ℕ) → i < length l → fault D l i ≡ 0) → Good D l
faultless_good D l h = record { ordered = order; condensed = condensed_of D 0 l order eight }
  where
    later : (i : ℕ) → suc i < length l → end D (get_or l i 0) ≤ start D (get_or l (suc i) 0)
    later i k =
        ltb-false (start D (get_or l (suc i) 0)) (end D (get_or l i 0)) (sym (not_early D l i) ∙ (no_fault D l (suc i) (h (suc i) k)).1)

    order : Ordered D 0 l
    order = ordered_of D 0 l (λ i k. (no_fault D l i (h i k)).0) (λ k. zero-le) later

    eight : (a : ℕ) → a + 7 < length l → eight_at l a ≡ false
    eight a k =
        let t = (no_fault D l (a + 7) (h (a + 7) k)).2 in
        let back : a + 7 - 7 ≡ a = omega arith in
        rw (le-leb 7 (a + 7) (omega arith), back) at t

pub good_faultless : (D : ℕ) (l : List ℕ) → Good D l → (i : ℕ) → i < length l → fault D l i ≡ 0
unfolding early
good_faultless D l g i h = rw (fault_table D l i, (member D 0 l (get_or l i 0) g.ordered (member_at l i h)).0, turn i h, eight i h)
  where
    turn : (i : ℕ) → i < length l → early D l i ≡ false
    turn zero h = refl
    turn (suc i) h = not_early D l i ∙ le-ltb _ _ (in_order D 0 l g.ordered i (suc i) (le_refl (suc i)) h)

    eight : (i : ℕ) → i < length l → (leb 7 i && eight_at l (i - 7)) ≡ false
    eight i h = go (le_or_lt 7 i)
      where
        go : (7 ≤ i) ⊎ (i < 7) → (leb 7 i && eight_at l (i - 7)) ≡ false
        go (inl k) = rw (none_eight l (i - 7) g.condensed (omega arith)) (and-false (leb 7 i))
        go (inr k) = rw (lt-leb 7 i k)
