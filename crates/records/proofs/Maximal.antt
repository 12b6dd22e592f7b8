-- The leaves of a good list are as big as its voxels allow: a cell whose voxels are all black lies in one leaf. From this, two good lists with the same black
-- voxels have the same leaves, and are one list. Assumes nothing.
use mathlib.Core.Path.{◌≡◌, refl, sym, ap, ap₂, ◌∙◌, subst}
use mathlib.Core.Bool.{true}
use mathlib.Core.Logic.{◌⊎◌, inl, inr, ⊎_elim}
use mathlib.Core.List.Memᴰ
use mathlib.Core.List.{List, [], ◌∷◌, Memᴰ}
use Prim.Native.Nat.{ℕ, zero, suc, ◌+◌, ◌-◌, ◌*◌, ◌^◌, ◌≤◌, ◌<◌}
use native.Mathlib.Nat.{le_refl, le_of_suc-le-suc, eq-or-lt_of_le}
use native.Mathlib.Omega.{arith}
use Rattle.cells.specs.Cell.{level, proper, start, span, end, holds}
use Rattle.records.specs.Record.{black, Ordered, Condensed, Good}
use Rattle.cells.proofs.Power.{le_or_lt, pow8_suc, pow8_lt_inv, pow8_le_inv}
use Rattle.cells.proofs.Cells.{cell, same_cell, span_pos, child, Inside, child_inside, has_children, Apart, nested}
use Rattle.records.proofs.Lists.{AllBlack, holds_true, holds_between, black_beyond}
use Rattle.records.proofs.Leaves.{member, member_black, leaf_of, one_leaf}

-- ---- cells

-- a cell that shares a voxel with one that is no smaller lies in it
shares_inside : (D c d v : ℕ) → proper D c ≡ true → proper D d ≡ true → span D c ≤ span D d → holds D c v ≡ true → holds D d v ≡ true → Inside D c d
shares_inside D c d v p q h a b = go (nested D c d p q h)
  where
    go : Apart D c d ⊎ Inside D c d → Inside D c d
    go (inl (inl k)) = absurd (omega (arith, holds_true D c v a, holds_true D d v b))
    go (inl (inr k)) = absurd (omega (arith, holds_true D c v a, holds_true D d v b))
    go (inr k) = k

-- a cell holds its first voxel, and those of the cells inside it
first_held : (D c d : ℕ) → Inside D c d → holds D d (start D c) ≡ true
first_held D c d (a, b) = holds_between D d (start D c) a (omega (arith, span_pos D c))

-- spans are powers of eight
exact_span : (D c d : ℕ) → span D d ≤ span D c → span D c < 8 * span D d → span D c ≡ span D d
unfolding span
exact_span D c d lo hi =
    let a = pow8_le_inv (D - level D d) (D - level D c) lo in
    let b = pow8_lt_inv (D - level D c) (suc (D - level D d)) (omega (arith, pow8_suc (D - level D d))) in
    ap (λ (x : ℕ). 8 ^ x) (omega arith)

-- one of two things at each number below n: the first somewhere, or the second everywhere
one_or_all : (A : Type 0) (B : ℕ → Type 0) (n : ℕ) → ((j : ℕ) → j < n → A ⊎ B j) → A ⊎ ((j : ℕ) → j < n → B j)
one_or_all A B zero f = inr (λ j h. absurd (omega arith))
one_or_all A B (suc n) f = go (one_or_all A B n (λ j h. f j (omega arith))) (f n (le_refl (suc n)))
  where
    go : A ⊎ ((j : ℕ) → j < n → B j) → A ⊎ B n → A ⊎ ((j : ℕ) → j < suc n → B j)
    go (inl a) b = inl a
    go (inr all) (inl a) = inl a
    go (inr all) (inr b) = inr (λ j h. ⊎_elim (λ (e : j ≡ n). rw e b) (all j) (eq-or-lt_of_le (le_of_suc-le-suc h)))

-- ---- a cell whose voxels are all black lies in one leaf

module _ (D from : ℕ) (l : List ℕ) (o : Ordered D from l) (con : Condensed l) where
  -- some leaf holds the cell d
  abbrev InLeaf : ℕ → Type 0
  InLeaf d = (c : ℕ) × Memᴰ c l × Inside D d c

  -- a leaf that holds a child is that child, or holds its parent too
  child_leaf : (d j : ℕ) → proper D d ≡ true → level D d < D → j < 8 → InLeaf (8 * d + j) → InLeaf d ⊎ Memᴰ (8 * d + j) l
  child_leaf d j p h k (c, m, i) = go (le_or_lt (span D d) (span D c))
    where
      go : (span D d ≤ span D c) ⊎ (span D c < span D d) → InLeaf d ⊎ Memᴰ (8 * d + j) l
      go (inl big) =
          let x = child D d j p h k in
          inl (c, m, shares_inside D d c (start D (8 * d + j)) p (member D from l c o m).0 big (first_held D _ d (child_inside D d _ j x k)) (first_held D _ c i))
      go (inr small) =
          let x = child D d j p h k in
          let e = exact_span D c (8 * d + j) (omega arith) (omega (arith, x.is_span)) in
          inr (subst (λ (n : ℕ). Memᴰ n l) (same_cell D c (8 * d + j) (member D from l c o m).0 x.is_proper (omega (arith, i.0, i.1)) e) m)

  -- by the levels n below the cell
  in_leaf : (n d : ℕ) → proper D d ≡ true → span D d ≡ 8 ^ n → AllBlack D l (start D d) (end D d) → InLeaf d
  unfolding Condensed
  in_leaf zero d p u b =
      let (c, m, h) = leaf_of D l (start D d) (b (start D d) (le_refl _) (omega (arith, span_pos D d))) in
      (c, m, shares_inside D d c (start D d) p (member D from l c o m).0 (omega (arith, u, span_pos D c)) (first_held D d d (le_refl _, le_refl _)) h)
  in_leaf (suc n) d p u b =
      ⊎_elim (λ h. h) (λ (all : (j : ℕ) → j < 8 → Memᴰ (8 * d + j) l). absurd (con d all))
      (one_or_all (InLeaf d) (λ j. Memᴰ (8 * d + j) l) 8
      (λ j h.
      let x = child D d j p (has_children D d n u) h in
      let (lo, hi) = child_inside D d (8 * d + j) j x h in
      child_leaf d j p (has_children D d n u) h (in_leaf n (8 * d + j) x.is_proper (omega (arith, x.is_span, u, pow8_suc n)) (λ v a e. b v (omega arith) (omega arith)))))

  pub inside_leaf : (d : ℕ) → proper D d ≡ true → AllBlack D l (start D d) (end D d) → InLeaf d
  inside_leaf d p b = in_leaf (cell D d p).n d p (cell D d p).span≡ b

-- ---- two good lists with the same black voxels are one list

-- a leaf of the one is a leaf of the other
same_leaves : (D : ℕ) (l m : List ℕ) → Good D l → Good D m → ((v : ℕ) → black D l v ≡ black D m v) → (c : ℕ) → Memᴰ c l → Memᴰ c m
same_leaves D l m g h b c i =
    let p = (member D 0 l c g.ordered i).0 in
    let (d, j, x) = inside_leaf D 0 m h.ordered h.condensed c p (λ v lo hi. sym (b v) ∙ member_black D c l v i (holds_between D c v lo hi)) in
    let q = (member D 0 m d h.ordered j).0 in
    let (e, k, y) = inside_leaf D 0 l g.ordered g.condensed d q (λ v lo hi. b v ∙ member_black D d m v j (holds_between D d v lo hi)) in
    let back : e ≡ c = one_leaf D 0 l e c (start D c) g.ordered k i (first_held D c e (omega (arith, x.0, x.1, y.0, y.1))) (first_held D c c (le_refl _, le_refl _)) in
    let y' : Inside D d c = rw back at y in
    let s : start D d ≡ start D c = omega (arith, x.0, y'.0) in
    subst (λ (n : ℕ). Memᴰ n m) (same_cell D d c q p s (omega (arith, x.1, y'.1))) j

-- ordered lists with the same leaves are one list: past the same first leaf, the same leaves are left
past_first : (D c d : ℕ) (l m : List ℕ) → c ≡ d → Ordered D (end D c) l → ((x : ℕ) → Memᴰ x (c ∷ l) → Memᴰ x (d ∷ m)) → (x : ℕ) → Memᴰ x l → Memᴰ x m
past_first D c d l m e o to x i = go (to x (Memᴰ.tail i))
  where
    go : Memᴰ x (d ∷ m) → Memᴰ x m
    go (Memᴰ.head f) = absurd (omega (arith, (member D (end D c) l x o i).1, ap (start D) (f ∙ sym e), span_pos D c))
    go (Memᴰ.tail j) = j

ordered_same : (D a b : ℕ) (l m : List ℕ) → Ordered D a l → Ordered D b m → ((c : ℕ) → Memᴰ c l → Memᴰ c m) → ((c : ℕ) → Memᴰ c m → Memᴰ c l) → l ≡ m
unfolding Ordered
ordered_same D a b [] [] o o' to back = refl
ordered_same D a b [] (d ∷ m) o o' to back = absurd (Memᴰ.not-nil (back d (Memᴰ.head refl)))
ordered_same D a b (c ∷ l) [] o o' to back = absurd (Memᴰ.not-nil (to c (Memᴰ.head refl)))
ordered_same D a b (c ∷ l) (d ∷ m) (p, f, o) (p', f', o') to back =
    ap₂ ◌∷◌ same (ordered_same D (end D c) (end D d) l m o o' (past_first D c d l m same o to) (past_first D d c m l (sym same) o' back))
  where
    go : Memᴰ c (d ∷ m) → Memᴰ d (c ∷ l) → c ≡ d
    go (Memᴰ.head e) j = e
    go (Memᴰ.tail i) (Memᴰ.head e) = sym e
    go (Memᴰ.tail i) (Memᴰ.tail j) =
        absurd (omega (arith, (member D (end D d) m c o' i).1, (member D (end D c) l d o j).1, span_pos D c, span_pos D d))

    same : c ≡ d
    same = go (to c (Memᴰ.head refl)) (back d (Memᴰ.head refl))

-- each set of voxels has at most one good list
pub one_good_list : {D : ℕ} {l m : List ℕ} → Good D l → Good D m → ((v : ℕ) → v < 8 ^ D → black D l v ≡ black D m v) → l ≡ m
one_good_list {D} {l} {m} g h b = ordered_same D 0 0 l m g.ordered h.ordered (same_leaves D l m g h all) (same_leaves D m l h g (λ v. sym (all v)))
  where
    all : (v : ℕ) → black D l v ≡ black D m v
    all v = ⊎_elim (λ (k : 8 ^ D ≤ v). black_beyond D 0 l g.ordered v k ∙ sym (black_beyond D 0 m h.ordered v k)) (b v) (le_or_lt (8 ^ D) v)
