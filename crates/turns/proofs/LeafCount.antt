-- A turn keeps the leaf count (document 000, its closing section): a cell is all black exactly when its source is, and the leaves of a cell's children are those of
-- the source's children in another order. Assumes nothing.
use mathlib.Core.Path.{◌≡◌, refl, sym, ap, ◌∙◌}
use mathlib.Core.Bool.{Bool, true, false}
use mathlib.Core.List.{List}
use Prim.Native.Nat.{ℕ, zero, suc, ◌+◌, ◌-◌, ◌*◌, ◌%◌, ◌^◌, ◌<◌}
use native.Mathlib.Nat.{zero-add}
use native.Mathlib.Omega.{arith}
use lib.ListN.{length, length-append}
use Rattle.cells.proofs.Bools.{clash}
use Rattle.records.specs.Record.{black, Good}
use Rattle.records.specs.Fault.{all_from}
use Rattle.records.proofs.Edges.{inside}
use Rattle.records.proofs.Fill.{upto, leaves, good_list, all_true, all_false, leaves_whole, leaves_none, leaves_parts, good_list_is}
use Rattle.turns.specs.Inner.{source_label, relabel, source_of, turned}
use Rattle.turns.proofs.Relabels.{relabel_within}
use Rattle.turns.proofs.Labels.{total, turned_total}
use Rattle.turns.proofs.Sources.{source_in, source_target}

-- ---- lists one after the other

upto_total : (f : ℕ → List ℕ) (m : ℕ) → length (upto f m) ≡ total (λ j. length (f j)) m
unfolding upto total
upto_total f zero = refl
upto_total f (suc m) = length-append (upto f m) (f m) ∙ ap (λ (x : ℕ). x + length (f m)) (upto_total f m)

total_same : (a b : ℕ → ℕ) (m : ℕ) → ((j : ℕ) → j < m → a j ≡ b j) → total a m ≡ total b m
unfolding total
total_same a b zero h = refl
total_same a b (suc m) h = omega (arith, total_same a b m (λ j l. h j (omega arith)), h m (omega arith))

-- ---- a cell and its source

-- the place w in child j of a cell with k levels below the child
child_source : (n k j w : ℕ) → j < 8 → w < 8 ^ k → source_of n (suc k) (j * 8 ^ k + w) ≡ source_label n j * 8 ^ k + source_of n k w
unfolding relabel
child_source n k j w h l =
    let e : 1 + k ≡ suc k = omega arith in
    let m : j % 8 ≡ j = omega arith in
    let one : relabel (source_label n) 1 j ≡ source_label n j = omega (arith, ap (source_label n) m) in
    ap (λ (i : ℕ). relabel (source_label n) i (j * 8 ^ k + w)) (sym e) ∙ relabel_within (source_label n) 1 k j w l ∙ ap (λ (x : ℕ). x * 8 ^ k + source_of n k w) one

module _ (n : ℕ) (P Q : ℕ → Bool) where
  -- Q on the cell that starts at s is P on its source, which starts at s', k levels below each
  abbrev From : ℕ → ℕ → ℕ → Type 0
  From k s s' = (w : ℕ) → w < 8 ^ k → Q (s + w) ≡ P (s' + source_of n k w)

  whole_same : (k s s' : ℕ) → From k s s' → all_from Q s (8 ^ k) ≡ all_from P s' (8 ^ k)
  whole_same k s s' from = go (all_from Q s (8 ^ k)) (all_from P s' (8 ^ k)) refl refl
    where
      go : (q p : Bool) → all_from Q s (8 ^ k) ≡ q → all_from P s' (8 ^ k) ≡ p → q ≡ p
      go true true e f = refl
      go false false e f = refl
      go true false e f =
          let (v, lo, hi, white) = all_false P s' (8 ^ k) f in
          let inside : v - s' < 8 ^ k = omega arith in
          let w : ℕ = source_of (3 * n) k (v - s') in
          let same : s' + source_of n k w ≡ v = omega (arith, source_target k n (v - s') inside) in
          absurd (clash (all_true Q s (8 ^ k) e (s + w) (omega arith) (omega (arith, source_in k (3 * n) (v - s')))) (from w (source_in k (3 * n) (v - s')) ∙ ap P same ∙ white))
      go false true e f =
          let (v, lo, hi, white) = all_false Q s (8 ^ k) e in
          let inside : v - s < 8 ^ k = omega arith in
          let same : s + (v - s) ≡ v = omega arith in
          absurd (clash (all_true P s' (8 ^ k) f (s' + source_of n k (v - s)) (omega arith) (omega (arith, source_in k n (v - s)))) (sym (from (v - s) inside) ∙ ap Q same ∙ white))

  child_from : (k s s' j : ℕ) → j < 8 → From (suc k) s s' → From k (s + j * 8 ^ k) (s' + source_label n j * 8 ^ k)
  child_from k s s' j h from w l =
      let a : s + j * 8 ^ k + w ≡ s + (j * 8 ^ k + w) = omega arith in
      let b : s' + (source_label n j * 8 ^ k + source_of n k w) ≡ s' + source_label n j * 8 ^ k + source_of n k w = omega arith in
      ap Q a ∙ from (j * 8 ^ k + w) (omega (arith, inside j k h)) ∙ ap (λ (x : ℕ). P (s' + x)) (child_source n k j w h l) ∙ ap P b

  -- whatever their codes are
  same_count : (k c c' s s' : ℕ) → From k s s' → length (leaves Q k c s) ≡ length (leaves P k c' s')
  same_count zero c c' s s' from = go (all_from P s' 1) refl (whole_same 0 s s' from)
    where
      go : (b : Bool) → all_from P s' 1 ≡ b → all_from Q s 1 ≡ all_from P s' 1 → length (leaves Q 0 c s) ≡ length (leaves P 0 c' s')
      go true e same = rw (leaves_whole Q 0 c s (same ∙ e), leaves_whole P 0 c' s' e)
      go false e same = rw (leaves_none Q c s (same ∙ e), leaves_none P c' s' e)
  same_count (suc k) c c' s s' from =
      go (λ j h. same_count k (8 * c + j) (8 * c' + source_label n j) (s + j * 8 ^ k) (s' + source_label n j * 8 ^ k) (child_from k s s' j h from)) (all_from P s' (8 ^ suc k)) refl (whole_same (suc k) s s' from)
    where
      parts : ℕ → List ℕ
      parts j = leaves Q k (8 * c + j) (s + j * 8 ^ k)

      sources : ℕ → List ℕ
      sources j = leaves P k (8 * c' + j) (s' + j * 8 ^ k)

      go : ((j : ℕ) → j < 8 → length (parts j) ≡ length (sources (source_label n j)))
          → (b : Bool) → all_from P s' (8 ^ suc k) ≡ b → all_from Q s (8 ^ suc k) ≡ all_from P s' (8 ^ suc k) → length (leaves Q (suc k) c s) ≡ length (leaves P (suc k) c' s')
      go ih true e same = rw (leaves_whole Q (suc k) c s (same ∙ e), leaves_whole P (suc k) c' s' e)
      go ih false e same =
          rw (leaves_parts Q k c s (same ∙ e), leaves_parts P k c' s' e)
          (upto_total parts 8 ∙ total_same (λ j. length (parts j)) (λ j. length (sources (source_label n j))) 8 ih ∙ turned_total n (λ j. length (sources j)) ∙ sym (upto_total sources 8))

-- ---- a list

pub turned_leaves : (D : ℕ) (l : List ℕ) (n : ℕ) → Good D l → length (good_list D (turned D l n)) ≡ length l
unfolding good_list
turned_leaves D l n g =
    same_count n (black D l) (turned D l n) D 1 1 0 0 (λ w h. ap (turned D l n) (zero-add w) ∙ ap (black D l) (sym (zero-add (source_of n D w))))
    ∙ ap length (sym (good_list_is D (black D l) l g (λ v h. refl)))
