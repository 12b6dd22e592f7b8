-- The voxels of an ordered list's leaves, added up, are its black voxels; and how many voxels are black in a join, an intersection and a difference.
-- Assumes nothing.
use mathlib.Core.Path.{◌≡◌, ap₂, ◌∙◌}
use mathlib.Core.Bool.{true, false, not, ◌&&◌, ◌||◌, and-false}
use mathlib.Core.Logic.{◌⊎◌, inl, inr}
use mathlib.Core.List.{List, [], ◌∷◌}
use Prim.Native.Nat.{ℕ, ◌+◌, ◌^◌, ◌≤◌, ◌<◌}
use native.Mathlib.Omega.{arith}
use Rattle.cells.specs.Cell.{proper, start, span, end, holds}
use Rattle.records.specs.Count.{count}
use Rattle.records.specs.Record.{black, Ordered}
use Rattle.records.specs.Inner.{volume}
use Rattle.cells.proofs.Power.{le_or_lt}
use Rattle.cells.proofs.Cells.{within}
use Rattle.records.proofs.Lists.{black_before, after_cell}
use Rattle.records.proofs.Counting.{count_same, count_none, count_join, count_less, count_apart, count_interval}

-- one leaf
pub leaf_volume : (D c : ℕ) → proper D c ≡ true → count (holds D c) (8 ^ D) ≡ span D c
unfolding holds
leaf_volume D c p = count_interval (start D c) (end D c) (8 ^ D) ∙ omega (arith, within D c p)

-- all leaves, wherever the list begins
pub list_volume : (D from : ℕ) (l : List ℕ) → Ordered D from l → count (black D l) (8 ^ D) ≡ volume D l
unfolding black volume Ordered
list_volume D from [] o = count_none (8 ^ D)
list_volume D from (c ∷ l) (p, f, o) =
    count_apart (holds D c) (black D l) (8 ^ D) (λ v h. apart v (le_or_lt (end D c) v))
    ∙ ap₂ (λ (x y : ℕ). x + y) (leaf_volume D c p) (list_volume D (end D c) l o)
  where
    apart : (v : ℕ) → (end D c ≤ v) ⊎ (v < end D c) → (holds D c v && black D l v) ≡ false
    apart v (inl h) = rw (after_cell D c v h)
    apart v (inr h) = rw (black_before D (end D c) l o v h) (and-false (holds D c v))

-- ---- counts of black voxels, by which voxels are black

-- how many voxels are black
abbrev pub blacks : ℕ → List ℕ → ℕ
blacks D l = count (black D l) (8 ^ D)

module _ (D : ℕ) (l m : List ℕ) where
  -- those of a join j and an intersection i add up to those of the two lists
  pub join_volume : (j i : List ℕ) → ((v : ℕ) → v < 8 ^ D → black D j v ≡ (black D l v || black D m v)) → ((v : ℕ) → v < 8 ^ D → black D i v ≡ (black D l v && black D m v))
      → blacks D j + blacks D i ≡ blacks D l + blacks D m
  join_volume j i hj hi =
      omega (
        arith,
        count_same (black D j) (λ v. black D l v || black D m v) (8 ^ D) hj,
        count_same (black D i) (λ v. black D l v && black D m v) (8 ^ D) hi,
        count_join (black D l) (black D m) (8 ^ D),
      )

  -- those of a difference d and an intersection i to those of the first
  pub difference_volume : (d i : List ℕ) → ((v : ℕ) → v < 8 ^ D → black D d v ≡ (black D l v && not (black D m v))) → ((v : ℕ) → v < 8 ^ D → black D i v ≡ (black D l v && black D m v))
      → blacks D d + blacks D i ≡ blacks D l
  difference_volume d i hd hi =
      omega (
        arith,
        count_same (black D d) (λ v. black D l v && not (black D m v)) (8 ^ D) hd,
        count_same (black D i) (λ v. black D l v && black D m v) (8 ^ D) hi,
        count_less (black D l) (black D m) (8 ^ D),
      )
