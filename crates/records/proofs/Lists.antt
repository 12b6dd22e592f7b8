-- Which voxels a leaf and a list hold, and how many leaves there are. Assumes nothing.
use mathlib.Core.Path.{◌≡◌, refl, sym, ◌∙◌}
use mathlib.Core.Bool.{true, false, true≢false}
use mathlib.Core.Logic.{⊎_elim}
use mathlib.Core.List.{List, [], ◌∷◌}
use Prim.Native.Nat.{ℕ, ◌+◌, ◌^◌, ◌≤◌, ◌<◌}
use native.Mathlib.Omega.{arith}
use lib.Dec.{leb, ltb}
use lib.ListN.{length}
use borrow.Author.Tests.{leb-true, ltb-true, le-leb, lt-ltb}
use Rattle.cells.specs.Cell.{start, end, holds}
use Rattle.records.specs.Record.{black, Ordered}
use Rattle.cells.proofs.Power.{le_or_lt}
use Rattle.cells.proofs.Bools.{both_true, refuted}
use Rattle.cells.proofs.Cells.{span_pos, within}

-- ---- one leaf

pub holds_true : (D c v : ℕ) → holds D c v ≡ true → (start D c ≤ v) × (v < end D c)
unfolding holds
holds_true D c v e = let t = both_true (leb (start D c) v) (ltb v (end D c)) e in (leb-true _ _ t.0, ltb-true _ _ t.1)

pub holds_between : (D c v : ℕ) → start D c ≤ v → v < end D c → holds D c v ≡ true
unfolding holds
holds_between D c v h k = rw (le-leb _ _ h, lt-ltb _ _ k)

pub before_cell : (D c v : ℕ) → v < start D c → holds D c v ≡ false
before_cell D c v h = refuted (holds D c v) (λ e. let t = holds_true D c v e in omega arith)

pub after_cell : (D c v : ℕ) → end D c ≤ v → holds D c v ≡ false
after_cell D c v h = refuted (holds D c v) (λ e. let t = holds_true D c v e in omega arith)

-- ---- a list

pub black_held : (D c : ℕ) (l : List ℕ) (v : ℕ) → holds D c v ≡ true → black D (c ∷ l) v ≡ true
unfolding black
black_held D c l v e = rw e

pub black_past : (D c : ℕ) (l : List ℕ) (v : ℕ) → holds D c v ≡ false → black D (c ∷ l) v ≡ black D l v
unfolding black
black_past D c l v e = rw e

-- no voxel before an ordered list's beginning is black
pub black_before : (D from : ℕ) (l : List ℕ) → Ordered D from l → (v : ℕ) → v < from → black D l v ≡ false
unfolding black Ordered
black_before D from [] o v h = refl
black_before D from (c ∷ l) (p, f, o) v h =
    black_past D c l v (before_cell D c v (omega arith)) ∙ black_before D (end D c) l o v (omega arith)

-- nor beyond the root cube
pub black_beyond : (D from : ℕ) (l : List ℕ) → Ordered D from l → (v : ℕ) → 8 ^ D ≤ v → black D l v ≡ false
unfolding black Ordered
black_beyond D from [] o v h = refl
black_beyond D from (c ∷ l) (p, f, o) v h =
    black_past D c l v (after_cell D c v (omega (arith, within D c p))) ∙ black_beyond D (end D c) l o v h

-- so a black voxel lies in it
pub black_in_root : (D from : ℕ) (l : List ℕ) → Ordered D from l → (v : ℕ) → black D l v ≡ true → v < 8 ^ D
black_in_root D from l o v b = ⊎_elim (λ (h : 8 ^ D ≤ v). absurd (true≢false (sym b ∙ black_beyond D from l o v h))) (λ h. h) (le_or_lt (8 ^ D) v)

-- every voxel from a up to b is black
abbrev pub AllBlack : ℕ → List ℕ → ℕ → ℕ → Type 0
AllBlack D l a b = (v : ℕ) → a ≤ v → v < b → black D l v ≡ true

-- ---- how many leaves

-- no more than the voxels from the list's beginning on
pub few_ordered : (D from : ℕ) (l : List ℕ) → from ≤ 8 ^ D → Ordered D from l → from + length l ≤ 8 ^ D
unfolding Ordered
few_ordered D from [] h o = omega arith
few_ordered D from (c ∷ l) h (p, f, o) = omega (arith, span_pos D c, few_ordered D (end D c) l (within D c p) o)
