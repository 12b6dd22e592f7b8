-- A leaf's test against its voxels: where it holds each voxel of the leaf, displaced, stays in the root, and where it fails the leaf's first voxel or its last
-- strays. So no leaf strays just where each black voxel stays. Assumes nothing.
use mathlib.Core.Path.{◌≡◌, refl, ap}
use mathlib.Core.Logic.{◌⊎◌, inl, inr, ⊎_elim, ◌↔◌}
use mathlib.Core.Bool.{Bool, true, false}
use mathlib.Core.List.{List}
use Prim.Native.Nat.{ℕ, ◌+◌, ◌-◌, ◌*◌, ◌/◌, ◌^◌, ◌<◌, ◌≤◌}
use native.Mathlib.Nat.{le_refl, div-add-mod', mod-lt}
use native.Mathlib.Omega.{arith}
use lib.Dec.{leb}
use lib.IntN.{ℤ, pos, negsuc}
use lib.ListN.{length, get_or}
use borrow.Author.Tests.{leb-true, leb-false}
use Rattle.cells.specs.Answer.{First}
use Rattle.cells.specs.Cell.{level, proper, index, side, start, span, holds}
use Rattle.cells.specs.Place.{EachAxis, along, number, corner, Displaced, Came}
use Rattle.cells.specs.declared.Answer.{Answer}
use Rattle.cells.proofs.Bools.{both_true, one_false}
use Rattle.cells.proofs.Firsts.{first_false}
use Rattle.cells.proofs.Integers.{above, below}
use Rattle.cells.proofs.Cells.{span_pos}
use Rattle.cells.proofs.CornerLaws.{side_pos, corner_start, corner_end}
use Rattle.cells.proofs.Places.{each_true, some_false, along_lt, along_axes, number_lt}
use Rattle.cells.proofs.Displacements.{displaced_parts}
use Rattle.cells.proofs.Views.{cube}
use Rattle.records.specs.Record.{Ordered}
use Rattle.records.specs.Carried.{Strays, Straying}
use Rattle.records.proofs.Lists.{holds_between}
use Rattle.records.proofs.Leaves.{leaf_of}
use Rattle.records.proofs.Fault.{index_of}
use Rattle.records.proofs.Search.{proper_at}
use Rattle.records.proofs.Carrying.{Accepted, accepted_passes}
use Rattle.moves.specs.Inner.{Splits, keeps, keeps_along, leaf_keeps}
use Rattle.moves.specs.declared.inner.Parted.{Parted}

-- ---- a displacement's parts

pub splits_above : (d : ℤ) (p : Parted) → Splits d p → (p.up ≡ above d) × (p.down ≡ below d)
splits_above (pos n) p h = h
splits_above (negsuc n) p h = h

-- every displacement has them
abbrev pub split_of : (ℕ → ℤ) → ℕ → Parted
split_of d a = record { up = above (d a); down = below (d a) }

pub splits_of : (d : ℕ → ℤ) → EachAxis (λ a. Splits (d a) (split_of d a))
splits_of d a h = go (d a)
  where
    go : (z : ℤ) → Splits z (record { up = above z; down = below z })
    go (pos n) = (refl, refl)
    go (negsuc n) = (refl, refl)

-- ---- one axis

-- where the places from x on stay, s of them, the place w does
pub keeps_place : (side x s : ℕ) (d : ℤ) (p : Parted) → Splits d p → keeps side x s p ≡ true → (w : ℕ) → x ≤ w → w < x + s
    → (w + p.up - p.down < side) × Displaced d w (w + p.up - p.down)
keeps_place side x s d p P e w lo hi =
    let (a, b) = both_true (leb p.down (x + p.up)) (leb (x + s + p.up) (side + p.down)) e in
    let f = leb-true p.down (x + p.up) a in
    let g = leb-true (x + s + p.up) (side + p.down) b in
    let q = splits_above d p P in
    (omega arith, (displaced_parts d w (w + p.up - p.down)).1 (omega arith))

-- where they do not, the first strays or the last
pub loses_place : (side x s : ℕ) (d : ℤ) (p : Parted) → Splits d p → keeps side x s p ≡ false
    → ((w : ℕ) → w < side → Displaced d x w → ⊥) ⊎ ((w v : ℕ) → w < side → v + 1 ≡ x + s → Displaced d v w → ⊥)
loses_place side x s d p P e =
    let q = splits_above d p P in
    ⊎_elim
    (λ f. inl (λ w h m. omega (arith, leb-false p.down (x + p.up) f, (displaced_parts d x w).0 m)))
    (λ f. inr (λ w v h k m. omega (arith, leb-false (x + s + p.up) (side + p.down) f, (displaced_parts d v w).0 m)))
    (one_false (leb p.down (x + p.up)) (leb (x + s + p.up) (side + p.down)) e)

-- ---- a leaf

-- the coordinates of its voxels
place_in : (D c : ℕ) → proper D c ≡ true → (b u : ℕ) → holds D c u ≡ true → (corner b D c ≤ along b D u) × (along b D u < corner b D c + side D c)
unfolding corner
place_in D c p b u h =
    let e : along b D u / side D c * side D c ≡ along b (level D c) (index D c) * side D c = ap (λ (m : ℕ). m * side D c) (cube D c p b u h) in
    omega (arith, div-add-mod' (along b D u) (side D c), mod-lt (along b D u) (side_pos D c))

module _ (D : ℕ) (d : ℕ → ℤ) (p : ℕ → Parted) (split : EachAxis (λ a. Splits (d a) (p a))) where
  module _ (c : ℕ) (is_proper : proper D c ≡ true) where
    -- each voxel of a leaf that is kept stays
    pub leaf_stays : leaf_keeps D p c ≡ true → (u : ℕ) → holds D c u ≡ true → (v : ℕ) × Came D d u v
    unfolding leaf_keeps keeps_along
    leaf_stays e u h = (v, record { root = number_lt D (moved 0) (moved 1) (moved 2); each = λ a l. rw (along_axes D moved (λ a l. (image a l).0) a l) (image a l).1 })
      where
        -- where each coordinate comes to
        moved : ℕ → ℕ
        moved a = along (2 ^ a) D u + (p a).up - (p a).down

        v : ℕ
        v = number D (moved 0) (moved 1) (moved 2)

        image : EachAxis (λ a. (moved a < 2 ^ D) × Displaced (d a) (along (2 ^ a) D u) (moved a))
        image a l =
            let (lo, hi) = place_in D c is_proper (2 ^ a) u h in
            keeps_place (2 ^ D) (corner (2 ^ a) D c) (side D c) (d a) (p a) (split a l) (each_true (λ a. keeps_along D (2 ^ a) (p a) c) e a l) (along (2 ^ a) D u) lo hi

    -- a leaf that is not kept strays
    pub leaf_strays : leaf_keeps D p c ≡ false → Strays D (Came D d) c
    unfolding leaf_keeps keeps_along
    leaf_strays e =
        let (a, l, f) = some_false (λ a. keeps_along D (2 ^ a) (p a) c) e in
        let s = span_pos D c in
        ⊎_elim
        (λ n. (
          start D c,
          holds_between D c (start D c) (le_refl _) (omega arith),
          λ v came. n (along (2 ^ a) D v) (along_lt (2 ^ a) D v) (rw (corner_start (2 ^ a) D c) (came.each a l)),
        ))
        (λ n. (
          start D c + (span D c - 1),
          holds_between D c (start D c + (span D c - 1)) (omega arith) (omega arith),
          λ v came. n (along (2 ^ a) D v) (along (2 ^ a) D (start D c + (span D c - 1))) (along_lt (2 ^ a) D v) (corner_end a l D c) (came.each a l),
        ))
        (loses_place (2 ^ D) (corner (2 ^ a) D c) (side D c) (d a) (p a) (split a l) f)

  -- ---- a list

  module _ (l : List ℕ) (o : Ordered D 0 l) where
    -- the first leaf that is not kept is the first that strays
    pub first_strays : {r : ℕ} → First (length l) (λ i. leaf_keeps D p (get_or l i 0) ≡ false) r → First (length l) (λ i. Strays D (Came D d) (get_or l i 0)) r
    first_strays {r} f = record {
      below = f.below;
      here = leaf_strays (get_or l r 0) (proper_at D l o r f.below) f.here;
      before = λ j k (u, holds_between, none). go j k u holds_between none (leaf_keeps D p (get_or l j 0)) refl;
    }
      where
        go : (j : ℕ) → j < r → (u : ℕ) → holds D (get_or l j 0) u ≡ true → ((v : ℕ) → Came D d u v → ⊥) → (t : Bool) → leaf_keeps D p (get_or l j 0) ≡ t → ⊥
        go j k u holds_between none false e = f.before j k e
        go j k u holds_between none true e =
            let (v, came) = leaf_stays (get_or l j 0) (proper_at D l o j (omega (arith, f.below))) e u holds_between in
            none v came

    -- where all are kept the move is accepted
    pub all_stay : ((i : ℕ) → i < length l → leaf_keeps D p (get_or l i 0) ≡ true) → Accepted D (Came D d) l
    all_stay kept u b =
        let (c, m, holds_between) = leaf_of D l u b in
        let (i, k, e) = index_of c l m in
        leaf_stays (get_or l i 0) (proper_at D l o i k) (kept i k) u (rw e holds_between)

-- ---- acceptance: no leaf strays exactly when each black voxel, displaced, stays

pub accepted_exactly : (D : ℕ) (d : ℕ → ℤ) (l : List ℕ) → Ordered D 0 l → ((a : Answer) → Straying D (Came D d) l a → ⊥) ↔ Accepted D (Came D d) l
accepted_exactly D d l o = (to, accepted_passes D (Came D d) l)
  where
    to : ((a : Answer) → Straying D (Came D d) l a → ⊥) → Accepted D (Came D d) l
    to none =
        ⊎_elim
        (λ (i, f). absurd (none _ (i, first_strays D d (split_of d) (splits_of d) l o f, refl)))
        (all_stay D d (split_of d) (splits_of d) l o)
        (first_false (λ i. leaf_keeps D (split_of d) (get_or l i 0)) (length l))
