-- Where voxels come to, and which are black: a displacement the other way leads back, and a voxel's colour in the bits. Assumes nothing.
use mathlib.Core.Path.{◌≡◌, refl, sym}
use mathlib.Core.Logic.{◌⊎◌, inl, inr, ⊎_elim, ◌↔◌}
use mathlib.Core.Bool.{Bool, true, false, not}
use mathlib.Core.List.{List}
use Prim.Native.Nat.{ℕ, ◌+◌, ◌-◌, ◌^◌, ◌<◌}
use native.Mathlib.Nat.{le_refl}
use native.Mathlib.Omega.{arith}
use borrow.Author.Tests.{ltb-true, eqb-true, lt-ltb, eq-eqb}
use lib.Dec.{ltb, eqb}
use lib.IntN.{ℤ, neg_ℤ}
use Rattle.std.specs.Prelude.{Option, Some, None, is_some}
use Rattle.cells.specs.Place.{EachAxis, axes, all_axes, along, number, Came}
use Rattle.cells.proofs.Bools.{both_true, clash}
use Rattle.cells.proofs.Displacements.{displaced_parts, one_came}
use Rattle.cells.proofs.Integers.{above, below, above_negated, below_negated}
use Rattle.cells.proofs.Places.{each_axis, each_true, some_false, along_lt, along_axes, number_lt}
use Rattle.records.specs.Carried.{FromBlack}
use Rattle.moves.specs.Inner.{Splits, keeps}
use Rattle.moves.specs.declared.inner.Parted.{Parted}
use Rattle.moves.proofs.Acceptance.{split_of, splits_of, keeps_place, loses_place}
use Rattle.plain.specs.Bits.{bit_at, black_in}
use Rattle.plain.specs.Calls.{Leaves}
use Rattle.plain.specs.Inner.{Comes, ComesTo}

-- ---- a voxel's colour

pub black_in_lem : (D : ℕ) (b : List ℕ) (v : ℕ) → (black_in D b v ≡ true) ↔ ((v < 8 ^ D) × (bit_at b v ≡ 1))
unfolding black_in
black_in_lem D b v = (
  λ e. let (h, k) = both_true (ltb v (8 ^ D)) (eqb (bit_at b v) 1) e in (ltb-true v (8 ^ D) h, eqb-true (bit_at b v) 1 k),
  λ (h, k). rw (lt-ltb v (8 ^ D) h, eq-eqb (bit_at b v) 1 k),
)

-- of a voxel, it is its bit
pub black_bit : (D : ℕ) (b : List ℕ) (v : ℕ) → v < 8 ^ D → black_in D b v ≡ eqb (bit_at b v) 1
unfolding black_in
black_bit D b v h = rw (lt-ltb v (8 ^ D) h)

-- ---- a coordinate

module _ (w x : ℕ) (p : Parted) (z : ℤ) (split : Splits z p) where
  pub come_out : keeps w x 1 p ≡ false → Comes w z x None
  come_out e = λ y h m. ⊎_elim (λ none. none y h m) (λ none. none y x h refl m) (loses_place w x 1 z p split e)

  pub come_in : keeps w x 1 p ≡ true → Comes w z x (Some (x + p.up - p.down))
  come_in e = keeps_place w x 1 z p split e x (le_refl x) (omega arith)

-- ---- a voxel

module _ (D : ℕ) (d : ℕ → ℤ) (u : ℕ) where
  pub voxel_in : (i : ℕ → ℕ) → EachAxis (λ a. Comes (2 ^ D) (d a) (along (2 ^ a) D u) (Some (i a))) → ComesTo D d u (Some (number D (i 0) (i 1) (i 2)))
  voxel_in i come = record { root = number_lt D (i 0) (i 1) (i 2); each = λ a h. rw (along_axes D i (λ a h. (come a h).0) a h) (come a h).1 }

  -- w is the root's side, and x, y and z are the voxel's coordinates
  pub voxel_out : (a : ℕ) → a < 3 → (w x : ℕ) → w ≡ 2 ^ D → x ≡ along (2 ^ a) D u → Comes w (d a) x None → ComesTo D d u None
  voxel_out a h w x is-w is-x none = let far = rw (is-w, is-x) at none in λ v came. far (along (2 ^ a) D v) (along_lt (2 ^ a) D v) (came.each a h)

  pub voxel_to : (w x y z i j k : ℕ) → w ≡ 2 ^ D → x ≡ along 1 D u → y ≡ along 2 D u → z ≡ along 4 D u → Comes w (d 0) x (Some i) → Comes w (d 1) y (Some j) → Comes w (d 2) z (Some k) → ComesTo D d u (Some (number D i j k))
  voxel_to w x y z i j k is-w is-x is-y is-z f g h = voxel_in (axes i j k) (each_axis _ (rw (is-w, is-x) at f) (rw (is-w, is-y) at g) (rw (is-w, is-z) at h))

-- ---- there and back

pub came_back : (D : ℕ) (d e : ℕ → ℤ) → EachAxis (λ a. (above (e a) ≡ below (d a)) × (below (e a) ≡ above (d a))) → (u v : ℕ) → u < 8 ^ D → Came D d u v → Came D e v u
came_back D d e opposed u v h came = record {
  root = h;
  each = λ a k.
      let (up, down) = opposed a k in
      (displaced_parts (e a) (along (2 ^ a) D v) (along (2 ^ a) D u)).1 (omega (arith, (displaced_parts (d a) (along (2 ^ a) D u) (along (2 ^ a) D v)).0 (came.each a k)));
}

module _ (D : ℕ) (d : ℕ → ℤ) (b : List ℕ) (v : ℕ) where
  -- what comes to v is where v, displaced the other way, comes to
  source : (s : ℕ) → s < 8 ^ D → Came D d s v → Came D (λ a. neg_ℤ (d a)) v s
  source = λ s h. came_back D d (λ a. neg_ℤ (d a)) (λ a _. (above_negated (d a), below_negated (d a))) s v h

  pub from_outside : ComesTo D (λ a. neg_ℤ (d a)) v None → FromBlack (Came D d) (black_in D b) v → ⊥
  from_outside none (s, black, came) = none s (source s ((black_in_lem D b s).0 black).0 came)

  pub from_inside : v < 8 ^ D → (u : ℕ) → ComesTo D (λ a. neg_ℤ (d a)) v (Some u) → (black_in D b u ≡ true) ↔ FromBlack (Came D d) (black_in D b) v
  from_inside inside u to = (
    λ e. (u, e, came_back D (λ a. neg_ℤ (d a)) d (λ a _. (sym (below_negated (d a)), sym (above_negated (d a)))) v u inside to),
    λ (s, black, came).
        let same : u ≡ s = one_came D (λ a. neg_ℤ (d a)) v u s to (source s ((black_in_lem D b s).0 black).0 came) in
        rw same black,
  )

-- ---- a black voxel that leaves the root

pub leaves_exactly : (D : ℕ) (d : ℕ → ℤ) (b : List ℕ) (u : ℕ) (w : Option ℕ) (none : Bool) → ComesTo D d u w → black_in D b u ≡ true → is_some w ≡ not none → (none ≡ true) ↔ Leaves (Came D d) (black_in D b) u
leaves_exactly D d b u None true to black e = (λ _. (black, to), λ _. refl)
leaves_exactly D d b u None false to black e = absurd (clash refl (sym e))
leaves_exactly D d b u (Some v) true to black e = absurd (clash refl e)
leaves_exactly D d b u (Some v) false to black e = (λ f. absurd (clash f refl), λ (_, none). absurd (none v to))

-- ---- where a voxel comes to, computed

module _ (D : ℕ) (d : ℕ → ℤ) (u : ℕ) where
  -- whether each coordinate stays, and where it then comes to
  abbrev pub stay : ℕ → Bool
  stay a = keeps (2 ^ D) (along (2 ^ a) D u) 1 (split_of d a)

  abbrev pub to : ℕ → ℕ
  to a = along (2 ^ a) D u + (split_of d a).up - (split_of d a).down

  abbrev pub target : Bool → Option ℕ
  target true = Some (number D (to 0) (to 1) (to 2))
  target false = None

  unfoldable pub comes_to_of : Option ℕ
  comes_to_of = target (all_axes stay)

  pub comes_to : ComesTo D d u comes_to_of
  unfolding comes_to_of
  comes_to = go (all_axes stay) refl
    where
      go : (t : Bool) → all_axes stay ≡ t → ComesTo D d u (target t)
      go true e = voxel_in D d u to (λ a h. come_in (2 ^ D) (along (2 ^ a) D u) (split_of d a) (d a) (splits_of d a h) (each_true stay e a h))
      go false e =
          let (a, h, f) = some_false stay e in
          voxel_out D d u a h _ _ refl refl (come_out (2 ^ D) (along (2 ^ a) D u) (split_of d a) (d a) (splits_of d a h) f)

-- each voxel comes to some voxel, or leaves the root
pub stays_or_leaves : (D : ℕ) (d : ℕ → ℤ) (u : ℕ) → ((v : ℕ) × Came D d u v) ⊎ ((v : ℕ) → Came D d u v → ⊥)
stays_or_leaves D d u = go (comes_to_of D d u) (comes_to D d u)
  where
    go : (w : Option ℕ) → ComesTo D d u w → ((v : ℕ) × Came D d u v) ⊎ ((v : ℕ) → Came D d u v → ⊥)
    go (Some v) came = inl (v, came)
    go None none = inr none

-- the colour of what comes to a voxel: white from outside the root
abbrev pub colour_from : ℕ → List ℕ → Option ℕ → Bool
colour_from D b (Some u) = black_in D b u
colour_from D b None = false

-- it is that of where v, displaced the other way, comes to
pub moved_exactly : (D : ℕ) (d : ℕ → ℤ) (b : List ℕ) (v : ℕ) → v < 8 ^ D → (colour_from D b (comes_to_of D (λ a. neg_ℤ (d a)) v) ≡ true) ↔ FromBlack (Came D d) (black_in D b) v
moved_exactly D d b v h = go (comes_to_of D (λ a. neg_ℤ (d a)) v) (comes_to D (λ a. neg_ℤ (d a)) v)
  where
    go : (w : Option ℕ) → ComesTo D (λ a. neg_ℤ (d a)) v w → (colour_from D b w ≡ true) ↔ FromBlack (Came D d) (black_in D b) v
    go (Some u) to = from_inside D d b v h u to
    go None none = (λ e. absurd (clash e refl), λ f. absurd (from_outside D d b v none f))
