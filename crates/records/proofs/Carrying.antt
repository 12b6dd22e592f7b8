-- Lists carried voxel by voxel, over any relation that takes a voxel to one at most and no two to the same: the volume is kept, and what an operation makes of
-- two lists is carried to what it makes of the carried ones. A displacement is the first such relation. Assumes nothing.
use mathlib.Core.Path.{◌≡◌, refl, sym, ap, ◌∙◌, subst₂}
use mathlib.Core.Bool.{Bool, true, false}
use mathlib.Core.Logic.{◌↔◌, ◌⊎◌, ⊎_elim}
use mathlib.Core.List.{List}
use Prim.Native.Nat.{ℕ, ◌^◌, ◌<◌}
use lib.IntN.{ℤ}
use lib.ListN.{get_or}
use Rattle.cells.specs.Place.{Came}
use Rattle.cells.specs.declared.Answer.{Answer}
use Rattle.cells.proofs.Bools.{clash, same_truth}
use Rattle.cells.proofs.Decisions.{passes_first}
use Rattle.cells.proofs.Displacements.{one_came, came_once}
use Rattle.records.specs.Record.{black, Good, ListOf}
use Rattle.records.specs.Carried.{FromBlack, Straying}
use Rattle.records.proofs.Lists.{black_in_root}
use Rattle.records.proofs.Leaves.{member_black}
use Rattle.records.proofs.Fault.{member_at}
use Rattle.records.proofs.Counting.{count_bijection}
use Rattle.records.proofs.Volumes.{blacks}

-- voxels are carried into the root of depth D, each to one, and each from one
pub record Carrying (D : ℕ) (R : ℕ → ℕ → Type 0) : Type 0 where
  pub root : (u v : ℕ) → R u v → v < 8 ^ D
  pub one_target : (u v v' : ℕ) → R u v → R u v' → v ≡ v'
  pub one_source : (u u' v : ℕ) → u < 8 ^ D → u' < 8 ^ D → R u v → R u' v → u ≡ u'

-- a displacement
pub displacing : (D : ℕ) (d : ℕ → ℤ) → Carrying D (Came D d)
displacing D d = record { root = λ u v c. c.root; one_target = one_came D d; one_source = came_once D d }

-- every black voxel of l is carried somewhere
abbrev pub Accepted : ℕ → (ℕ → ℕ → Type 0) → List ℕ → Type 0
Accepted D R l = (u : ℕ) → black D l u ≡ true → (v : ℕ) × R u v

-- then no leaf strays
pub accepted_passes : (D : ℕ) (R : ℕ → ℕ → Type 0) (l : List ℕ) → Accepted D R l → (a : Answer) → Straying D R l a → ⊥
accepted_passes D R l ok = passes_first (λ i h (u, held, none). let (v, r) = ok u (member_black D (get_or l i 0) l u (member_at l i h) held) in none v r)

-- ---- one after the other

-- what is carried by R and then by S is carried by T
pub record Then (D : ℕ) (R S T : ℕ → ℕ → Type 0) : Type 0 where
  pub root : (u v : ℕ) → R u v → v < 8 ^ D
  pub both : (u v w : ℕ) → R u v → S v w → T u w
  pub rest : (u v w : ℕ) → T u w → R u v → S v w

-- of a list l, and the list m of its voxels carried by R
module _ {D : ℕ} {R S T : ℕ → ℕ → Type 0} (k : Then D R S T) (l m : List ℕ) (first : Accepted D R l) (x : ListOf D (FromBlack R (black D l)) m) where
  -- where a black voxel of m came from
  came_from : (v : ℕ) → black D m v ≡ true → FromBlack R (black D l) v
  came_from v b = (x.exactly v (black_in_root D 0 m x.good.ordered v b)).0 b

  pub accepted_then : Accepted D S m ↔ Accepted D T l
  accepted_then = (
    λ second u b.
        let (v, c) = first u b in
        let (w, f) = second v ((x.exactly v (k.root u v c)).1 (u, b, c)) in
        (w, k.both u v w c f),
    λ all v b.
        let (u, a, c) = came_from v b in
        let (w, s) = all u a in
        (w, k.rest u v w s c),
  )

  pub carried_then : (w : ℕ) → FromBlack S (black D m) w ↔ FromBlack T (black D l) w
  carried_then w = (
    λ (v, b, f).
        let (u, a, c) = came_from v b in
        (u, a, k.both u v w c f),
    λ (u, a, s).
        let (v, c) = first u a in
        (v, (x.exactly v (k.root u v c)).1 (u, a, c), k.rest u v w s c),
  )

-- ---- what carrying keeps

module _ (D : ℕ) (R : ℕ → ℕ → Type 0) (carrying : Carrying D R) where
  -- a voxel of the carried list m has the colour that the voxel it came from has in l
  pub colour_carried : (l m : List ℕ) → Good D l → ListOf D (FromBlack R (black D l)) m → (u v : ℕ) → u < 8 ^ D → R u v → black D m v ≡ black D l u
  colour_carried l m g x u v h r = same_truth (black D m v) (black D l u) (from, λ b. (x.exactly v (carrying.root u v r)).1 (u, b, r))
    where
      from : black D m v ≡ true → black D l u ≡ true
      from e =
          let (w, b, s) = (x.exactly v (carrying.root u v r)).0 e in
          ap (black D l) (carrying.one_source u w v h (black_in_root D 0 l g.ordered w b) r s) ∙ b

  -- ---- the volume

  module _ (l m : List ℕ) (good : Good D l) (ok : Accepted D R l) (x : ListOf D (FromBlack R (black D l)) m) where
    in_l : (u : ℕ) → black D l u ≡ true → u < 8 ^ D
    in_l = black_in_root D 0 l good.ordered

    -- where a black voxel of l comes to, and where a black voxel of m came from
    abbrev image : (u : ℕ) (t : Bool) → black D l u ≡ t → ℕ
    image u true b = (ok u b).0
    image u false b = 0

    abbrev source : (v : ℕ) (t : Bool) → black D m v ≡ t → ℕ
    source v true b = ((x.exactly v (black_in_root D 0 m x.good.ordered v b)).0 b).0
    source v false b = 0

    abbrev to : ℕ → ℕ
    to u = image u (black D l u) refl

    abbrev from : ℕ → ℕ
    from v = source v (black D m v) refl

    image_carried : (u : ℕ) (t : Bool) (b : black D l u ≡ t) → black D l u ≡ true → R u (image u t b)
    image_carried u true b e = (ok u b).1
    image_carried u false b e = absurd (clash e b)

    source_carried : (v : ℕ) (t : Bool) (b : black D m v ≡ t) → black D m v ≡ true → (black D l (source v t b) ≡ true) × R (source v t b) v
    source_carried v true b e = let s = (x.exactly v (black_in_root D 0 m x.good.ordered v b)).0 b in (s.1, s.2)
    source_carried v false b e = absurd (clash e b)

    pub carried_volume : blacks D l ≡ blacks D m
    carried_volume =
        count_bijection (black D l) (black D m) (8 ^ D) (8 ^ D) to from
        (λ u h e.
        let r : R u (to u) = image_carried u (black D l u) refl e in
        let inside = carrying.root u (to u) r in
        let b : black D m (to u) ≡ true = (x.exactly (to u) inside).1 (u, e, r) in
        let s = source_carried (to u) (black D m (to u)) refl b in
        (inside, b, carrying.one_source (from (to u)) u (to u) (in_l _ s.0) h s.1 r))
        (λ v h e.
        let s = source_carried v (black D m v) refl e in
        let r : R (from v) (to (from v)) = image_carried (from v) (black D l (from v)) refl s.0 in
        (in_l _ s.0, s.0, carrying.one_target (from v) (to (from v)) v r s.1))

  -- ---- lists a and b, their carried lists, and the list c of the voxels that the operation T takes: only voxels of one of the two

  module _ (T : Type 0 → Type 0 → Type 0) (one_of_lem : (A B : Type 0) → T A B → A ⊎ B) (a b c a' b' : List ℕ) (ga : Good D a) (gb : Good D b)
      (x : ListOf D (FromBlack R (black D a)) a') (y : ListOf D (FromBlack R (black D b)) b') (z : ListOf D (λ v. T (black D a v ≡ true) (black D b v ≡ true)) c) where
    pub accepted_made : Accepted D R a → Accepted D R b → Accepted D R c
    accepted_made ok ok' u e = ⊎_elim (ok u) (ok' u) (one_of_lem _ _ ((z.exactly u (black_in_root D 0 c z.good.ordered u e)).0 e))

    -- the operation takes a voxel of the carried lists exactly when it takes the one that it came from
    taken_carried : (u v : ℕ) → u < 8 ^ D → R u v → T (black D a' v ≡ true) (black D b' v ≡ true) ↔ T (black D a u ≡ true) (black D b u ≡ true)
    taken_carried u v h r =
        let p : black D a' v ≡ black D a u = colour_carried a a' ga x u v h r in
        let q : black D b' v ≡ black D b u = colour_carried b b' gb y u v h r in
        let F : Bool → Bool → Type 0 = λ s t. T (s ≡ true) (t ≡ true) in
        (subst₂ F p q, subst₂ F (sym p) (sym q))

    pub made_carried : (v : ℕ) → v < 8 ^ D → T (black D a' v ≡ true) (black D b' v ≡ true) ↔ FromBlack R (black D c) v
    made_carried v h = (to, back)
      where
        come : T (black D a' v ≡ true) (black D b' v ≡ true) → (u : ℕ) → u < 8 ^ D → R u v → FromBlack R (black D c) v
        come t u k r = (u, (z.exactly u k).1 ((taken_carried u v k r).0 t), r)

        to : T (black D a' v ≡ true) (black D b' v ≡ true) → FromBlack R (black D c) v
        to t =
            ⊎_elim
            (λ (e : black D a' v ≡ true). let (u, s, r) = (x.exactly v h).0 e in come t u (black_in_root D 0 a ga.ordered u s) r)
            (λ (e : black D b' v ≡ true). let (u, s, r) = (y.exactly v h).0 e in come t u (black_in_root D 0 b gb.ordered u s) r)
            (one_of_lem _ _ t)

        back : FromBlack R (black D c) v → T (black D a' v ≡ true) (black D b' v ≡ true)
        back (u, s, r) = let k = black_in_root D 0 c z.good.ordered u s in (taken_carried u v k r).1 ((z.exactly u k).0 s)
