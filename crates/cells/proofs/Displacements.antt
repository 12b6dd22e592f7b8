-- Displacements in natural numbers, and the displaced voxel: along all axes, and along one alone. Assumes nothing.
use Rattle.std.proofs.Common.{◌≡◌, ℕ, ◌+◌, ◌*◌, ◌/◌, ◌^◌, ◌<◌, false, eqb, ◌↔◌, ℤ, pos, ◌+ℤ◌, ◌*ℤ◌, neg_ℤ, sym, refl, ap, ◌∙◌, subst, subst₂, add-mul, arith}
use native.Mathlib.Nat.{add-mul-div_right, eq_of_mul-eq-mul_right}
use Rattle.cells.specs.Inner.{only}
use Rattle.cells.specs.Place.{along, Displaced, Came}
use Rattle.cells.proofs.Integers.{above, below, same, add_is, above_times, below_times, above_negated, below_negated}
use Rattle.cells.proofs.Places.{each_axis, along_lt, same_voxel}

-- x displaced by d is x' just where x and what d adds is x' and what d takes
pub displaced_parts : (d : ℤ) (x x' : ℕ) → Displaced d x x' ↔ (x + above d ≡ x' + below d)
displaced_parts d x x' = (
  (λ e. omega (arith, add_is (pos x) d, ap above e, ap below e)),
  λ e. same (pos x +ℤ d) (pos x') (omega (arith, add_is (pos x) d)),
)

-- and by whole sides s, z of them
pub sides_parts : (z : ℤ) (s x x' : ℕ) → Displaced (z *ℤ pos s) x x' ↔ (x + above z * s ≡ x' + below z * s)
sides_parts z s x x' = let (to, back) = displaced_parts (z *ℤ pos s) x x' in (λ e. rw (above_times, below_times) at (to e), λ e. back (rw (above_times, below_times) e))

module _ (z : ℤ) (s a a' : ℕ) where
  pub displaced→ : 0 < s → Displaced (z *ℤ pos s) (a * s) (a' * s) → a + above z ≡ a' + below z
  displaced→ h e = eq_of_mul-eq-mul_right s h _ _ (add-mul a (above z) s ∙ (sides_parts z s (a * s) (a' * s)).0 e ∙ sym (add-mul a' (below z) s))

  pub →displaced : a + above z ≡ a' + below z → Displaced (z *ℤ pos s) (a * s) (a' * s)
  →displaced e = (sides_parts z s (a * s) (a' * s)).1 (sym (add-mul a (above z) s) ∙ ap (λ (n : ℕ). n * s) e ∙ add-mul a' (below z) s)

-- in sides
pub displaced_sides : (z : ℤ) (s x x' : ℕ) → 0 < s → Displaced (z *ℤ pos s) x x' → x / s + above z ≡ x' / s + below z
displaced_sides z s x x' h e = sym (add-mul-div_right x (above z) h) ∙ ap (λ (m : ℕ). m / s) ((sides_parts z s x x').0 e) ∙ add-mul-div_right x' (below z) h

-- the way back
pub displaced_back : (z : ℤ) (s x x' : ℕ) → Displaced (z *ℤ pos s) x x' → Displaced (neg_ℤ z *ℤ pos s) x' x
displaced_back z s x x' e = (sides_parts (neg_ℤ z) s x' x).1 (rw (above_negated, below_negated) (sym ((sides_parts z s x x').0 e)))

-- a place has one image and one source
pub one_image : (d : ℤ) (x x' y' : ℕ) → Displaced d x x' → Displaced d x y' → x' ≡ y'
one_image d x x' y' p q = omega (arith, (displaced_parts d x x').0 p, (displaced_parts d x y').0 q)

pub one_source : (d : ℤ) (x y x' : ℕ) → Displaced d x x' → Displaced d y x' → x ≡ y
one_source d x y x' p q = omega (arith, (displaced_parts d x x').0 p, (displaced_parts d y x').0 q)

module _ (D : ℕ) (d : ℕ → ℤ) where
  -- a voxel has one image and one source
  pub one_came : (u v v' : ℕ) → Came D d u v → Came D d u v' → v ≡ v'
  one_came u v v' c c' = same_voxel D v v' c.root c'.root (λ a h. one_image (d a) (along (2 ^ a) D u) _ _ (c.each a h) (c'.each a h))

  pub came_once : (u u' v : ℕ) → u < 8 ^ D → u' < 8 ^ D → Came D d u v → Came D d u' v → u ≡ u'
  came_once u u' v h h' c c' = same_voxel D u u' h h' (λ a l. one_source (d a) _ _ (along (2 ^ a) D v) (c.each a l) (c'.each a l))

-- ---- displaced along one axis alone, and along x, y and z one after the other

module _ (k : ℕ) (d : ℕ → ℤ) where
  -- the other coordinates stay
  still : (a b i j : ℕ) → b < 3 → eqb a b ≡ false → Came k (only a (d a)) i j → along (2 ^ b) k j ≡ along (2 ^ b) k i
  still a b i j h f came =
      let e : Displaced (pos 0) (along (2 ^ b) k i) (along (2 ^ b) k j) = rw (f, only) at (came.each b h) in
      omega (arith, (displaced_parts (pos 0) (along (2 ^ b) k i) (along (2 ^ b) k j)).0 e)

  -- a step that leaves the root along axis a, from where the cell stands along that axis: it stays in it by no way
  pub blocked : (a i u : ℕ) → a < 3 → along (2 ^ a) k u ≡ along (2 ^ a) k i → ((x : ℕ) → x < 2 ^ k → Displaced (d a) (along (2 ^ a) k u) x → ⊥) → (j : ℕ) → Came k d i j → ⊥
  blocked a i u h e none j came = none (along (2 ^ a) k j) (along_lt (2 ^ a) k j) (subst (λ (x : ℕ). Displaced (d a) x (along (2 ^ a) k j)) (sym e) (came.each a h))

  module _ (i x : ℕ) (first : Came k (only 0 (d 0)) i x) where
    pub still_y : along 2 k x ≡ along 2 k i
    still_y = still 0 1 i x (omega arith) refl first

    module _ (y : ℕ) (second : Came k (only 1 (d 1)) x y) where
      pub still_z : along 4 k y ≡ along 4 k i
      still_z = still 1 2 x y (omega arith) refl second ∙ still 0 2 i x (omega arith) refl first

      pub walked : (z : ℕ) → Came k (only 2 (d 2)) y z → Came k d i z
      walked z third = record {
        root = third.root;
        each = each_axis _
            (subst₂ (Displaced (d 0)) refl (sym (still 2 0 y z (omega arith) refl third ∙ still 1 0 x y (omega arith) refl second)) (first.each 0 (omega arith)))
            (subst₂ (Displaced (d 1)) still_y (sym (still 2 1 y z (omega arith) refl third)) (second.each 1 (omega arith)))
            (subst₂ (Displaced (d 2)) still_z refl (third.each 2 (omega arith)));
      }
