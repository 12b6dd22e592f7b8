-- What a coordinate becomes, `Rounded`, from the laws of `Nearest`. Nothing here depends on the tie rule.
--     one_whole, one_rounded     one whole number at most, one outcome at most
--     rounded_exists     and an outcome for every float: `rounded`, which computes
-- Assumes nothing.
use Rattle.std.proofs.Common.{◌≡◌, ℕ, ◌*◌, ◌^◌, ◌<◌, ◌≤◌, Bool, true, false, cond, not, T, ℤ, pos, negsuc, neg_ℤ, ◌≤ℤ◌, ◌<ℤ◌, refl, ap, subst, arith, ltb→lt, leb→le, nltb→le, Option, Some, None}
use lib.Dec.{nleb→lt}
use lib.Ieee.{Float, nan, inf, fin, up, down}
use Rattle.metres.specs.Metres.{signed, Nearest, Whole}
use Rattle.metres.specs.Inner.{Rounded, in_range, fitted}
use Rattle.cells.proofs.Integers.{above, below, le→, →le, lt→, →lt, above_neg, below_neg}
use Rattle.metres.proofs.NearestLaws.{nearest_unique, nearest_exists, nearest_far, size_at}

-- ---- the range: n is a signed 32-bit number
abbrev pub In32 : ℤ → Type 0
In32 n = (neg_ℤ (pos (2 ^ 31)) ≤ℤ n) × (n <ℤ pos (2 ^ 31))

pub in32_bounds : (n : ℤ) → In32 n → (above n < 2 ^ 31) × (below n ≤ 2 ^ 31)
in32_bounds (pos a) h = let u = lt→ (pos a) (pos (2 ^ 31)) h.1 in (omega arith, omega arith)
in32_bounds (negsuc a) h = let l = le→ (neg_ℤ (pos (2 ^ 31))) (negsuc a) h.0 in (omega arith, omega arith)

pub in32_yes : (t : Bool) (k : ℕ) → T (in_range t k) → In32 (signed t k)
in32_yes false k h = let g = ltb→lt k (2 ^ 31) h in (record { le = tt }, →lt (pos k) (pos (2 ^ 31)) (omega arith))
in32_yes true k h =
    let g = leb→le k (2 ^ 31) h in
    let a = above_neg k in
    let b = below_neg k in
    (→le (neg_ℤ (pos (2 ^ 31))) (neg_ℤ (pos k)) (omega arith), →lt (neg_ℤ (pos k)) (pos (2 ^ 31)) (omega arith))

in32_no : (t : Bool) (k : ℕ) → T (not (in_range t k)) → In32 (signed t k) → ⊥
in32_no false k h i = let g = nltb→le k (2 ^ 31) h in omega (arith, (in32_bounds (pos k) i).0)
in32_no true k h i = let g = nleb→lt k (2 ^ 31) h in omega (arith, (in32_bounds (neg_ℤ (pos k)) i).1, below_neg k)

-- ---- the outcome

-- a coordinate becomes one whole number at most
pub one_whole : (s : ℕ) (d : Float) (n n' : ℤ) → Whole s d n → Whole s d n' → n ≡ n'
one_whole s d n n' h h' = nearest_unique s d n n' h.0 h'.0

-- and has one outcome
pub one_rounded : (s : ℕ) (d : Float) (w w' : Option ℤ) → Rounded s d w → Rounded s d w' → w ≡ w'
unfolding Rounded
one_rounded s d (Some n) (Some n') h h' = ap Some (one_whole s d n n' h h')
one_rounded s d (Some n) None h h' = absurd (h' n h)
one_rounded s d None (Some n') h h' = absurd (h n' h')
one_rounded s d None None h h' = refl

pub rounded_fitted : (s : ℕ) (d : Float) (t : Bool) (k : ℕ) → Nearest s d (signed t k) → Rounded s d (fitted t k)
unfolding Rounded
rounded_fitted s d t k h = go (in_range t k) (in32_yes t k) (in32_no t k)
  where
    go : (b : Bool) → (T b → In32 (signed t k)) → (T (not b) → In32 (signed t k) → ⊥) → Rounded s d (cond b (Some (signed t k)) None)
    go true f g = (h, (f tt).0, (f tt).1)
    go false f g = λ n w. g tt (subst In32 (nearest_unique s d n (signed t k) w.0 h) (w.1, w.2))

-- the outcome for every float, computed
unfoldable pub rounded : ℕ → Float → Option ℤ
rounded s nan = None
rounded s (inf t) = None
rounded s (fin t m e) = fitted t (size_at s m e)

pub rounded_exists : (s : ℕ) (d : Float) → Rounded s d (rounded s d)
unfolding Rounded rounded Nearest
rounded_exists s nan = λ n w. w.0
rounded_exists s (inf t) = λ n w. w.0
rounded_exists s (fin t m e) = rounded_fitted s (fin t m e) t (size_at s m e) (nearest_exists s t m e)

pub far_is_bad : (s : ℕ) (t : Bool) (m : ℕ) (e : ℤ) → 2 ^ 32 * down e ≤ m * up e → Rounded s (fin t m e) None
unfolding Rounded
far_is_bad s t m e h = λ n w.
    let (k, big, is) = nearest_far s t m e n h w.0 in
    let b = in32_bounds n (w.1, w.2) in
    go t k big (rw is at b)
  where
    go : (t : Bool) (k : ℕ) → 2 ^ 31 < k → (above (signed t k) < 2 ^ 31) × (below (signed t k) ≤ 2 ^ 31) → ⊥
    go false k big b = omega (arith, b.0)
    go true k big b = omega (arith, b.1, below_neg k)
