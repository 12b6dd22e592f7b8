-- THE LAWS OF `Nearest` (specs/Metres.antt): all that depends on the tie rule. The other files cite these laws, and not the definition's text.
--     nearest_unique     at most one n is the nearest to d x 2^s
--     nearest_size       a size in half voxels gives it, by `size_of`
--     nearest_exists     so each finite d has one
--     nearest_far        2^32 metres or more have none of 32 bits
--     half_away          a half goes away from zero
--     nearest_opposite   -d has the opposite number
-- Assumes nothing.
use Rattle.std.proofs.Common.{◌≡◌, ℕ, ◌+◌, ◌*◌, ◌/◌, ◌^◌, ◌<◌, ◌≤◌, Bool, true, false, not, ℤ, pos, neg_ℤ, sym, refl, ap, ◌∙◌, mul-le-mul_right, mod-lt, mul_assoc, add-mul, le_antisymm, lt_of_mul-lt-mul_right, mul-le-mul_left, one-mul, div-add-mod', arith, pow_pos}
use lib.IntN.{neg_ℤ-neg_ℤ}
use lib.Ieee.{Float, nan, inf, fin, up, down, neg}
use lib.Ieee.Fits.{down_pos}
use Rattle.metres.specs.Metres.{signed, NearestSize, Nearest}
use Rattle.metres.specs.Inner.{size_of}

-- ---- at most one
not_above : (a c k k' : ℕ) → 0 < c → NearestSize a c k → NearestSize a c k' → k ≤ k'
not_above a c k k' C h h' =
    let l : k * c < (k' + 1) * c = simp (add-mul, one-mul) (omega (arith, C, h.0, h'.1)) in
    omega (arith, lt_of_mul-lt-mul_right c l)

pub nearest_unique : (s : ℕ) (d : Float) (n n' : ℤ) → Nearest s d n → Nearest s d n' → n ≡ n'
unfolding Nearest
nearest_unique s nan n n' h h' = absurd h
nearest_unique s (inf t) n n' h h' = absurd h
nearest_unique s (fin t m e) n n' (k, h, is) (k', h', is') =
    let a = m * up e * 2 ^ s in
    is ∙ ap (signed t) (le_antisymm (not_above a (down e) k k' (down_pos e) h h') (not_above a (down e) k' k (down_pos e) h' h)) ∙ sym is'

-- ---- one for each finite coordinate: the size in half voxels gives it by the tie rule
size_nearest : (a c w : ℕ) → w * c ≤ 2 * a → 2 * a < w * c + c → NearestSize a c (size_of w)
size_nearest a c w l h =
    let k = (w + 1) / 2 in
    let x : 2 * k * c ≤ (w + 1) * c = mul-le-mul_right c (omega arith) in
    let y : w * c ≤ 2 * k * c = mul-le-mul_right c (omega arith) in
    let x' = simp (add-mul, mul_assoc, one-mul) at x in
    let y' = simp mul_assoc at y in
    (omega arith, omega arith)

pub nearest_size : (s : ℕ) (t : Bool) (m : ℕ) (e : ℤ) (w : ℕ) → w * down e ≤ 2 * (m * up e) * 2 ^ s → 2 * (m * up e) * 2 ^ s < w * down e + down e
    → Nearest s (fin t m e) (signed t (size_of w))
unfolding Nearest
nearest_size s t m e w l h =
    let doubled = mul_assoc 2 (m * up e) (2 ^ s) in
    (size_of w, size_nearest (m * up e * 2 ^ s) (down e) w (omega arith) (omega arith), refl)

-- the size of the nearest number to ±m * 2 ^ e
abbrev pub size_at : ℕ → ℕ → ℤ → ℕ
size_at s m e = size_of (2 * (m * up e) * 2 ^ s / down e)

pub nearest_exists : (s : ℕ) (t : Bool) (m : ℕ) (e : ℤ) → Nearest s (fin t m e) (signed t (size_at s m e))
nearest_exists s t m e =
    let a = 2 * (m * up e) * 2 ^ s in
    let d = div-add-mod' a (down e) in
    let r = mod-lt a (down_pos e) in
    nearest_size s t m e (a / down e) (omega arith) (omega arith)

-- ---- 2^32 metres or more: no 32-bit number is near
pub nearest_far : (s : ℕ) (t : Bool) (m : ℕ) (e n : ℤ) → 2 ^ 32 * down e ≤ m * up e → Nearest s (fin t m e) n → (k : ℕ) × (2 ^ 31 < k) × (n ≡ signed t k)
unfolding Nearest
nearest_far s t m e n h (k, near, is) =
    let big : m * up e * 1 ≤ m * up e * 2 ^ s = mul-le-mul_left (m * up e) (pow_pos s) in
    let l : 2 ^ 31 * down e < k * down e = omega (arith, near.1, down_pos e) in
    (k, lt_of_mul-lt-mul_right (down e) l, is)

-- ---- k voxels and a half become one more
pub half_away : (s : ℕ) (t : Bool) (m : ℕ) (e : ℤ) (k : ℕ) → 2 * (m * up e * 2 ^ s) ≡ (2 * k + 1) * down e → Nearest s (fin t m e) (signed t (k + 1))
unfolding Nearest
half_away s t m e k h =
    let odd = simp (add-mul, mul_assoc, one-mul) at h in
    let next : (k + 1) * down e ≡ k * down e + down e = simp (add-mul, one-mul) in
    (k + 1, (omega arith, omega (arith, down_pos e)), refl)

-- ---- d and -d
signed_not : (t : Bool) (k : ℕ) → neg_ℤ (signed t k) ≡ signed (not t) k
signed_not false k = refl
signed_not true k = neg_ℤ-neg_ℤ (pos k)

pub nearest_opposite : (s : ℕ) (d : Float) (n : ℤ) → Nearest s d n → Nearest s (neg d) (neg_ℤ n)
unfolding Nearest neg
nearest_opposite s nan n h = h
nearest_opposite s (inf t) n h = h
nearest_opposite s (fin t m e) n (k, near, is) = (k, near, ap neg_ℤ is ∙ signed_not t k)
