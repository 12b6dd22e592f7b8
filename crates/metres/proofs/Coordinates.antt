-- What the tests of the code say of a coordinate, and what follows for its answer.
--     reached, beyond      an a above zero is below a power of two up to 2^32, and is measured, or not below 2^32, and is bad
--     measured_rounded     the answer that the measured size gives
--     negated, neg_neg     -d, for a d below zero
--     not_a_number, is_zero     a NaN is bad, and what is neither above nor below zero, and no NaN, gives 0
-- Assumes nothing.
use Rattle.std.proofs.Common.{◌≡◌, ℕ, ◌+◌, ◌*◌, ◌^◌, ◌<◌, ◌≤◌, Bool, true, false, T, ℤ, pos, refl, true≢false, mul-le-mul_right, zero-mul, arith, ltb→lt, lt→ltb, pow_mono, ltb-false, ltb-true, Some, None}
use mathlib.Core.Bool.{false≢true}
use lib.Ieee.{Float, nan, inf, fin, up, down, lt, is_nan, neg}
use lib.Ieee.Fits.{down_pos}
use lib.Ieee.Positive.{positive, num, den, first_pos}
use Rattle.metres.specs.Metres.{Nearest}
use Rattle.metres.specs.Inner.{Rounded, Measured, size_of, fitted, with_sign}
use Rattle.metres.proofs.NearestLaws.{nearest_size}
use Rattle.metres.proofs.Rounding.{rounded_fitted, far_is_bad}

-- 0.0 and 4294967296.0
abbrev pub nought : Float
nought = fin false 0 (pos 0)

abbrev pub limit : Float
limit = fin false 1 (pos 32)

-- ---- a coordinate's size a, above zero
pub reached : {k : ℕ} (a : Float) → T (lt nought a) → lt a (fin false 1 (pos k)) ≡ true → k ≤ 32 → T (positive a) × (num a < 2 ^ 32 * den a)
unfolding lt
reached nan p q l = absurd p
reached (inf true) p q l = absurd p
reached (inf false) p q l = absurd (false≢true q)
reached (fin true m e) p q l = absurd p
reached {k} (fin false m e) p q l =
    let g : 0 * 1 * down e < m * up e * 1 = ltb→lt (0 * 1 * down e) (m * up e * 1) p in
    let h = ltb-true (m * up e * 1) (1 * 2 ^ k * down e) q in
    let w : 2 ^ k * down e ≤ 2 ^ 32 * down e = mul-le-mul_right (down e) (pow_mono l) in
    (lt→ltb 0 m (first_pos m (up e) (omega arith)), omega arith)

-- a sign given to it
with_sign_lem : (t : Bool) (m : ℕ) (e : ℤ) → with_sign t (fin false m e) ≡ fin t m e
unfolding neg
with_sign_lem true m e = refl
with_sign_lem false m e = refl

pub beyond : (s : ℕ) (t : Bool) (a : Float) → T (lt nought a) → lt a limit ≡ false → Rounded s (with_sign t a) None
unfolding lt neg Rounded Nearest
beyond s t nan p q = absurd p
beyond s t (inf true) p q = absurd p
beyond s true (inf false) p q = λ n w. w.0
beyond s false (inf false) p q = λ n w. w.0
beyond s t (fin true m e) p q = absurd p
beyond s t (fin false m e) p q = let h = ltb-false (m * up e * 1) (1 * 2 ^ 32 * down e) q in rw (with_sign_lem t m e) (far_is_bad s t m e (omega arith))

pub measured_rounded : (s : ℕ) (t : Bool) (a : Float) (w : ℕ) → T (positive a) → Measured s a w → Rounded s (with_sign t a) (fitted t (size_of w))
measured_rounded s t nan w p r = absurd p
measured_rounded s t (inf u) w p r = absurd p
measured_rounded s t (fin true m e) w p r = absurd p
measured_rounded s t (fin false m e) w p r = rw (with_sign_lem t m e) (rounded_fitted s (fin t m e) t _ (nearest_size s t m e w r.least r.most))

-- ---- -d
pub neg_neg : (d : Float) → neg (neg d) ≡ d
unfolding neg
neg_neg nan = refl
neg_neg (inf true) = refl
neg_neg (inf false) = refl
neg_neg (fin true m e) = refl
neg_neg (fin false m e) = refl

pub negated : (d : Float) → lt d nought ≡ true → T (lt nought (neg d))
unfolding lt neg
negated nan p = absurd (false≢true p)
negated (inf true) p = tt
negated (inf false) p = absurd (false≢true p)
negated (fin true m e) p =
    let h = ltb-true 0 (m * up e * 1 + 0 * 1 * down e) p in
    lt→ltb (0 * 1 * down e) (m * up e * 1) (omega arith)
negated (fin false m e) p =
    let h = ltb-true (m * up e * 1) (0 * 1 * down e) p in
    let f : ⊥ = omega arith in
    absurd f

-- ---- neither above nor below zero
pub not_a_number : (s : ℕ) (d : Float) → is_nan d ≡ true → Rounded s d None
unfolding Rounded Nearest is_nan
not_a_number s nan p = λ n w. w.0
not_a_number s (inf t) p = absurd (false≢true p)
not_a_number s (fin t m e) p = absurd (false≢true p)

zero_rounded : (s : ℕ) (t : Bool) (m : ℕ) (e : ℤ) → m * up e ≡ 0 → Rounded s (fin t m e) (fitted t (size_of 0))
zero_rounded s t m e z =
    let size : 2 * (m * up e) * 2 ^ s ≡ 0 = rw z (zero-mul (2 ^ s)) in
    let none = zero-mul (down e) in
    rounded_fitted s (fin t m e) t _ (nearest_size s t m e 0 (omega arith) (omega (arith, down_pos e)))

pub is_zero : (s : ℕ) (d : Float) → is_nan d ≡ false → lt nought d ≡ false → lt d nought ≡ false → Rounded s d (Some (pos 0))
unfolding lt is_nan
is_zero s nan n p q = absurd (true≢false n)
is_zero s (inf true) n p q = absurd (true≢false q)
is_zero s (inf false) n p q = absurd (true≢false p)
is_zero s (fin true m e) n p q =
    let h = ltb-false 0 (m * up e * 1 + 0 * 1 * down e) q in
    zero_rounded s true m e (omega arith)
is_zero s (fin false m e) n p q =
    let h = ltb-false (0 * 1 * down e) (m * up e * 1) p in
    zero_rounded s false m e (omega arith)
