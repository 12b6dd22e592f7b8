-- Binary digits of a number: what writing one does to the others, and a number is known by its digits. Assumes nothing.
use mathlib.Core.Path.{◌≡◌, sym, ap, ◌∙◌}
use Prim.Native.Nat.{ℕ, zero, suc, ◌+◌, ◌*◌, ◌/◌, ◌%◌, ◌^◌, ◌<◌, ◌≤◌}
use native.Mathlib.Nat.{div-one, zero-div, mod-lt, mul-le-mul_right, pow-suc}
use native.Mathlib.Omega.{arith}
use lib.Arith.{mod-mul}
use lib.Pow.{pow_pos}
use Rattle.cells.proofs.Power.{pow2_pos, pow2_suc, div_pow}

-- digit j of n
abbrev pub digit : ℕ → ℕ → ℕ
digit n j = n / 2 ^ j % 2

-- n with digit k written as c: those below it stay, those above it are 0
abbrev pub wrote : ℕ → ℕ → ℕ → ℕ
wrote n k c = n % 2 ^ k + c * 2 ^ k

-- ---- the last digit, and the others as digits of the half

digit_zero : (n : ℕ) → digit n 0 ≡ n % 2
digit_zero n = ap (λ (x : ℕ). x % 2) (div-one n)

digit_suc : (n j : ℕ) → digit n (suc j) ≡ digit (n / 2) j
digit_suc n j = ap (λ (x : ℕ). x % 2) (div_pow 2 j n)

pub digit_none : (j : ℕ) → digit 0 j ≡ 0
digit_none j = ap (λ (x : ℕ). x % 2) (zero-div (2 ^ j))

low_suc : (n k : ℕ) → n % 2 ^ suc k ≡ n / 2 % 2 ^ k * 2 + n % 2
low_suc n k = ap (λ (x : ℕ). n % x) (pow-suc 2 k) ∙ mod-mul n (pow_pos k) (pow_pos 1)

wrote_half : (n k c : ℕ) → wrote n (suc k) c / 2 ≡ wrote (n / 2) k c
wrote_half n k c = let e = ap (λ (x : ℕ). c * x) (pow2_suc k) in omega (arith, low_suc n k)

wrote_last : (n k c : ℕ) → wrote n (suc k) c % 2 ≡ n % 2
wrote_last n k c = let e = ap (λ (x : ℕ). c * x) (pow2_suc k) in omega (arith, low_suc n k)

wrote_first : (n c : ℕ) → wrote n 0 c ≡ c
wrote_first n c = omega arith

-- ---- what is written, and what is not

pub digit_here : (n k c : ℕ) → c < 2 → digit (wrote n k c) k ≡ c
digit_here n zero c h = digit_zero (wrote n 0 c) ∙ omega (arith, wrote_first n c)
digit_here n (suc k) c h = digit_suc (wrote n (suc k) c) k ∙ ap (λ (x : ℕ). digit x k) (wrote_half n k c) ∙ digit_here (n / 2) k c h

pub digit_below : (n k c j : ℕ) → j < k → digit (wrote n k c) j ≡ digit n j
digit_below n zero c j h = absurd (omega arith)
digit_below n (suc k) c zero h = digit_zero (wrote n (suc k) c) ∙ wrote_last n k c ∙ sym (digit_zero n)
digit_below n (suc k) c (suc j) h = digit_suc (wrote n (suc k) c) j ∙ ap (λ (x : ℕ). digit x j) (wrote_half n k c) ∙ digit_below (n / 2) k c j (omega arith) ∙ sym (digit_suc n j)

pub digit_above : (n k c j : ℕ) → c < 2 → k < j → digit (wrote n k c) j ≡ 0
digit_above n k c zero small h = absurd (omega arith)
digit_above n zero c (suc j) small h =
    let none : wrote n 0 c / 2 ≡ 0 = omega (arith, wrote_first n c) in
    digit_suc (wrote n 0 c) j ∙ ap (λ (x : ℕ). digit x j) none ∙ digit_none j
digit_above n (suc k) c (suc j) small h = digit_suc (wrote n (suc k) c) j ∙ ap (λ (x : ℕ). digit x j) (wrote_half n k c) ∙ digit_above (n / 2) k c j small (omega arith)

pub wrote_lt : (n k c : ℕ) → c < 2 → wrote n k c < 2 ^ suc k
wrote_lt n k c h =
    let most : c * 2 ^ k ≤ 1 * 2 ^ k = mul-le-mul_right (2 ^ k) (omega arith) in
    omega (arith, mod-lt n (pow2_pos k), pow2_suc k)

-- ---- a number below 2 ^ k is known by its k digits

pub same_digits : (k x y : ℕ) → x < 2 ^ k → y < 2 ^ k → ((j : ℕ) → j < k → digit x j ≡ digit y j) → x ≡ y
same_digits zero x y h l e = omega arith
same_digits (suc k) x y h l e =
    let half : x / 2 ≡ y / 2 = same_digits k (x / 2) (y / 2) (omega (arith, pow2_suc k)) (omega (arith, pow2_suc k)) (λ j b. sym (digit_suc x j) ∙ e (suc j) (omega arith) ∙ digit_suc y j) in
    let last : x % 2 ≡ y % 2 = sym (digit_zero x) ∙ e 0 (omega arith) ∙ digit_zero y in
    omega arith
