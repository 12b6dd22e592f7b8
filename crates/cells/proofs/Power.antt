-- Powers of eight and of two, by their laws, at a variable exponent; and which of two numbers is the greater. Assumes nothing.
use Rattle.std.proofs.Common.{◌≡◌, ℕ, zero, suc, ◌-◌, ◌*◌, ◌/◌, ◌^◌, ◌<◌, ◌≤◌, ◌⊎◌, sym, refl, ap, ◌∙◌, inl, inr, le_of_eq, le_of_suc-le-suc, zero-lt-suc, mul_comm, add-sub_of_le, le_antisymm, pow-suc, lt_of_not-le, mul-suc, arith, pow-add}
use native.Mathlib.Nat.{one-le-pow, pow-le-pow_right, pow-succ', div-div-eq-div-mul}
use native.Mathlib.Decide.{dec_le}

pub le_or_lt : (a b : ℕ) → (a ≤ b) ⊎ (b < a)
le_or_lt a b = go (dec_le a b)
  where
    go : Dec (a ≤ b) → (a ≤ b) ⊎ (b < a)
    go (yes h) = inl h
    go (no n) = inr (lt_of_not-le n)

-- a cube of depth j is one of depth i, of cubes of depth j - i
pub pow_split : (b : ℕ) {i j : ℕ} → i ≤ j → b ^ i * b ^ (j - i) ≡ b ^ j
pow_split b {i} {j} h = sym (pow-add b i (j - i)) ∙ ap (λ (x : ℕ). b ^ x) (add-sub_of_le h)

-- ---- of two

pub pow2_pos : (n : ℕ) → 0 < 2 ^ n
pow2_pos n = one-le-pow n 2 (omega arith)

pub pow2_suc : (n : ℕ) → 2 ^ suc n ≡ 2 * 2 ^ n
pow2_suc n = pow-succ' 2 n

-- ---- of eight

pub pow8_pos : (n : ℕ) → 0 < 8 ^ n
pow8_pos n = one-le-pow n 8 (zero-lt-suc 7)

pub pow8_suc : (n : ℕ) → 8 ^ suc n ≡ 8 * 8 ^ n
pow8_suc n = pow-succ' 8 n

pub pow8_pred : (n : ℕ) → 0 < n → 8 ^ n ≡ 8 * 8 ^ (n - 1)
pow8_pred zero h = absurd (omega arith)
pow8_pred (suc n) h = let e : suc n - 1 ≡ n = omega arith in rw e (pow8_suc n)

pub pow8_mono : {i j : ℕ} → i ≤ j → 8 ^ i ≤ 8 ^ j
pow8_mono h = pow-le-pow_right (zero-lt-suc 7) h

pub pow8_lt : {i j : ℕ} → i < j → 8 ^ i < 8 ^ j
pow8_lt {i} {j} h = omega (arith, pow8_mono h, pow8_suc i, pow8_pos i)

-- the order of two powers is the order of their exponents
pub pow8_lt_inv : (i j : ℕ) → 8 ^ i < 8 ^ j → i < j
pow8_lt_inv i j h = lt_of_not-le (λ (g : j ≤ i). let m : 8 ^ j ≤ 8 ^ i = pow8_mono g in omega arith)

pub pow8_le_inv : (i j : ℕ) → 8 ^ i ≤ 8 ^ j → i ≤ j
pow8_le_inv i j h = le_of_suc-le-suc (lt_of_not-le (λ (g : suc j ≤ i). let m : 8 ^ j < 8 ^ i = pow8_lt g in omega arith))

pub pow8_inj : (i j : ℕ) → 8 ^ i ≡ 8 ^ j → i ≡ j
pow8_inj i j e = le_antisymm (pow8_le_inv i j (le_of_eq e)) (pow8_le_inv j i (le_of_eq (sym e)))

-- the greater power is a multiple of the smaller
pub pow8_split : {i j : ℕ} → i ≤ j → 8 ^ j ≡ 8 ^ (j - i) * 8 ^ i
pow8_split {i} {j} h = sym (pow_split 8 h) ∙ mul_comm (8 ^ i) (8 ^ (j - i))

-- the first division of n + 1
pub div_pow : (b n v : ℕ) → v / b ^ suc n ≡ v / b / b ^ n
div_pow b n v = ap (λ (m : ℕ). v / m) (pow-succ' b n) ∙ sym (div-div-eq-div-mul v b (b ^ n))

-- ---- both

-- three bits to a label
pub pow8_bits : (k : ℕ) → 2 ^ (3 * k) ≡ 8 ^ k
pow8_bits zero = refl
pow8_bits (suc k) = rw (mul-suc 3 k, pow-add 2 (3 * k) 3, pow8_bits k, pow-suc 8 k)
