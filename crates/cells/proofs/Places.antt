-- Laws of `along` and `number`: they are inverse to each other, and a coarser cube's are those of the finer one divided.
-- An axis is a number a below 3: x, y, z. Its bit in a label is 2 ^ a. Assumes nothing.
use Rattle.std.proofs.Common.{◌≡◌, ℕ, zero, suc, ◌+◌, ◌-◌, ◌*◌, ◌/◌, ◌%◌, ◌^◌, ◌<◌, Bool, true, false, ◌&&◌, sym, refl, ap, ◌∙◌, ⊎_elim, suc-le-suc, zero-le, add-zero, add-suc, mul-one, div-one, arith}
use native.Mathlib.Nat.{pow-zero, zero-div}
use Rattle.cells.specs.Place.{EachAxis, all_axes, along, number}
use Rattle.cells.proofs.Bools.{both_true, one_false}
use Rattle.cells.proofs.Power.{pow2_suc, pow8_pos, pow8_suc, div_pow}

-- what holds of x, y and z holds of each axis
pub each_axis : (P : ℕ → Type 0) → P 0 → P 1 → P 2 → EachAxis P
each_axis P x y z zero h = x
each_axis P x y z (suc zero) h = y
each_axis P x y z (suc (suc zero)) h = z
each_axis P x y z (suc (suc (suc a))) h = absurd (omega arith)

-- a test of all three axes, by each
pub each_true : (P : ℕ → Bool) → all_axes P ≡ true → EachAxis (λ a. P a ≡ true)
each_true P e =
    let t = both_true (P 0) (P 1 && P 2) e in
    let u = both_true (P 1) (P 2) t.1 in
    each_axis _ t.0 u.0 u.1

pub some_false : (P : ℕ → Bool) → all_axes P ≡ false → (a : ℕ) × (a < 3) × (P a ≡ false)
some_false P e =
    ⊎_elim (λ f. (0, omega arith, f)) (λ g. ⊎_elim (λ f. (1, omega arith, f)) (λ f. (2, omega arith, f)) (one_false (P 1) (P 2) g)) (one_false (P 0) (P 1 && P 2) e)

-- ---- ranges

pub along_lt : (b n v : ℕ) → along b n v < 2 ^ n
unfolding along
along_lt b zero v = suc-le-suc zero-le
along_lt b (suc n) v = omega (arith, pow2_suc n, along_lt b n (v / 8))

pub number_lt : (n x y z : ℕ) → number n x y z < 8 ^ n
unfolding number
number_lt zero x y z = suc-le-suc zero-le
number_lt (suc n) x y z = omega (arith, pow8_suc n, number_lt n (x / 2) (y / 2) (z / 2))

-- ---- inverse to each other

-- one level: a number's halves and its last label
pub number_step : (n a b c i j k : ℕ) → i < 2 → j < 2 → k < 2 → number (suc n) (2 * a + i) (2 * b + j) (2 * c + k) ≡ 8 * number n a b c + (i + 2 * j + 4 * k)
unfolding number
number_step n a b c i j k hi hj hk =
    let p : (2 * a + i) / 2 ≡ a = omega arith in
    let q : (2 * b + j) / 2 ≡ b = omega arith in
    let r : (2 * c + k) / 2 ≡ c = omega arith in
    rw (p, q, r) (omega arith)

pub along_step : (b n m w : ℕ) → w < 8 → along b (suc n) (8 * m + w) ≡ 2 * along b n m + w / b % 2
unfolding along
along_step b n m w h =
    let p : (8 * m + w) / 8 ≡ m = omega arith in
    let q : (8 * m + w) % 8 ≡ w = omega arith in
    rw (p, q)

-- a label more in a sum along an axis, where l is what is carried out of the first label
pub along_carry : (b n s t l : ℕ) → t < 8 → along b (suc n) (8 * s + t) + l * 2 ^ suc n ≡ 2 * (along b n s + l * 2 ^ n) + t / b % 2
along_carry b n s t l h = omega (arith, along_step b n s t h, ap (λ (x : ℕ). l * x) (pow2_suc n))

pub number_along : (n v : ℕ) → v < 8 ^ n → number n (along 1 n v) (along 2 n v) (along 4 n v) ≡ v
unfolding number along
number_along zero v h = let e : 8 ^ 0 ≡ 1 = refl in omega arith
number_along (suc n) v h =
    let ih = number_along n (v / 8) (omega (arith, pow8_suc n)) in
    number_step n (along 1 n (v / 8)) (along 2 n (v / 8)) (along 4 n (v / 8)) (v % 8 / 1 % 2) (v % 8 / 2 % 2) (v % 8 / 4 % 2) (omega arith) (omega arith) (omega arith)
    ∙ omega (arith, ih)

-- a voxel is known by its coordinates
pub same_voxel : (n u v : ℕ) → u < 8 ^ n → v < 8 ^ n → EachAxis (λ a. along (2 ^ a) n u ≡ along (2 ^ a) n v) → u ≡ v
same_voxel n u v hu hv e =
    let x : along 1 n u ≡ along 1 n v = e 0 (omega arith) in
    let y : along 2 n u ≡ along 2 n v = e 1 (omega arith) in
    let z : along 4 n u ≡ along 4 n v = e 2 (omega arith) in
    sym (number_along n u hu) ∙ rw (x, y, z) (number_along n v hv)

-- a label's bit on axis a
abbrev pub bit_of : ℕ → ℕ → ℕ
bit_of a v = v / 2 ^ a % 2

-- it is that axis's
pub label_axes : (f : ℕ → ℕ) → EachAxis (λ a. f a < 2) → EachAxis (λ a. bit_of a (f 0 + 2 * f 1 + 4 * f 2) ≡ f a)
label_axes f h =
    let x = h 0 (omega arith) in
    let y = h 1 (omega arith) in
    let z = h 2 (omega arith) in
    each_axis _ (omega arith) (omega arith) (omega arith)

-- and the coordinates of a voxel are those that its number was made of
pub along_axes : (n : ℕ) (x : ℕ → ℕ) → EachAxis (λ a. x a < 2 ^ n) → EachAxis (λ a. along (2 ^ a) n (number n (x 0) (x 1) (x 2)) ≡ x a)
unfolding number along
along_axes zero x s a h = let e : 2 ^ 0 ≡ 1 = refl in omega (arith, s a h)
along_axes (suc n) x s a h =
    let ih = along_axes n (λ a. x a / 2) (λ a h. omega (arith, s a h, pow2_suc n)) a h in
    let b = label_axes (λ a. x a % 2) (λ a h. omega arith) a h in
    along_step (2 ^ a) n (number n (x 0 / 2) (x 1 / 2) (x 2 / 2)) (x 0 % 2 + 2 * (x 1 % 2) + 4 * (x 2 % 2)) (omega arith)
    ∙ omega (arith, ih, b)

-- ---- a coarser cube, of n levels fewer: its cells are the finer one's voxels divided

pub along_div : (b k n v : ℕ) → along b (k + n) v / 2 ^ n ≡ along b k (v / 8 ^ n)
unfolding along
along_div b k zero v = simp (add-zero, pow-zero, div-one)
along_div b k (suc n) v =
    let half : (2 * along b (k + n) (v / 8) + v % 8 / b % 2) / 2 ≡ along b (k + n) (v / 8) = omega arith in
    rw (add-suc, div_pow 2 n, half, div_pow 8 n) (along_div b k n (v / 8))

-- ---- the first voxel of a cell of level k, n levels above the voxels

pub along_first : (b k n i : ℕ) → along b (k + n) (i * 8 ^ n) ≡ along b k i * 2 ^ n
unfolding along
along_first b k zero i = simp (add-zero, pow-zero, mul-one)
along_first b k (suc n) i =
    let e : i * 8 ^ suc n ≡ 8 * (i * 8 ^ n) + 0 = omega (arith, ap (λ (x : ℕ). i * x) (pow8_suc n)) in
    let z : 0 / b % 2 ≡ 0 = ap (λ (n : ℕ). n % 2) (zero-div b) in
    rw (add-suc, e) (along_step b (k + n) (i * 8 ^ n) 0 (omega arith) ∙ omega (arith, z, along_first b k n i, ap (λ (x : ℕ). along b k i * x) (pow2_suc n)))

-- and its last voxel, whose labels within the cell are all 7
all_bits : EachAxis (λ a. 7 / 2 ^ a % 2 ≡ 1)
all_bits = each_axis _ refl refl refl

pub along_last : (a : ℕ) → a < 3 → (k n i : ℕ) → along (2 ^ a) (k + n) (i * 8 ^ n + (8 ^ n - 1)) + 1 ≡ along (2 ^ a) k i * 2 ^ n + 2 ^ n
unfolding along
along_last a h k zero i =
    let e : i * 8 ^ 0 + (8 ^ 0 - 1) ≡ i = omega (arith, pow-zero 8) in
    rw (add-zero k, e, pow-zero) (omega arith)
along_last a h k (suc n) i =
    let v : ℕ = i * 8 ^ n + (8 ^ n - 1) in
    let e : i * 8 ^ suc n + (8 ^ suc n - 1) ≡ 8 * v + 7 = omega (arith, pow8_suc n, pow8_pos n, ap (λ (x : ℕ). i * x) (pow8_suc n)) in
    rw (add-suc k n, e)
    (omega (arith, along_step (2 ^ a) (k + n) v 7 (omega arith), all_bits a h, along_last a h k n i, pow2_suc n, ap (λ (x : ℕ). along (2 ^ a) k i * x) (pow2_suc n)))

-- ---- the definitions as the code takes them: none at 0, and a step at n > 0

pub along_none : (b n v : ℕ) → n ≡ 0 → 0 ≡ along b n v
unfolding along
along_none b n v e = rw e

pub along_rec : (b n v : ℕ) → 0 < n → 2 * along b (n - 1) (v / 8) + v % 8 / b % 2 ≡ along b n v
unfolding along
along_rec b zero v h = absurd (omega arith)
along_rec b (suc n) v h = let e : suc n - 1 ≡ n = omega arith in rw e

pub number_none : (n x y z : ℕ) → n ≡ 0 → 0 ≡ number n x y z
unfolding number
number_none n x y z e = rw e

pub number_rec : (n x y z : ℕ) → 0 < n → 8 * number (n - 1) (x / 2) (y / 2) (z / 2) + (x % 2 + 2 * (y % 2) + 4 * (z % 2)) ≡ number n x y z
unfolding number
number_rec zero x y z h = absurd (omega arith)
number_rec (suc n) x y z h = let e : suc n - 1 ≡ n = omega arith in rw e
