-- Words and their bytes; a block's words carried from one function to another. Assumes nothing.
use Rattle.std.proofs.Common.{◌≡◌, ℕ, zero, suc, ◌+◌, ◌-◌, ◌*◌, ◌%◌, ◌^◌, ◌<◌, ◌≤◌, Bool, ◌&&◌, eqb, ◌⊎◌, List, get_or, refl, ap, ◌∙◌, subst, ap₂, inl, inr, arith}
use Rattle.cells.proofs.Power.{le_or_lt}
use Rattle.records.specs.Fault.{all_from}
use Rattle.blocks.specs.Block.{block_bytes, block_codes, word, check, sound_block}
use Rattle.blocks.specs.File.{byte_of}

-- ---- a word and its bytes

-- four bytes that are those of x make x
pub word_of_bytes : (b : List ℕ) (i w x : ℕ) → x < 2 ^ 32 → ((k : ℕ) → k < 4 → get_or b (block_bytes * i + 4 * w + k) 0 ≡ byte_of x k) → word b i w ≡ x
unfolding word byte_of
word_of_bytes b i w x h f =
    let zero' : get_or b (block_bytes * i + 4 * w) 0 ≡ x % 256 = ap (λ (n : ℕ). get_or b n 0) (none (block_bytes * i + 4 * w)) ∙ f 0 (omega arith) in
    omega (arith, f 1 (omega arith), f 2 (omega arith), f 3 (omega arith))
  where
    none : (n : ℕ) → n ≡ n + 0
    none n = omega arith

-- and a word's bytes are those that it is made of
pub bytes_of_word : (b : List ℕ) → ((k : ℕ) → get_or b k 0 < 256) → (i w k : ℕ) → k < 4 → byte_of (word b i w) k ≡ get_or b (block_bytes * i + 4 * w + k) 0
unfolding word byte_of
bytes_of_word b h i w zero l =
    ap (λ (n : ℕ). n) (omega (arith, h (block_bytes * i + 4 * w))) ∙ ap (λ (n : ℕ). get_or b n 0) (none (block_bytes * i + 4 * w))
  where
    none : (n : ℕ) → n ≡ n + 0
    none n = omega arith
bytes_of_word b h i w (suc zero) l = omega (arith, h (block_bytes * i + 4 * w), h (block_bytes * i + 4 * w + 1))
bytes_of_word b h i w (suc (suc zero)) l = omega (arith, h (block_bytes * i + 4 * w), h (block_bytes * i + 4 * w + 1), h (block_bytes * i + 4 * w + 2))
bytes_of_word b h i w (suc (suc (suc zero))) l = omega (arith, h (block_bytes * i + 4 * w), h (block_bytes * i + 4 * w + 1), h (block_bytes * i + 4 * w + 2), h (block_bytes * i + 4 * w + 3))
bytes_of_word b h i w (suc (suc (suc (suc k)))) l = absurd (omega arith)

pub word_small : (b : List ℕ) → ((k : ℕ) → get_or b k 0 < 256) → (i w : ℕ) → word b i w < 2 ^ 32
unfolding word
word_small b h i w = omega (arith, h (block_bytes * i + 4 * w), h (block_bytes * i + 4 * w + 1), h (block_bytes * i + 4 * w + 2), h (block_bytes * i + 4 * w + 3))

-- what holds of the words before the check and of the check's holds of all
pub each_word : (P : ℕ → Type 0) → ((w : ℕ) → w < 126 → P w) → P 126 → P 127 → (w : ℕ) → w < 128 → P w
each_word P p a b w h = go (le_or_lt 126 w) (le_or_lt 127 w)
  where
    go : (126 ≤ w) ⊎ (w < 126) → (127 ≤ w) ⊎ (w < 127) → P w
    go (inr x) y = p w x
    go (inl x) (inr y) = subst P (omega arith) a
    go (inl x) (inl y) = subst P (omega arith) b

-- ---- the check of the same words is the same

pub check_ext : (v v' : ℕ → ℕ) (n : ℕ) → ((k : ℕ) → k < n → v' k ≡ v k) → check v' n ≡ check v n
unfolding check
check_ext v v' zero f = refl
check_ext v v' (suc n) f = rw (check_ext v v' n (λ k h. f k (omega arith)), f n (omega arith))

pub check_small : (v : ℕ → ℕ) (n : ℕ) → ((check v n).a < 2 ^ 32) × ((check v n).b < 2 ^ 32)
unfolding check
check_small v zero = (omega arith, omega arith)
check_small v (suc n) = (omega arith, omega arith)

-- ---- a block of the same words is as sound

all_ext : (P Q : ℕ → Bool) (s n : ℕ) → ((w : ℕ) → s ≤ w → w < s + n → P w ≡ Q w) → all_from P s n ≡ all_from Q s n
unfolding all_from
all_ext P Q s zero f = refl
all_ext P Q s (suc n) f = ap₂ ◌&&◌ (f (s + n) (omega arith) (omega arith)) (all_ext P Q s n (λ w lo hi. f w lo (omega arith)))

pub sound_ext : (v v' : ℕ → ℕ) (i n D : ℕ) → ((w : ℕ) → w < 128 → v' w ≡ v w) → sound_block v' i n D ≡ sound_block v i n D
unfolding sound_block
sound_ext v v' i n D f =
    let zeros = all_ext (λ w. eqb (v' w) 0) (λ w. eqb (v w) 0) (4 + v 3) (block_codes - v 3) (λ w lo hi. ap (λ (x : ℕ). eqb x 0) (f w (omega arith))) in
    rw (f 0 (omega arith), f 1 (omega arith), f 2 (omega arith), f 3 (omega arith), zeros, f 126 (omega arith), f 127 (omega arith), check_ext v v' 126 (λ k h. f k (omega arith)))
