-- Sums along one axis on the bits of that axis, all other bits filled with ones, so that the carry of a wrapping sum runs through them: in a word of any width that is
-- document 000's sum, label by label, and so the sum of the coordinate. An axis is a number a below 3: x, y, z; its bit in a label is 2 ^ a.
-- Assumes nothing.
use Rattle.std.proofs.Common.{◌≡◌, ℕ, zero, suc, ◌+◌, ◌-◌, ◌*◌, ◌/◌, ◌%◌, ◌^◌, ◌<◌, ◌≤◌, eqb, sym, refl, ap, ◌∙◌, ap₂, lt_of_le_of_lt, mod-eq_of_lt, div-add-mod', arith, eqb→eq}
use native.Mathlib.Nat.{mul-add-mod_self_right}
use lib.Bits.{bit_and, bit_or, and_le_r, and_lt, and_zero_r, and_mask, and_mod, and_block, or_block}
use lib.Pow.{mod-mod-pow, ones_split}
use Rattle.cells.specs.AhujaNash.{plus, added}
use Rattle.cells.specs.Inner.{in_each}
use Rattle.cells.specs.Place.{EachAxis, along}
use Rattle.cells.proofs.Places.{each_axis, along_step, bit_of}
use Rattle.cells.proofs.Power.{pow2_pos, pow2_suc, pow8_bits, pow8_suc}
use Rattle.cells.proofs.Sums.{new, out, label_sum}
use Rattle.cells.proofs.Table.{at2, at4}

-- ---- the same label n times

-- the labels 11..1, seven times and one more, are a one before n zeros
pub each_one : (n : ℕ) → 7 * in_each 1 n + 1 ≡ 8 ^ n
unfolding in_each
each_one zero = refl
each_one (suc n) = omega (arith, each_one n, pow8_suc n)

pub each_times : (b n : ℕ) → in_each b n ≡ b * in_each 1 n
unfolding in_each
each_times b zero = omega arith
each_times b (suc n) = omega (arith, each_times b n)

-- an axis's bit is one of a label's three
axis_low : EachAxis (λ a. 2 ^ a ≤ 7)
axis_low = each_axis _ (omega arith) (omega arith) (omega arith)

-- the axis's bits and the others are all bits of n labels
both_bits : (a : ℕ) → a < 3 → (n : ℕ) → in_each (2 ^ a) n + in_each (7 - 2 ^ a) n + 1 ≡ 8 ^ n
unfolding in_each
both_bits a h zero = refl
both_bits a h (suc n) = omega (arith, both_bits a h n, pow8_suc n, axis_low a h)

-- ---- the number t on the axis's bits of n labels

unfoldable pub spread : ℕ → ℕ → ℕ → ℕ
spread a zero t = 0
spread a (suc n) t = spread a n (t / 2) * 8 + 2 ^ a * (t % 2)

-- none of them, and all of them
pub spread_none : (a n : ℕ) → spread a n 0 ≡ 0
unfolding spread
spread_none a zero = refl
spread_none a (suc n) = omega (arith, spread_none a n)

pub spread_all : (a n : ℕ) → spread a n (2 ^ n - 1) ≡ in_each (2 ^ a) n
unfolding spread in_each
spread_all a zero = refl
spread_all a (suc n) =
    let half : (2 ^ suc n - 1) / 2 ≡ 2 ^ n - 1 = omega (arith, pow2_suc n, pow2_pos n) in
    let odd : (2 ^ suc n - 1) % 2 ≡ 1 = omega (arith, pow2_suc n, pow2_pos n) in
    rw (half, odd) (omega (arith, spread_all a n))

module _ (a : ℕ) (axis : a < 3) where
  -- a bit of the axis, of a label that has no other
  bit_alone : (h : ℕ) → h < 2 → bit_of a (2 ^ a * h) ≡ h
  bit_alone h l = eqb→eq _ _ (at2 (λ a h. eqb (bit_of a (2 ^ a * h)) h) 3 2 tt a h axis l)

  -- along the axis that is the number
  pub along_spread : (n x : ℕ) → x < 2 ^ n → along (2 ^ a) n (spread a n x) ≡ x
  unfolding along spread
  along_spread zero x h = let e : 2 ^ 0 ≡ 1 = refl in omega arith
  along_spread (suc n) x h =
      let w : 2 ^ a * (x % 2) < 8 = bit_low (x % 2) (omega arith) in
      let s : spread a n (x / 2) * 8 + 2 ^ a * (x % 2) ≡ 8 * spread a n (x / 2) + 2 ^ a * (x % 2) = omega arith in
      ap (along (2 ^ a) (suc n)) s ∙ along_step (2 ^ a) n (spread a n (x / 2)) (2 ^ a * (x % 2)) w
      ∙ omega (arith, along_spread n (x / 2) (omega (arith, pow2_suc n)), bit_alone (x % 2) (omega arith))
    where
      bit_low : (h : ℕ) → h < 2 → 2 ^ a * h < 8
      bit_low zero l = omega arith
      bit_low (suc zero) l = omega (arith, axis_low a axis)
      bit_low (suc (suc h)) l = absurd (omega arith)

  -- the axis's bit of a label, masked
  bit_masked : (v : ℕ) → v < 8 → bit_and v (2 ^ a) ≡ 2 ^ a * bit_of a v
  bit_masked v l = eqb→eq _ _ (at2 (λ a v. eqb (bit_and v (2 ^ a)) (2 ^ a * bit_of a v)) 3 8 tt a v axis l)

  -- the axis's bits of labels are the coordinate
  masked_along : (n v : ℕ) → bit_and v (in_each (2 ^ a) n) ≡ spread a n (along (2 ^ a) n v)
  unfolding along spread in_each
  masked_along zero v = and_zero_r v
  masked_along (suc n) v =
      let A : ℕ = along (2 ^ a) n (v / 8) in
      let h : ℕ = bit_of a (v % 8) in
      let half : (2 * A + h) / 2 ≡ A = omega arith in
      let odd : (2 * A + h) % 2 ≡ h = omega arith in
      ap (λ (x : ℕ). bit_and x (in_each (2 ^ a) n * 8 + 2 ^ a)) (sym (div-add-mod' v 8))
      ∙ and_block 3 (v / 8) (in_each (2 ^ a) n) (v % 8) (2 ^ a) (omega arith) (omega (arith, axis_low a axis))
      ∙ rw (half, odd) (omega (arith, masked_along n (v / 8), bit_masked (v % 8) (omega arith)))

  -- ---- one label: a bit t and a carry c are added to it, its other bits filled

  abbrev other : ℕ
  other = 7 - 2 ^ a

  abbrev filled : ℕ → ℕ → ℕ → ℕ
  filled v t c = bit_or v other + (2 ^ a * t + c)

  label_new : (v t c : ℕ) → v < 8 → t < 2 → c < 2 → bit_or (bit_and (filled v t c % 8) (2 ^ a)) (bit_and v other) ≡ new a v t c
  unfolding plus
  label_new v t c hv ht hc =
      eqb→eq _ _ (at4 (λ a v t c. eqb (bit_or (bit_and ((bit_or v (7 - 2 ^ a) + (2 ^ a * t + c)) % 8) (2 ^ a)) (bit_and v (7 - 2 ^ a))) (new a v t c)) 3 8 2 2 tt a v t c axis hv ht hc)

  label_out : (v t c : ℕ) → v < 8 → t < 2 → c < 2 → filled v t c / 8 ≡ out a v t c
  unfolding plus
  label_out v t c hv ht hc = eqb→eq _ _ (at4 (λ a v t c. eqb ((bit_or v (7 - 2 ^ a) + (2 ^ a * t + c)) / 8) (out a v t c)) 3 8 2 2 tt a v t c axis hv ht hc)

  -- ---- n labels

  labels_added : (n v t c : ℕ) → c < 2
      → bit_or (bit_and (bit_or v (in_each other n) + (spread a n t + c)) (in_each (2 ^ a) n)) (bit_and v (in_each other n)) ≡ added a n v t c
  unfolding in_each spread added
  labels_added zero v t c h = ap₂ bit_or (and_zero_r (bit_or v 0 + (0 + c))) (and_zero_r v)
  labels_added (suc n) v t c h =
      let r : ℕ = v % 8 in
      let O : ℕ = bit_or (v / 8) (in_each other n) in
      let S : ℕ = spread a n (t / 2) in
      let q : ℕ = filled r (t % 2) c in
      let low : 2 ^ a < 8 = omega (arith, axis_low a axis) in
      let parts = sym (div-add-mod' v 8) in
      let up : bit_or v (in_each other n * 8 + other) ≡ O * 8 + bit_or r other =
      ap (λ (x : ℕ). bit_or x (in_each other n * 8 + other)) parts ∙ or_block 3 (v / 8) (in_each other n) r other (omega arith) (omega arith) in
      let sum : bit_or v (in_each other n * 8 + other) + (S * 8 + 2 ^ a * (t % 2) + c) ≡ (O + (S + q / 8)) * 8 + q % 8 = omega (arith, up) in
      let x = ap (λ (x : ℕ). bit_and x (in_each (2 ^ a) n * 8 + 2 ^ a)) sum ∙ and_block 3 (O + (S + q / 8)) (in_each (2 ^ a) n) (q % 8) (2 ^ a) (omega arith) low in
      let y = ap (λ (x : ℕ). bit_and x (in_each other n * 8 + other)) parts ∙ and_block 3 (v / 8) (in_each other n) r other (omega arith) (omega arith) in
      let carry = label_out r (t % 2) c (omega arith) (omega arith) h in
      let small = (label_sum a r (t % 2) c axis (omega arith) (omega arith) h).carry in
      let rest = labels_added n (v / 8) (t / 2) (q / 8) (omega arith) ∙ ap (added a n (v / 8) (t / 2)) carry in
      ap₂ bit_or x y
      ∙ or_block 3 (bit_and (O + (S + q / 8)) (in_each (2 ^ a) n)) (bit_and (v / 8) (in_each other n)) (bit_and (q % 8) (2 ^ a)) (bit_and r other)
      (and_lt 3 (q % 8) (2 ^ a) (omega arith) low) (and_lt 3 r other (omega arith) (omega arith))
      ∙ omega (arith, rest, label_new r (t % 2) c (omega arith) (omega arith) h)

-- ---- a word

-- a mask of K bits sees no more of a number
and_low : (K x M : ℕ) → M < 2 ^ K → bit_and x M ≡ bit_and (x % 2 ^ K) M
and_low K x M h = sym (mod-eq_of_lt (lt_of_le_of_lt (and_le_r x M) h)) ∙ and_mod x M K ∙ ap (bit_and (x % 2 ^ K)) (mod-eq_of_lt h)

-- A word of m + K bits with its leading one at place K, and K bits i after it; of those M are the axis's and N the others. Filled but for M, with s added, the sum taken at
-- M and the rest kept, it has its leading one, and the K bits are worked out as by themselves.
module _ (m K i M N s : ℕ) (some : 0 < m) (low : i < 2 ^ K) (both : M + N + 1 ≡ 2 ^ K) where
  abbrev H : ℕ
  H = 2 ^ m - 1

  abbrev not_M : ℕ
  not_M = 2 ^ (m + K) - 1 - M

  not_parts : not_M ≡ H * 2 ^ K + N
  not_parts = omega (arith, ones_split m K)

  one_parts : 2 ^ K + i ≡ 1 * 2 ^ K + i
  one_parts = omega arith

  -- the filled word with s added, as the mask sees it
  word_sum : bit_and ((bit_or (2 ^ K + i) not_M + s) % 2 ^ (m + K)) M ≡ bit_and (bit_or i N + s) M
  word_sum =
      let X : ℕ = bit_or (2 ^ K + i) not_M + s in
      let Y : ℕ = bit_or i N + s in
      let up : X ≡ bit_or 1 H * 2 ^ K + Y = omega (arith, ap₂ bit_or one_parts not_parts ∙ or_block K 1 H i N low (omega arith)) in
      let same : X % 2 ^ (m + K) % 2 ^ K ≡ Y % 2 ^ K = mod-mod-pow X m K ∙ ap (λ (x : ℕ). x % 2 ^ K) up ∙ mul-add-mod_self_right (bit_or 1 H) (2 ^ K) Y in
      and_low K (X % 2 ^ (m + K)) M (omega arith) ∙ ap (λ (x : ℕ). bit_and x M) same ∙ sym (and_low K Y M (omega arith))

  -- the bits that are kept
  word_kept : bit_and (2 ^ K + i) not_M ≡ 1 * 2 ^ K + bit_and i N
  word_kept =
      let two : 1 < 2 ^ m = go m some in
      ap₂ bit_and one_parts not_parts ∙ and_block K 1 H i N low (omega arith) ∙ ap (λ (x : ℕ). x * 2 ^ K + bit_and i N) (and_mask 1 m ∙ mod-eq_of_lt two)
    where
      go : (n : ℕ) → 0 < n → 1 < 2 ^ n
      go zero h = absurd (omega arith)
      go (suc n) h = omega (arith, pow2_suc n, pow2_pos n)

  word_added : bit_or (bit_and ((bit_or (2 ^ K + i) not_M + s) % 2 ^ (m + K)) M) (bit_and (2 ^ K + i) not_M) ≡ 2 ^ K + bit_or (bit_and (bit_or i N + s) M) (bit_and i N)
  word_added =
      let A : ℕ = bit_and (bit_or i N + s) M in
      let C : ℕ = bit_and i N in
      let a : bit_and ((bit_or (2 ^ K + i) not_M + s) % 2 ^ (m + K)) M ≡ 0 * 2 ^ K + A = omega (arith, word_sum) in
      ap₂ bit_or a word_kept
      ∙ or_block K 0 1 A C (lt_of_le_of_lt (and_le_r (bit_or i N + s) M) (omega arith)) (lt_of_le_of_lt (and_le_r i N) (omega arith))
      ∙ omega arith

-- ---- a code of k labels i

module _ (k i a : ℕ) (labels : i < 8 ^ k) (axis : a < 3) where
  abbrev M : ℕ
  M = in_each (2 ^ a) k

  -- THE LAW, in a word of w bits: the sum on the bits of the axis, the other bits filled, is document 000's sum along that axis
  pub dilated : (w m : ℕ) → m + 3 * k ≡ w → 0 < m → (t c : ℕ) → c < 2
      → bit_or (bit_and ((bit_or (8 ^ k + i) (2 ^ w - 1 - M) + (spread a k t + c)) % 2 ^ w) M) (bit_and (8 ^ k + i) (2 ^ w - 1 - M)) ≡ 8 ^ k + added a k i t c
  dilated w m wide some t c h =
      rw (← wide, ← pow8_bits k)
      (word_added m (3 * k) i M (in_each (7 - 2 ^ a) k) (spread a k t + c) some (rw pow8_bits labels) (both_bits a axis k ∙ sym (pow8_bits k))
      ∙ ap (λ (x : ℕ). 2 ^ (3 * k) + x) (labels_added a axis k i t c h))

  -- the bits of the axis are the coordinate
  pub masked : bit_and (8 ^ k + i) M ≡ spread a k (along (2 ^ a) k i)
  masked =
      let low : M < 2 ^ (3 * k) = rw pow8_bits (omega (arith, both_bits a axis k)) in
      let rest : (8 ^ k + i) % 2 ^ (3 * k) ≡ i % 2 ^ (3 * k) = ap (λ (x : ℕ). (x + i) % 2 ^ (3 * k)) (sym (pow8_bits k) ∙ omega arith) ∙ mul-add-mod_self_right 1 (2 ^ (3 * k)) i in
      and_low (3 * k) (8 ^ k + i) M low ∙ ap (λ (x : ℕ). bit_and x M) rest ∙ sym (and_low (3 * k) i M low) ∙ masked_along a axis k i
