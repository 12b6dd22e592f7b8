-- The sum label by label: along each axis it is the sum modulo the cube's side, and a slot of a child cell is a part of a slot of its parent. Assumes nothing.
use mathlib.Core.Path.{◌≡◌, refl, sym, ap, ◌∙◌}
use mathlib.Core.List.{List}
use Prim.Native.Nat.{ℕ, zero, suc, ◌+◌, ◌-◌, ◌*◌, ◌/◌, ◌%◌, ◌^◌, ◌<◌, ◌≤◌, max}
use native.Mathlib.Nat.{sub-zero, mod-one, zero-mul, pow-zero, div-one, pow-suc, div-div-eq-div-mul, mul_comm}
use native.Mathlib.Omega.{arith}
use lib.Arith.{mod-mul}
use borrow.Author.Tests.{lt-ltb}
use Rattle.cells.specs.Place.{EachAxis, along}
use Rattle.cells.proofs.Places.{bit_of}
use Rattle.cells.proofs.Power.{pow8_pos, pow8_suc}
use Rattle.cells.proofs.Labelwise.{labelwise}
use Rattle.records.specs.Record.{black}
use Rattle.shifts.specs.LabelSums.{sum_label, carry_label, Uses}
use Rattle.shifts.specs.Shift.{shift, shifted, cell_of, need}
use Rattle.shifts.proofs.Bits.{same_label, zero_bit, sum_lt, sum_bit, carry_lt, carry_bit, join_lt, join_bit, uses_none, none_used, uses_carry}

-- ---- along an axis the shift is a sum, with what is lost out of the first label

pub shift_sum : (n w q v : ℕ) → (shift n w q v < 8 ^ n) × EachAxis (λ a. (l : ℕ) × (along (2 ^ a) n (shift n w q v) + l * 2 ^ n ≡ along (2 ^ a) n v + along (2 ^ a) n w + bit_of a q))
unfolding shift along
shift_sum n w q v =
    let x = labelwise {S = ℕ × ℕ × ℕ}
    (λ (w, q, v). sum_label (w % 8) (v % 8) q)
    (λ (w, q, v). (w / 8, carry_label (w % 8) (v % 8) q, v / 8))
    (λ n (w, q, v). shift n w q v)
    (λ a n (w, q, v). along (2 ^ a) n v + along (2 ^ a) n w + bit_of a q)
    (λ (w, q, v). sum_lt (w % 8) (v % 8) q) (λ s. refl) (λ n s. refl)
    (λ a h n (w, q, v). omega (arith, sum_bit (w % 8) (v % 8) q a h, carry_bit (w % 8) (v % 8) q a h)) n (w, q, v) in
    (x.0, λ a h. (_, x.1 a h))

-- within the root a voxel has its source's colour, past it none is black
pub shifted_in : (D : ℕ) (l : List ℕ) (w v : ℕ) → v < 8 ^ D → shifted D l w v ≡ black D l (shift D w 0 v)
unfolding shifted
shifted_in D l w v h = rw (lt-ltb v (8 ^ D) h)

-- ---- slots: the full adder

-- one level of the shift, from the last label up
shift_step : (j w q v : ℕ) → shift (suc j) w q v ≡ 8 * shift j (w / 8) (carry_label (w % 8) (v % 8) q) (v / 8) + sum_label (w % 8) (v % 8) q
unfolding shift
shift_step j w q v = refl

-- a division by 8 ^ n and one more by 8
pub div_up : (n v : ℕ) → v / 8 ^ n / 8 ≡ v / 8 ^ suc n
div_up n v = div-div-eq-div-mul v (8 ^ n) 8 ∙ ap (λ (m : ℕ). v / m) (sym (pow-suc 8 n))

-- the one source cell of the root's slots is the root
pub root_cell : (D w q : ℕ) → cell_of D w D 0 q ≡ 0
unfolding cell_of shift
root_cell D w q = let e : D - D ≡ 0 = omega arith in rw e

-- Slot q of child m is part `sum_label h m q` of slot `carry_label h m q` of the parent, h the shift's label there.
pub child_cell : (D w n c m q : ℕ) → n < D → m < 8 → cell_of D w n (8 * c + m) q ≡ 8 * cell_of D w (suc n) c (carry_label (w / 8 ^ n % 8) m q) + sum_label (w / 8 ^ n % 8) m q
unfolding cell_of
child_cell D w n c m q h k =
    let e : D - n ≡ suc (D - suc n) = omega arith in
    let a : (8 * c + m) / 8 ≡ c = omega arith in
    let b : (8 * c + m) % 8 ≡ m = omega arith in
    rw e (shift_step (D - suc n) (w / 8 ^ n) q (8 * c + m) ∙ rw (a, b, div_up n w))

-- ---- which slots a cell needs

pub need_lt : (n w : ℕ) → need n w < 8
unfolding need
need_lt zero w = omega arith
need_lt (suc n) w = join_lt (need n w) (w / 8 ^ n % 8)

-- the label that the last n labels of w and v carry out
unfoldable pub carry : ℕ → ℕ → ℕ → ℕ
carry zero w v = 0
carry (suc n) w v = carry_label (w / 8 ^ n % 8) (v / 8 ^ n % 8) (carry n w v)

pub need_carries : (n w v : ℕ) → Uses (need n w) (carry n w v)
unfolding need carry
need_carries zero w v = uses_none 0
need_carries (suc n) w v = uses_carry (need n w) (w / 8 ^ n % 8) (v / 8 ^ n % 8) (carry n w v) (need_carries n w v)

pub carries_lt : (n w v : ℕ) → carry n w v < 8
unfolding carry
carries_lt zero w v = omega arith
carries_lt (suc n) w v = carry_lt (w / 8 ^ n % 8) (v / 8 ^ n % 8) (carry n w v)

-- no axis, no carry
pub carry_none : (n w v : ℕ) → need n w ≡ 0 → carry n w v ≡ 0
carry_none n w v z = none_used (carry n w v) (carries_lt n w v) (rw z at (need_carries n w v))

-- a cell with a needed axis has children
pub needs_level : (n w : ℕ) → (need n w ≡ 0 → ⊥) → 1 ≤ n
unfolding need
needs_level zero w h = absurd (h refl)
needs_level (suc n) w h = omega arith

-- ---- the source of a voxel lies in the slot that its last labels carry to

pub source_cell : (D w n v : ℕ) → n ≤ D → shift D w 0 v / 8 ^ n ≡ cell_of D w n (v / 8 ^ n) (carry n w v)
unfolding cell_of carry
source_cell D w zero v h = simp (pow-zero, div-one, sub-zero)
source_cell D w (suc n) v h =
    let e : D - n ≡ suc (D - suc n) = omega arith in
    rw (← div_up n (shift D w 0 v), source_cell D w n v (omega arith), e, shift_step (D - suc n) (w / 8 ^ n) (carry n w v) (v / 8 ^ n), ← div_up n w, ← div_up n v)
    (omega (arith, sum_lt (w / 8 ^ n % 8) (v / 8 ^ n % 8) (carry n w v)))

-- ---- where the rest of the shift is 0, the one source cell is copied as it is

-- a label and no other: the label
sum_none : (m : ℕ) → m < 8 → sum_label 0 m 0 ≡ m
sum_none m h = same_label (sum_label 0 m 0) m (sum_lt 0 m 0) h (λ a l. omega (arith, sum_bit 0 m 0 a l, zero_bit a))

none_carried : (m : ℕ) → carry_label 0 m 0 ≡ 0
none_carried m = same_label (carry_label 0 m 0) 0 (carry_lt 0 m 0) (omega arith) (λ a l. omega (arith, carry_bit 0 m 0 a l, zero_bit a))

-- a number's last labels: the last, and those before it
last_labels : (n v : ℕ) → v % 8 + 8 * (v / 8 % 8 ^ n) ≡ v % 8 ^ suc n
last_labels n v = omega (arith, ap (λ (m : ℕ). v % m) (pow-suc 8 n), mod-mul v {m = 8 ^ n} {c = 8} (pow8_pos n) (omega arith), mul_comm (v / 8 % 8 ^ n) 8)

-- the last n labels of v stand, where those of w are 0
pub low_labels : (n D w v : ℕ) → n ≤ D → w % 8 ^ n ≡ 0 → shift D w 0 v % 8 ^ n ≡ v % 8 ^ n
low_labels zero D w v h z = simp (pow-zero, mod-one)
low_labels (suc n) zero w v h z = absurd (omega arith)
low_labels (suc n) (suc D) w v h z =
    let e : w % 8 + 8 * (w / 8 % 8 ^ n) ≡ 0 = last_labels n w ∙ z in
    let a : w % 8 ≡ 0 = omega arith in
    let b : w / 8 % 8 ^ n ≡ 0 = omega arith in
    let s = shift D (w / 8) 0 (v / 8) in
    let t : shift (suc D) w 0 v ≡ 8 * s + v % 8 = shift_step D w 0 v ∙ rw (a, none_carried (v % 8), sum_none (v % 8) (omega arith)) in
    let x : (8 * s + v % 8) / 8 ≡ s = omega arith in
    let y : (8 * s + v % 8) % 8 ≡ v % 8 = omega arith in
    rw t (sym (last_labels n (8 * s + v % 8)) ∙ rw (x, y, low_labels n D (w / 8) (v / 8) (omega arith) b) (last_labels n v))

-- no needed axis: the rest is 0
pub need_none : (n w : ℕ) → need n w ≡ 0 → w % 8 ^ n ≡ 0
unfolding need
need_none zero w h = simp (pow-zero, mod-one)
need_none (suc n) w h =
    let m = w / 8 ^ n % 8 in
    let both : (a : ℕ) → a < 3 → max (bit_of a (need n w)) (bit_of a m) ≡ 0 = λ a l. sym (join_bit (need n w) m a l) ∙ ap (bit_of a) h ∙ zero_bit a in
    let f0 : need n w ≡ 0 = same_label (need n w) 0 (need_lt n w) (omega arith) (λ a l. omega (arith, both a l, zero_bit a)) in
    let m0 : m ≡ 0 = same_label m 0 (omega arith) (omega arith) (λ a l. omega (arith, both a l, zero_bit a)) in
    ap (λ (x : ℕ). w % x) (pow8_suc n) ∙ mod-mul w {m = 8} {c = 8 ^ n} (omega arith) (pow8_pos n) ∙ rw (m0, need_none n w f0) (omega (arith, zero-mul (8 ^ n)))
