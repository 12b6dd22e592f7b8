-- The bits of labels. An axis is a number a below 3; its bit in a label is 2 ^ a. Assumes nothing.
use mathlib.Core.Path.{◌≡◌, sym, ap, ◌∙◌}
use Prim.Native.Nat.{ℕ, ◌+◌, ◌*◌, ◌/◌, ◌%◌, ◌^◌, ◌<◌, max}
use native.Mathlib.Nat.{zero-div}
use native.Mathlib.Omega.{arith}
use Rattle.cells.proofs.Places.{bit_of, label_axes}
use Rattle.shifts.specs.LabelSums.{label, ones, sum_label, carry_label, join_label, Uses}

-- ---- a label by its bits

module _ (f : ℕ → ℕ) (two : (b : ℕ) → f b < 2) where
  pub label_lt : label f < 8
  label_lt = omega (arith, two 1, two 2, two 4)

  pub label_is : (a : ℕ) → a < 3 → bit_of a (label f) ≡ f (2 ^ a)
  label_is = label_axes (λ a. f (2 ^ a)) (λ a h. two (2 ^ a))

label_bits : (f : ℕ) → f < 8 → f / 1 % 2 + 2 * (f / 2 % 2) + 4 * (f / 4 % 2) ≡ f
label_bits f h = omega arith

-- a label is known by its bits
pub same_label : (f g : ℕ) → f < 8 → g < 8 → ((a : ℕ) → a < 3 → bit_of a f ≡ bit_of a g) → f ≡ g
same_label f g h k e =
    let x : f / 1 % 2 ≡ g / 1 % 2 = e 0 (omega arith) in
    let y : f / 2 % 2 ≡ g / 2 % 2 = e 1 (omega arith) in
    let z : f / 4 % 2 ≡ g / 4 % 2 = e 2 (omega arith) in
    sym (label_bits f h) ∙ rw (x, y, z) (label_bits g k)

-- ---- the adder, axis by axis

two_of : (x : ℕ) → x % 2 < 2
two_of x = omega arith

over_two : (x y z : ℕ) → (x % 2 + y % 2 + z % 2) / 2 < 2
over_two x y z = omega arith

max_two : (x y : ℕ) → max (x % 2) (y % 2) < 2
max_two x y = omega arith

module _ (h m q : ℕ) where
  pub sum_lt : sum_label h m q < 8
  unfolding sum_label
  sum_lt = label_lt (λ b. ones b h m q % 2) (λ b. two_of (ones b h m q))

  pub sum_bit : (a : ℕ) → a < 3 → bit_of a (sum_label h m q) ≡ ones (2 ^ a) h m q % 2
  unfolding sum_label
  sum_bit = label_is (λ b. ones b h m q % 2) (λ b. two_of (ones b h m q))

  pub carry_lt : carry_label h m q < 8
  unfolding carry_label
  carry_lt = label_lt (λ b. ones b h m q / 2) (λ b. over_two (h / b) (m / b) (q / b))

  pub carry_bit : (a : ℕ) → a < 3 → bit_of a (carry_label h m q) ≡ ones (2 ^ a) h m q / 2
  unfolding carry_label
  carry_bit = label_is (λ b. ones b h m q / 2) (λ b. over_two (h / b) (m / b) (q / b))

module _ (f g : ℕ) where
  pub join_lt : join_label f g < 8
  unfolding join_label
  join_lt = label_lt (λ b. max (f / b % 2) (g / b % 2)) (λ b. max_two (f / b) (g / b))

  pub join_bit : (a : ℕ) → a < 3 → bit_of a (join_label f g) ≡ max (bit_of a f) (bit_of a g)
  unfolding join_label
  join_bit = label_is (λ b. max (f / b % 2) (g / b % 2)) (λ b. max_two (f / b) (g / b))

-- ---- which axes are used

pub zero_bit : (a : ℕ) → bit_of a 0 ≡ 0
zero_bit a = ap (λ (n : ℕ). n % 2) (zero-div (2 ^ a))

pub uses_none : (f : ℕ) → Uses f 0
uses_none f a h = omega (arith, zero_bit a)

-- nothing is used where there is no axis
pub none_used : (q : ℕ) → q < 8 → Uses 0 q → q ≡ 0
none_used q h u = same_label q 0 h (omega arith) (λ a l. let x = u a l in omega (arith, zero_bit a))

-- what is carried uses the axes of the shift's label and those of the carry before
pub uses_carry : (f h m q : ℕ) → Uses f q → Uses (join_label f h) (carry_label h m q)
uses_carry f h m q u a l = let x = u a l in omega (arith, carry_bit h m q a l, join_bit f h a l)

-- a union that adds nothing
pub uses_of : (f q : ℕ) → join_label f q ≡ f → Uses f q
uses_of f q e a l = omega (arith, join_bit f q a l, ap (bit_of a) e)

pub uses_join : (f q : ℕ) → f < 8 → Uses f q → join_label f q ≡ f
uses_join f q h u = same_label (join_label f q) f (join_lt f q) h (λ a l. let x = u a l in omega (arith, join_bit f q a l))
