-- INNER: for the contracts of this crate. Labels as sets of axes, and the sum of labels as a full adder: document 000's table 2, all three axes at once.
-- A label is a number below 8. Definitions only.
use Rattle.std.specs.Prelude.{ℕ, ◌+◌, ◌*◌, ◌/◌, ◌%◌, ◌^◌, ◌<◌, ◌≤◌, max}

-- the label whose bit on the axis b (1, 2 or 4) is f b
abbrev pub label : (ℕ → ℕ) → ℕ
label f = f 1 + 2 * f 2 + 4 * f 4

-- how many of three labels have the bit of the axis b
abbrev pub ones : ℕ → ℕ → ℕ → ℕ → ℕ
ones b h m q = h / b % 2 + m / b % 2 + q / b % 2

-- the label of the sum of three labels, and the label that they carry to the parent
unfoldable pub sum_label : ℕ → ℕ → ℕ → ℕ
sum_label h m q = label (λ b. ones b h m q % 2)

unfoldable pub carry_label : ℕ → ℕ → ℕ → ℕ
carry_label h m q = label (λ b. ones b h m q / 2)

-- the axes of either label
unfoldable pub join_label : ℕ → ℕ → ℕ
join_label f g = label (λ b. max (f / b % 2) (g / b % 2))

-- q has no axis but those of f
abbrev pub Uses : ℕ → ℕ → Type 0
Uses f q = (a : ℕ) → a < 3 → q / 2 ^ a % 2 ≤ f / 2 ^ a % 2
