-- The rule of document 01, "Moves", for one axis: what a unit step does to a label's bit on that axis, h, and what it carries to the parent.
-- A step is a digit: 0 for none, 1 for +1, 2 for -1. Definitions only.
use Rattle.std.specs.Prelude.{ℕ, zero, suc, ◌-◌}

-- a unit step flips the axis bit
abbrev pub flips : ℕ → ℕ → ℕ
flips h zero = h
flips h (suc s) = 1 - h

-- a carry goes to the parent, in the same direction, when the bit was 1 (positive step) or 0 (negative step)
abbrev pub carries : ℕ → ℕ → ℕ
carries h zero = 0
carries zero (suc zero) = 0
carries (suc h) (suc zero) = 1
carries zero (suc (suc s)) = 2
carries (suc h) (suc (suc s)) = 0
