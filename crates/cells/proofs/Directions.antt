-- Steps and directions as numbers. Assumes nothing.
use Rattle.std.proofs.Common.{◌≡◌, ℕ, zero, suc, ◌+◌, ◌/◌, ◌%◌, ◌^◌, ◌<◌, ◌≤◌, ℤ, pos, negsuc, refl, ap, inl, inr, arith}
use Rattle.cells.specs.Inner.{IsStep}
use Rattle.cells.specs.Neighbour.{IsDirection}
use Rattle.cells.specs.Payeur.{digit_of, direction_of}
use Rattle.cells.specs.Place.{EachAxis}
use Rattle.cells.proofs.Integers.{above, below}
use Rattle.cells.proofs.Places.{each_axis}
use Rattle.cells.proofs.Rules.{forth}

-- ---- a step and its digit

digit_step : (z : ℤ) → digit_of z ≤ 2 → IsStep z
unfolding digit_of
digit_step (pos zero) h = inr (inl refl)
digit_step (pos (suc zero)) h = inr (inr refl)
digit_step (pos (suc (suc n))) h = absurd (omega arith)
digit_step (negsuc zero) h = inl refl
digit_step (negsuc (suc n)) h = absurd (omega arith)

step_digit : {z : ℤ} → IsStep z → digit_of z ≤ 2
unfolding digit_of
step_digit (inl e) = omega (arith, ap digit_of e)
step_digit (inr (inl e)) = omega (arith, ap digit_of e)
step_digit (inr (inr e)) = omega (arith, ap digit_of e)

-- the digit is the step with one added
pub forth_step : (z : ℤ) → digit_of z ≤ 2 → above z + 1 ≡ forth (digit_of z) + below z
unfolding digit_of
forth_step (pos zero) h = refl
forth_step (pos (suc zero)) h = refl
forth_step (pos (suc (suc n))) h = absurd (omega arith)
forth_step (negsuc zero) h = refl
forth_step (negsuc (suc n)) h = absurd (omega arith)

-- ---- a direction

module _ (d : ℕ → ℤ) where
  -- three steps, not all of them 0
  pub directed : EachAxis (λ a. digit_of (d a) ≤ 2) → (direction_of d ≡ 0 → ⊥) → IsDirection d
  unfolding digit_of
  directed h n = record { steps = λ a l. digit_step (d a) (h a l); some = λ none. n (omega (arith, still none 0 (omega arith), still none 1 (omega arith), still none 2 (omega arith))) }
    where
      still : EachAxis (λ a. d a ≡ pos 0) → EachAxis (λ a. digit_of (d a) ≡ 0)
      still none a l = ap digit_of (none a l)

-- the number of a direction: its digits are the steps
pub record Digits (d : ℕ → ℤ) : Type 0 where
  pub small : direction_of d < 27
  pub each : EachAxis (λ a. digit_of (d a) ≡ direction_of d / 3 ^ a % 3)

pub digits : (d : ℕ → ℤ) → IsDirection d → Digits d
digits d is =
    let x = step_digit (is.steps 0 (omega arith)) in
    let y = step_digit (is.steps 1 (omega arith)) in
    let z = step_digit (is.steps 2 (omega arith)) in
    record {
      small = omega arith;
      each = each_axis _ (omega arith) (omega arith) (omega arith);
    }
