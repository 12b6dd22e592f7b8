-- Labels worked out one by one, from the last to the first, each with what the labels after it carry: along an axis that is a sum. Assumes nothing.
use Rattle.std.proofs.Common.{◌≡◌, ℕ, zero, suc, ◌+◌, ◌*◌, ◌/◌, ◌%◌, ◌^◌, ◌<◌, ◌∙◌, arith}
use native.Mathlib.Nat.{pow-zero}
use Rattle.cells.specs.Place.{EachAxis, along}
use Rattle.cells.proofs.Power.{pow8_suc}
use Rattle.cells.proofs.Places.{along_carry}

-- the state past n labels: its carry is lost
unfoldable pub past : {S : Type 0} → (S → S) → ℕ → S → S
past next zero s = s
past next (suc n) s = past next n (next s)

-- A state has a last label, and a state of the labels before it, with what is carried to them; `out n s` is the number of the n labels of the state s. Where a
-- state is worth, along each axis, its label's bit and twice the state before it, its labels and what is lost are worth that.
module _ {S : Type 0} (label : S → ℕ) (next : S → S) (out : ℕ → S → ℕ) (worth : ℕ → ℕ → S → ℕ) (low : (s : S) → label s < 8) (none : (s : S) → out 0 s ≡ 0)
    (step : (n : ℕ) (s : S) → out (suc n) s ≡ 8 * out n (next s) + label s) (sum : (a : ℕ) → a < 3 → (n : ℕ) (s : S) → worth a (suc n) s ≡ 2 * worth a n (next s) + label s / 2 ^ a % 2) where
  pub labelwise : (n : ℕ) (s : S) → (out n s < 8 ^ n) × EachAxis (λ a. along (2 ^ a) n (out n s) + worth a 0 (past next n s) * 2 ^ n ≡ worth a n s)
  unfolding along past
  labelwise zero s = (omega (arith, none s, pow-zero 8), λ a h. omega arith)
  labelwise (suc n) s =
      let (lt, ih) = labelwise n (next s) in (
        omega (arith, step n s, low s, pow8_suc n),
        λ a h. rw (step n s) (along_carry (2 ^ a) n (out n (next s)) (label s) (worth a 0 (past next n (next s))) (low s) ∙ omega (arith, ih a h, sum a h n s)),
      )
