-- The code's operators on labels, by a computed test of every case. Assumes nothing.
use mathlib.Core.Path.{◌≡◌, refl}
use mathlib.Core.Bool.{Bool, true}
use Prim.Native.Nat.{ℕ, ◌<◌, zero-le}
use native.Mathlib.Omega.{arith}
use lib.Bits.{bit_and, bit_or, bit_xor}
use lib.Dec.{eqb}
use borrow.Author.Tests.{eqb-true}
use Rattle.records.specs.Fault.{all_from}
use Rattle.records.proofs.Fill.{all_true}
use Rattle.shifts.specs.LabelSums.{sum_label, carry_label, join_label}

-- a test that holds of all labels holds of each
each : (P : ℕ → Bool) → all_from P 0 8 ≡ true → (h : ℕ) → h < 8 → P h ≡ true
each P e h l = all_true P 0 8 e h zero-le l

-- two functions of three labels that agree in a test of all cases
agree : (f g : ℕ → ℕ → ℕ → ℕ) → all_from (λ h. all_from (λ m. all_from (λ q. eqb (f h m q) (g h m q)) 0 8) 0 8) 0 8 ≡ true → (h m q : ℕ) → h < 8 → m < 8 → q < 8 → f h m q ≡ g h m q
agree f g e h m q a b c =
    let row : ℕ → ℕ → ℕ → Bool = λ h m q. eqb (f h m q) (g h m q) in
    eqb-true _ _ (each (row h m) (each (λ m. all_from (row h m) 0 8) (each (λ h. all_from (λ m. all_from (row h m) 0 8) 0 8) e h a) m b) q c)

pub xor_is : (h m q : ℕ) → h < 8 → m < 8 → q < 8 → bit_xor (bit_xor h m) q ≡ sum_label h m q
unfolding sum_label all_from
xor_is = agree (λ h m q. bit_xor (bit_xor h m) q) sum_label refl

pub majority_is : (h m q : ℕ) → h < 8 → m < 8 → q < 8 → bit_or (bit_or (bit_and h m) (bit_and h q)) (bit_and m q) ≡ carry_label h m q
unfolding carry_label all_from
majority_is = agree (λ h m q. bit_or (bit_or (bit_and h m) (bit_and h q)) (bit_and m q)) carry_label refl

pub or_is : (f g : ℕ) → f < 8 → g < 8 → bit_or f g ≡ join_label f g
unfolding join_label all_from
or_is f g a b = agree (λ f g _. bit_or f g) (λ f g _. join_label f g) refl f g 0 a b (omega arith)

-- what is a label is below 8
pub label_told : {r f : ℕ} → r ≡ f → f < 8 → (r ≡ f) × (r < 8)
label_told e h = (e, omega arith)
