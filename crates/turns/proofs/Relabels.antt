-- Laws of `relabel`, the labels of a number changed one by one: a cell and what lies in it, two changes one after the other, changes that agree. Assumes nothing.
use mathlib.Core.Path.{◌≡◌, refl, ap, ◌∙◌}
use Prim.Native.Nat.{ℕ, zero, suc, ◌+◌, ◌*◌, ◌/◌, ◌%◌, ◌^◌, ◌<◌, zero-le, suc-le-suc}
use native.Mathlib.Nat.{add-suc, add-zero, mul-one, pow-zero}
use native.Mathlib.Omega.{arith}
use Rattle.cells.proofs.Power.{pow8_suc}
use Rattle.turns.specs.Inner.{relabel}

-- a label more at the end
pub relabel_step : (f : ℕ → ℕ) (k b m : ℕ) → m < 8 → relabel f (suc k) (8 * b + m) ≡ 8 * relabel f k b + f m
unfolding relabel
relabel_step f k b m h =
    let p : (8 * b + m) / 8 ≡ b = omega arith in
    let q : (8 * b + m) % 8 ≡ m = omega arith in
    rw (p, q)

-- changes that agree on labels
pub relabel_same : (f g : ℕ → ℕ) → ((m : ℕ) → m < 8 → f m ≡ g m) → (k v : ℕ) → relabel f k v ≡ relabel g k v
unfolding relabel
relabel_same f g h zero v = refl
relabel_same f g h (suc k) v = omega (arith, relabel_same f g h k (v / 8), h (v % 8) (omega arith))

-- no change
pub relabel_none : (k v : ℕ) → v < 8 ^ k → relabel (λ m. m) k v ≡ v
unfolding relabel
relabel_none zero v h = let e : 8 ^ 0 ≡ 1 = refl in omega arith
relabel_none (suc k) v h = omega (arith, relabel_none k (v / 8) (omega (arith, pow8_suc k)))

module _ (f : ℕ → ℕ) (labels : (m : ℕ) → m < 8 → f m < 8) where
  pub relabel_lt : (k v : ℕ) → relabel f k v < 8 ^ k
  unfolding relabel
  relabel_lt zero v = suc-le-suc zero-le
  relabel_lt (suc k) v = omega (arith, pow8_suc k, relabel_lt k (v / 8), labels (v % 8) (omega arith))

  -- one change after the other
  pub relabel_then : (g : ℕ → ℕ) (k v : ℕ) → relabel g k (relabel f k v) ≡ relabel (λ m. g (f m)) k v
  unfolding relabel
  relabel_then g zero v = refl
  relabel_then g (suc k) v =
      relabel_step g k (relabel f k (v / 8)) (f (v % 8)) (labels (v % 8) (omega arith)) ∙ ap (λ (x : ℕ). 8 * x + g (f (v % 8))) (relabel_then g k (v / 8))

-- the place w in the cell i, which has n levels below it
pub relabel_within : (f : ℕ → ℕ) (k n i w : ℕ) → w < 8 ^ n → relabel f (k + n) (i * 8 ^ n + w) ≡ relabel f k i * 8 ^ n + relabel f n w
unfolding relabel
relabel_within f k zero i w h =
    let e : 8 ^ 0 ≡ 1 = refl in
    let p : i * 8 ^ 0 + w ≡ i = omega (arith, pow-zero 8, mul-one i) in
    rw (add-zero, p) (omega (arith, pow-zero 8, mul-one (relabel f k i)))
relabel_within f k (suc n) i w h =
    let e = ap (λ (x : ℕ). i * x) (pow8_suc n) in
    let v : i * 8 ^ suc n + w ≡ 8 * (i * 8 ^ n + w / 8) + w % 8 = omega arith in
    let ih = relabel_within f k n i (w / 8) (omega (arith, pow8_suc n)) in
    rw (add-suc, v) (relabel_step f (k + n) (i * 8 ^ n + w / 8) (w % 8) (omega arith) ∙ omega (arith, ih, ap (λ (x : ℕ). relabel f k i * x) (pow8_suc n)))
