-- The first number below n that has P: there is one at most, and one or none where P is decided. Assumes nothing.
use Rattle.std.proofs.Common.{◌≡◌, ℕ, zero, suc, ◌<◌, ◌≤◌, Bool, true, false, ◌⊎◌, refl, inl, inr, ⊎_elim, le_refl, le_of_suc-le-suc, eq-or-lt_of_le, arith}
use Rattle.cells.specs.Answer.{First}
use Rattle.cells.proofs.Bools.{clash}
use Rattle.cells.proofs.Power.{le_or_lt}

pub one_first : {n : ℕ} {P : ℕ → Type 0} (i j : ℕ) → First n P i → First n P j → i ≡ j
one_first i j p q = go (le_or_lt i j) (le_or_lt j i)
  where
    go : (i ≤ j) ⊎ (j < i) → (j ≤ i) ⊎ (i < j) → i ≡ j
    go (inl h) (inl k) = omega arith
    go (inr h) k = absurd (p.before j h q.here)
    go (inl h) (inr k) = absurd (q.before i k p.here)

-- one number more
pub first_more : {n m : ℕ} {P : ℕ → Type 0} {i : ℕ} → n ≤ m → First n P i → First m P i
first_more h f = record { below = omega (arith, f.below); here = f.here; before = f.before }

pub first_or_none : (P : ℕ → Type 0) → ((j : ℕ) → P j ⊎ (P j → ⊥)) → (n : ℕ) → ((i : ℕ) × First n P i) ⊎ ((j : ℕ) → j < n → P j → ⊥)
first_or_none P decide zero = inr (λ j h. absurd (omega arith))
first_or_none P decide (suc n) = go (first_or_none P decide n) (decide n)
  where
    go : ((i : ℕ) × First n P i) ⊎ ((j : ℕ) → j < n → P j → ⊥) → P n ⊎ (P n → ⊥) → ((i : ℕ) × First (suc n) P i) ⊎ ((j : ℕ) → j < suc n → P j → ⊥)
    go (inl (i, f)) d = inl (i, first_more (omega arith) f)
    go (inr none) (inl p) = inl (n, record { below = le_refl (suc n); here = p; before = none })
    go (inr none) (inr q) = inr (λ j h. ⊎_elim (λ (e : j ≡ n). rw e q) (λ (l : j < n). none j l) (eq-or-lt_of_le (le_of_suc-le-suc h)))

-- the first number that a test fails at, or it holds of all
pub first_false : (P : ℕ → Bool) (n : ℕ) → ((i : ℕ) × First n (λ i. P i ≡ false) i) ⊎ ((i : ℕ) → i < n → P i ≡ true)
first_false P n = ⊎_elim (λ f. inl f) (λ none. inr (λ i h. holds (P i) (none i h))) (first_or_none (λ i. P i ≡ false) (λ i. fails (P i)) n)
  where
    fails : (t : Bool) → (t ≡ false) ⊎ (t ≡ false → ⊥)
    fails true = inr (λ e. clash refl e)
    fails false = inl refl

    holds : (t : Bool) → (t ≡ false → ⊥) → t ≡ true
    holds true h = refl
    holds false h = absurd (h refl)
