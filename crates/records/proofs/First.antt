-- The test for a first fault: it refuses no good list, and a list that it does not refuse is good. Assumes nothing.
use mathlib.Core.Path.{◌≡◌, refl}
use mathlib.Core.Logic.{◌⊎◌, inl, inr, ◌↔◌}
use mathlib.Core.List.{List}
use Prim.Native.Nat.{ℕ, zero, suc, ◌<◌}
use native.Mathlib.Omega.{arith}
use lib.ListN.{length}
use Rattle.cells.specs.Answer.{First}
use Rattle.cells.specs.declared.Answer.{Answer}
use Rattle.cells.proofs.Firsts.{first_or_none}
use Rattle.cells.proofs.Decisions.{passes_first, refuses_first_numbered}
use Rattle.records.specs.Record.{Good}
use Rattle.records.specs.Fault.{fault, Faulty}
use Rattle.records.proofs.Fault.{faultless_good, good_faultless}

-- no index has a fault just where the list is good
pub faultless_iff_good : (D : ℕ) (l : List ℕ) → ((i : ℕ) → i < length l → fault D l i ≡ 0) ↔ Good D l
faultless_iff_good D l = (faultless_good D l, good_faultless D l)

-- a number is 0 or not
some_number : (n : ℕ) → (n ≡ 0 → ⊥) ⊎ ((n ≡ 0 → ⊥) → ⊥)
some_number zero = inr (λ h. h refl)
some_number (suc n) = inl (λ e. omega arith)

pub no_number : (n : ℕ) → ((n ≡ 0 → ⊥) → ⊥) → n ≡ 0
no_number zero h = refl
no_number (suc n) h = absurd (h (λ e. omega arith))

module _ (D : ℕ) (l : List ℕ) (k : ℕ) where
  -- its numbers are not 0
  pub faulty_numbered : (a : Answer) → Faulty D l k a → a.number ≡ 0 → ⊥
  faulty_numbered = refuses_first_numbered (λ i bad z. bad z)

  pub not_faulty : ((a : Answer) → Faulty D l k a → ⊥) → Good D l
  not_faulty none = go (first_or_none (λ i. fault D l i ≡ 0 → ⊥) (λ i. some_number (fault D l i)) (length l))
    where
      go : ((i : ℕ) × First (length l) (λ i. fault D l i ≡ 0 → ⊥) i) ⊎ ((i : ℕ) → i < length l → (fault D l i ≡ 0 → ⊥) → ⊥) → Good D l
      go (inl (i, f)) = absurd (none _ (i, f, refl))
      go (inr clean) = faultless_good D l (λ i h. no_number (fault D l i) (clean i h))

  pub good_passes : Good D l → (a : Answer) → Faulty D l k a → ⊥
  good_passes g = passes_first (λ i h bad. bad (good_faultless D l g i h))
