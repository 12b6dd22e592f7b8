-- The laws of the calls `check`, `lookup` and `volume`: what a call that opens with `check`, or with a list judged alone, takes from it, and no second answer
-- fits. Assumes nothing.
use mathlib.Core.Path.{◌≡◌, refl}
use mathlib.Core.List.{List, [], ◌∷◌}
use Prim.Native.Nat.{ℕ, ◌^◌, ◌≤◌}
use native.Mathlib.Omega.{arith}
use lib.ListN.{length}
use Rattle.cells.specs.Answer.{given, alone, deepest, TooDeep}
use Rattle.cells.specs.Place.{axes}
use Rattle.cells.specs.declared.Answer.{Answer}
use Rattle.cells.proofs.Decisions.{One, one_equal, one_refuses, one_refuses_first, one_decided, refuses_numbered, Opening, opening_given, shallow_enough}
use Rattle.records.specs.Record.{Good}
use Rattle.records.specs.Fault.{Faulty}
use Rattle.records.specs.Calls.{CheckOf, VolumeOf}
use Rattle.records.specs.Lookups.{NoVoxel, unseen, LookupOf}
use Rattle.records.proofs.First.{faulty_numbered, not_faulty}
use Rattle.records.proofs.Most.{few_leaves}
use Rattle.records.proofs.Sizes.{one_seen}

-- ---- past `check`

-- what the answer `given n` says
pub record Checked (D : ℕ) (l : List ℕ) (n : ℕ) : Type 0 where
  pub shallow : D ≤ deepest
  pub good : Good D l
  pub is_length : n ≡ length l
  pub few : length l ≤ 8 ^ D

module _ (D : ℕ) (l : List ℕ) where
  checked : (k : ℕ) → D ≤ deepest → ((a : Answer) → Faulty D l k a → ⊥) → Checked D l (length l)
  checked k h clean = let g = not_faulty D l k clean in record { shallow = h; good = g; is_length = refl; few = few_leaves D l g }

  -- a list judged alone, as the call's list k, at a depth that is taken
  pub judges : (k : ℕ) → D ≤ deepest → Opening (Faulty D l k ∷ []) (λ r. r ≡ given (length l)) (λ r. Checked D l r.place)
  judges k h = opening_given (faulty_numbered D l k, tt) (λ (clean, _). checked k h clean)

  pub checks : Opening (TooDeep deepest D ∷ Faulty D l 1 ∷ []) (λ r. r ≡ given (length l)) (λ r. Checked D l r.place)
  checks =
      opening_given (refuses_numbered (λ z. omega arith), (faulty_numbered D l 1, tt))
      (λ (deep, (clean, _)). checked 1 (shallow_enough deep) clean)

-- ---- no second answer

module _ (D : ℕ) (l : List ℕ) where
  pub one_check : One (CheckOf D l)
  one_check = one_decided alone (TooDeep deepest D ∷ Faulty D l 1 ∷ []) _ (one_refuses, (one_refuses_first, tt)) one_equal

  pub one_volume : One (VolumeOf D l)
  one_volume = one_decided alone (TooDeep deepest D ∷ Faulty D l 1 ∷ []) _ (one_refuses, (one_refuses_first, tt)) one_equal

  pub one_lookup : (x y z : ℕ) → One (LookupOf D l x y z)
  one_lookup x y z = one_decided unseen (TooDeep deepest D ∷ Faulty D l 1 ∷ NoVoxel D (axes x y z) ∷ []) _ (one_refuses, (one_refuses_first, (one_refuses, tt))) one_seen
