-- The impostors of document 01, "How tight the statements are", for the level that a lookup tells. One of them keeps the planner's law. Assumes nothing.
use mathlib.Core.Path.{◌≡◌, refl, sym, ap, ◌∙◌}
use mathlib.Core.Logic.{inr}
use mathlib.Core.Bool.{false}
use mathlib.Core.List.{[], ◌∷◌}
use Prim.Native.Nat.{ℕ, ◌-◌, ◌/◌, ◌^◌}
use native.Mathlib.Omega.{arith}
use Rattle.cells.specs.Answer.{answer, deepest, TooDeep}
use Rattle.cells.specs.Place.{axes, number}
use Rattle.cells.proofs.Bools.{clash}
use Rattle.cells.proofs.Decisions.{one_equal, one_refuses, one_refuses_first, one_decided, passes, passes_first, refuses_numbered, decided_passed}
use Rattle.records.specs.Record.{black}
use Rattle.records.specs.Fault.{Faulty}
use Rattle.records.specs.Lookups.{LookupAnswer, NoVoxel, unseen, seen, LookupOf}
use Rattle.records.proofs.CallLaws.{one_lookup}
use Rattle.records.proofs.First.{faulty_numbered}
use Rattle.records.proofs.Instances.{lookup_empty, lookup_white_fails, lookup_refuses}
use Rattle.demands.specs.Examples.{r057}
use Rattle.demands.specs.Impostors.{voxel_alone}
use Rattle.demands.specs.Lookups.{TellsCell}

-- ---- an invented level, and one told in a refusal

pub invented_level : (k : ℕ) → (k ≡ 2 → ⊥) → LookupOf 3 r057 0 0 0 (seen false k) → ⊥
invented_level = lookup_white_fails

pub level_in_refusal : (k : ℕ) → (k ≡ 0 → ⊥) → LookupOf 3 r057 8 0 0 (record { answer = answer 6 0 0; level = k }) → ⊥
level_in_refusal k other h = other (ap (λ (r : LookupAnswer). r.level) (one_lookup 3 r057 8 0 0 _ _ h lookup_refuses))

-- ---- one that tells the level of a voxel of each: it keeps the planner's law, since a voxel is alone in its cell, and what it tells does not fit

alone_tells : TellsCell voxel_alone
alone_tells D l x y z r told ok x' y' z' near s told' =
    let (_, is) = decided_passed (λ f. f.answer.number) unseen (λ a. refl) (TooDeep deepest D ∷ Faulty D l 1 ∷ NoVoxel D (axes x y z) ∷ []) (λ r. r ≡ seen (black D l (number D x y z)) D) r (refuses_numbered (λ e. omega arith), (faulty_numbered D l 1, (refuses_numbered (λ e. omega arith), tt))) ok told in
    let none : D - r.level ≡ 0 = omega (arith, ap (λ (f : LookupAnswer). f.level) is) in
    let same : (n : ℕ) → n / 2 ^ (D - r.level) ≡ n = λ n. rw none (omega arith) in
    let at_x : x' ≡ x = sym (same x') ∙ near 0 (omega arith) ∙ same x in
    let at_y : y' ≡ y = sym (same y') ∙ near 1 (omega arith) ∙ same y in
    let at_z : z' ≡ z = sym (same z') ∙ near 2 (omega arith) ∙ same z in
    one_decided unseen (TooDeep deepest D ∷ Faulty D l 1 ∷ NoVoxel D (axes x y z) ∷ []) _ (one_refuses, (one_refuses_first, (one_refuses, tt))) one_equal s r (rw (at_x, at_y, at_z) at told') told

alone_told : voxel_alone 1 [] 0 0 0 (seen false 1)
unfolding number black
alone_told = inr (passes (λ h. omega arith), inr (passes_first (λ i h. absurd (omega arith)), inr (passes (clash refl), refl)))

pub voxel_alone_lem : TellsCell voxel_alone × (voxel_alone 1 [] 0 0 0 (seen false 1) × (LookupOf 1 [] 0 0 0 (seen false 1) → ⊥))
voxel_alone_lem = (alone_tells, (alone_told, λ h. let e : ◌≡◌ {A = ℕ} 1 0 = ap (λ (r : LookupAnswer). r.level) (one_lookup 1 [] 0 0 0 _ _ h lookup_empty) in omega arith))
