-- Demand 3: if two lists can both take a move, then moving and then joining, intersecting or subtracting gives the same list as doing that first and then
-- moving; that their join, intersection or difference can take the move is part of it. Of any call that carries a list; the move is one, the turn another. Assumes nothing.
use mathlib.Core.Logic.{◌⊎◌, inl, inr}
use Prim.Native.Nat.{ℕ}
use Rattle.sets.specs.declared.Op.{Op}
use Rattle.sets.specs.declared.Op.TheVariants.{Join, Intersect, Subtract}
use Rattle.sets.specs.Sets.{Chosen, SetOf}
use Rattle.records.proofs.Carrying.{accepted_made, made_carried}
use Rattle.demands.specs.Laws.{Carrier, move, Unaccepted, Roomy, wrote, Alike, Distributes}
use Rattle.demands.proofs.Outcomes.{told_gives, told_accepted, same_set_alike, Outcome, Moved, Carries, move_carries, combine_told, Combined, combine_succeeds}

-- what is in the result is in one of the two lists
one_of_both : (op : Op) (A B : Type 0) → Chosen op A B → A ⊎ B
one_of_both Join A B t = t
one_of_both Intersect A B t = inl t.0
one_of_both Subtract A B t = inl t.0

pub carrier_distributes : {X : Type 0} {M : Carrier X} {R : ℕ → X → ℕ → ℕ → Type 0} {Takes : X → Type 0} → Carries M R Takes → (op : Op) → Distributes M (SetOf op)
carrier_distributes {X} {M} {R} {Takes} carries op D a b x o o' r move-a z p p' s move-b z' q q' t made f f' u made-first z'' g g' w moved =
    go (carries.outcome D (wrote u f') x g g' w m.depth y.gives.list.good (carries.taken D a x o o' r move-a z) moved)
  where
    m : Moved D a (R D x) o o' r
    m = carries.moved D a x o o' r move-a z

    m' : Moved D b (R D x) p p' s
    m' = carries.moved D b x p p' s move-b z'

    y : Combined (Chosen op) D a b f f' u
    y = combine_succeeds (Chosen op) D a b f f' u made-first z''

    go : Outcome D (wrote u f') (R D x) g g' w → (Unaccepted w → ⊥) × (Roomy t → Roomy w → Alike t q' w g')
    go (inl (_, none)) =
        absurd (none (accepted_made D (R D x) (carries.carrying D x) (Chosen op) (one_of_both op) a b (wrote u f') (wrote r o') (wrote s p') m.good m'.good m.gives.list m'.gives.list y.gives.list m.accepted m'.accepted))
    go (inr (_, told)) = (
      told_accepted D _ g g' w told,
      λ roomy roomy'.
          same_set_alike D _ _ t q' w g'
          (made_carried D (R D x) (carries.carrying D x) (Chosen op) (one_of_both op) a b (wrote u f') (wrote r o') (wrote s p') m.good m'.good m.gives.list m'.gives.list y.gives.list)
          (told_gives D _ q q' t (combine_told (Chosen op) D (wrote r o') (wrote s p') q q' t m.depth m.gives.list.good m'.gives.list.good made) roomy)
          (told_gives D _ g g' w told roomy'),
    )

pub distributes : (op : Op) → Distributes move (SetOf op)
distributes = carrier_distributes move_carries
