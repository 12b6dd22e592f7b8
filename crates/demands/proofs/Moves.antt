-- Demand 3: if a first move is accepted, a second is accepted exactly when the single move by their sum is, and ends in the same list.
-- A voxel that came by the one and then by the other came by the sum, and one that came by the sum goes on by the other from where the first left it. Assumes nothing.
use mathlib.Core.Path.{◌≡◌, refl, sym, ap, ◌∙◌}
use mathlib.Core.Logic.{◌↔◌, inl, inr}
use Prim.Native.Nat.{ℕ}
use lib.IntN.{ℤ, pos, ◌+ℤ◌, +ℤ_assoc}
use Rattle.cells.specs.Place.{EachAxis, Displaced, Came}
use Rattle.cells.proofs.Places.{each_axis}
use Rattle.records.proofs.Carrying.{Accepted, Then, accepted_then, carried_then}
use Rattle.demands.specs.Laws.{move, Unaccepted, Roomy, wrote, Alike, TwoMoves}
use Rattle.demands.proofs.Outcomes.{displacement, told_gives, told_accepted, same_set_alike, Outcome, Moved, move_carries}

-- ---- one coordinate

displaced_sum : (d e : ℤ) (x y z : ℕ) → Displaced d x y → Displaced e y z → Displaced (d +ℤ e) x z
displaced_sum d e x y z p q = sym (+ℤ_assoc (pos x) d e) ∙ ap (λ (n : ℤ). n +ℤ e) p ∙ q

displaced_rest : (d e : ℤ) (x y z : ℕ) → Displaced (d +ℤ e) x z → Displaced d x y → Displaced e y z
displaced_rest d e x y z p q = ap (λ (n : ℤ). n +ℤ e) (sym q) ∙ +ℤ_assoc (pos x) d e ∙ p

module _ (D : ℕ) (d e : ℕ → ℤ) where
  -- the displacements, and their sum
  abbrev by_d : ℕ → ℤ
  by_d = displacement d

  abbrev by_e : ℕ → ℤ
  by_e = displacement e

  abbrev by_sum : ℕ → ℤ
  by_sum = displacement (λ a. d a +ℤ e a)

  adds : EachAxis (λ a. by_d a +ℤ by_e a ≡ by_sum a)
  adds = each_axis _ refl refl refl

  -- ---- one voxel

  came_sum : (u v w : ℕ) → Came D by_d u v → Came D by_e v w → Came D by_sum u w
  came_sum u v w c f = record { root = f.root; each = λ a h. rw (sym (adds a h)) (displaced_sum (by_d a) (by_e a) _ _ _ (c.each a h) (f.each a h)) }

  came_rest : (u v w : ℕ) → Came D by_sum u w → Came D by_d u v → Came D by_e v w
  came_rest u v w s c = record { root = s.root; each = λ a h. displaced_rest (by_d a) (by_e a) _ _ _ (rw (sym (adds a h)) at (s.each a h)) (c.each a h) }

  pub moves_then : Then D (Came D by_d) (Came D by_e) (Came D by_sum)
  moves_then = record { root = λ u v c. c.root; both = came_sum; rest = came_rest }

-- ---- the calls

pub two_moves : TwoMoves move
two_moves D l d e o o' r first z p p' s second q q' t single =
    go
    (move_carries.outcome D (wrote r o') e p p' s f.depth f.gives.list.good tt second)
    (move_carries.outcome D l (λ a. d a +ℤ e a) q q' t f.depth f.good tt single)
  where
    f : Moved D l (Came D (displacement d)) o o' r
    f = move_carries.moved D l d o o' r first z

    accepts : Accepted D (Came D (displacement e)) (wrote r o') ↔ Accepted D (Came D (displacement (λ a. d a +ℤ e a))) l
    accepts = accepted_then (moves_then D d e) l (wrote r o') f.accepted f.gives.list

    go : Outcome D (wrote r o') (Came D (displacement e)) p p' s → Outcome D l (Came D (displacement (λ a. d a +ℤ e a))) q q' t
        → (Unaccepted s ↔ Unaccepted t) × ((Unaccepted s → ⊥) → Roomy s → Roomy t → Alike s p' t q')
    go (inl (a, _)) (inl (b, _)) = ((λ _. b, λ _. a), λ stays. absurd (stays a))
    go (inl (_, none)) (inr (ok, _)) = absurd (none (accepts.1 ok))
    go (inr (ok, _)) (inl (_, none)) = absurd (none (accepts.0 ok))
    go (inr (_, a)) (inr (_, b)) = (
      (λ n. absurd (told_accepted D _ p p' s a n), λ n. absurd (told_accepted D _ q q' t b n)),
      λ stays roomy roomy'.
          same_set_alike D _ _ s p' t q' (λ w _. carried_then (moves_then D d e) l (wrote r o') f.accepted f.gives.list w) (told_gives D _ p p' s a roomy) (told_gives D _ q q' t b roomy'),
    )
