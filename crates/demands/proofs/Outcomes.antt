-- What the answer of a call that writes a list tells of its inputs and of what it wrote. Assumes nothing.
use mathlib.Core.Path.{◌≡◌, sym, ap, ◌∙◌, subst⁻¹}
use mathlib.Core.Logic.{◌⊎◌, inl, inr, ◌↔◌}
use mathlib.Core.Bool.{true}
use mathlib.Core.List.{List}
use Prim.Native.Nat.{ℕ, ◌^◌, ◌<◌, ◌≤◌}
use native.Mathlib.Omega.{arith}
use lib.IntN.{ℤ}
use lib.ListN.{length, get_or}
use Rattle.cells.specs.Answer.{given, deepest, TooDeep}
use Rattle.cells.specs.Place.{axes, Came}
use Rattle.cells.specs.declared.Answer.{Answer}
use Rattle.cells.proofs.Decisions.{passes, deep_enough}
use Rattle.records.specs.Record.{black, Good, ListOf}
use Rattle.records.specs.Carried.{FromBlack}
use Rattle.records.proofs.First.{good_passes}
use Rattle.records.proofs.OneList.{one_list, list_same}
use Rattle.records.proofs.Carrying.{Carrying, displacing, Accepted}
use Rattle.records.specs.Writing.{WritesListOf}
use Rattle.records.proofs.Fronts.{ListSuccess, list_success}
use Rattle.sets.proofs.SetLaws.{pair_success}
use Rattle.moves.specs.Moves.{ShiftOf}
use Rattle.moves.proofs.Acceptance.{accepted_exactly}
use Rattle.moves.proofs.MoveLaws.{move_success}
use Rattle.metres.specs.declared.Move.TheVariants.{Voxels}
use Rattle.demands.specs.Laws.{Carrier, move, Succeeds, Unaccepted, Roomy, wrote, Alike}
use Rattle.demands.specs.Impostors.{Combines}

-- what a call that is lent a buffer leaves: its answer and the buffer
abbrev pub Left : Type 0
Left = Answer × List ℕ

abbrev pub number_of : Left → ℕ
number_of t = t.0.number

abbrev pub place_of : Left → ℕ
place_of t = t.0.place

-- the first code or byte in the buffer
abbrev pub front_of : Left → ℕ
front_of t = get_or t.1 0 0

-- ---- the test of the depth

pub not_deep : (D : ℕ) → D ≤ deepest → (a : Answer) → TooDeep deepest D a → ⊥
not_deep D h = passes (deep_enough h)

-- ---- past the tests: the good list of the voxels that have Q is written, or there is too little room

-- the list that was written is the good list of the voxels that have Q, and the answer counts its leaves
pub record Gives (D : ℕ) (Q : ℕ → Type 0) (r : Answer) (o : List ℕ) : Type 0 where
  pub is_answer : r ≡ given (length (wrote r o))
  pub list : ListOf D Q (wrote r o)

module _ (D : ℕ) (Q : ℕ → Type 0) (o o' : List ℕ) (r : Answer) where
  -- where it is known to have succeeded
  pub success_gives : ListSuccess D Q o r o' → Gives D Q r o'
  success_gives k = record {
    is_answer = ap (λ (t : Left). t.0) k.is_left ∙ ap (λ (m : List ℕ). given (length m)) (sym k.front.is_front);
    list = subst⁻¹ (ListOf D Q) k.front.is_front k.is_list;
  }

  -- or to have had room
  pub told_gives : WritesListOf D Q o (r, o') → Roomy r → Gives D Q r o'
  told_gives (l, x, inl (a, (_, e), f)) room = absurd (room (ap number_of f ∙ ap (λ (t : Answer). t.number) e))
  told_gives (l, x, inr (fits, e)) room = success_gives (list_success D Q o r o' (l, x, inr (fits, e)) (ap number_of e))

  -- what is told past the tests of a carrier is not 7
  pub told_accepted : WritesListOf D Q o (r, o') → Unaccepted r → ⊥
  told_accepted (l, x, inl (a, (_, e), f)) z = let g : ◌≡◌ {A = ℕ} 8 7 = sym (ap number_of f ∙ ap (λ (t : Answer). t.number) e) ∙ z in omega arith
  told_accepted (l, x, inr (_, e)) z = let g : ◌≡◌ {A = ℕ} 0 7 = sym (ap number_of e) ∙ z in omega arith

  pub gives_success : Gives D Q r o' → Succeeds r
  gives_success g = ap (λ (t : Answer). t.number) g.is_answer

-- two calls whose sets are the same end alike
pub same_set_alike : (D : ℕ) (P Q : ℕ → Type 0) (r : Answer) (o : List ℕ) (s : Answer) (p : List ℕ) → ((v : ℕ) → v < 8 ^ D → P v ↔ Q v) → Gives D P r o → Gives D Q s p → Alike r o s p
same_set_alike D P Q r o s p same x y =
    let e : wrote r o ≡ wrote s p = one_list D Q (wrote r o) (wrote s p) (list_same D P Q (wrote r o) same x.list) y.list in
    record { succeeds = gives_success D P o o r x; same_answer = x.is_answer ∙ ap (λ (m : List ℕ). given (length m)) e ∙ sym y.is_answer; same_list = e }

-- ---- a call that carries a list by R

module _ (D : ℕ) (l : List ℕ) (R : ℕ → ℕ → Type 0) (o o' : List ℕ) (r : Answer) where
  -- on a good list it is not accepted, or each black voxel stays and the list is written where there is room
  abbrev pub Outcome : Type 0
  Outcome = (Unaccepted r × (Accepted D R l → ⊥)) ⊎ (Accepted D R l × WritesListOf D (FromBlack R (black D l)) o (r, o'))

  -- what success says
  pub record Moved : Type 0 where
    pub depth : D ≤ deepest
    pub good : Good D l
    pub accepted : Accepted D R l
    pub gives : Gives D (FromBlack R (black D l)) r o'

  pub outcome_moved : D ≤ deepest → Good D l → Succeeds r → Outcome → Moved
  outcome_moved h g z (inl (seven, _)) = let f : ◌≡◌ {A = ℕ} 0 7 = sym z ∙ seven in absurd (omega arith)
  outcome_moved h g z (inr (ok, t)) =
      record { depth = h; good = g; accepted = ok; gives = told_gives D (FromBlack R (black D l)) o o' r t (λ e. let f : ◌≡◌ {A = ℕ} 0 8 = sym z ∙ e in omega arith) }

-- M carries a list as R says, by each x that it takes
pub record Carries {X : Type 0} (M : Carrier X) (R : ℕ → X → ℕ → ℕ → Type 0) (Takes : X → Type 0) : Type 0 where
  pub carrying : (D : ℕ) (x : X) → Carrying D (R D x)
  pub outcome : (D : ℕ) (l : List ℕ) (x : X) (o o' : List ℕ) (r : Answer) → D ≤ deepest → Good D l → Takes x → M D l x o r o' → Outcome D l (R D x) o o' r
  pub taken : (D : ℕ) (l : List ℕ) (x : X) (o o' : List ℕ) (r : Answer) → M D l x o r o' → Succeeds r → Takes x
  pub moved : (D : ℕ) (l : List ℕ) (x : X) (o o' : List ℕ) (r : Answer) → M D l x o r o' → Succeeds r → Moved D l (R D x) o o' r

-- ---- the move by whole voxels

abbrev pub displacement : (ℕ → ℤ) → ℕ → ℤ
displacement d = axes (d 0) (d 1) (d 2)

module _ (D : ℕ) (l : List ℕ) (d : ℕ → ℤ) (o o' : List ℕ) (r : Answer) where
  abbrev R : ℕ → ℕ → Type 0
  R = Came D (displacement d)

  shift_outcome : Good D l → ShiftOf D l (displacement d) o (r, o') → Outcome D l R o o' r
  shift_outcome g (inl (a, (i, F, e), f)) =
      inl (ap number_of f ∙ ap (λ (t : Answer). t.number) e, λ ok. (accepted_exactly D (displacement d) l g.ordered).1 ok a (i, F, e))
  shift_outcome g (inr (none, t)) = inr ((accepted_exactly D (displacement d) l g.ordered).0 none, t)

  move_outcome : D ≤ deepest → Good D l → move D l d o r o' → Outcome D l R o o' r
  move_outcome h g (inl (a, t, _)) = absurd (not_deep D h a t)
  move_outcome h g (inr (_, inl (a, t, _))) = absurd (good_passes D l 1 g a t)
  move_outcome h g (inr (_, inr (_, (i, j, k, same, t)))) = shift_outcome g (rw (same 0 (omega arith), same 1 (omega arith), same 2 (omega arith)) at t)

  move_succeeds : move D l d o r o' → Succeeds r → Moved D l R o o' r
  move_succeeds m z =
      let k = move_success D l (Voxels (d 0) (d 1) (d 2)) o r o' m z in
      outcome_moved D l R o o' r k.shallow k.good z (move_outcome k.shallow k.good m)

-- it takes every displacement
pub move_carries : Carries move (λ D d. Came D (displacement d)) (λ d. Unit {0})
move_carries = record {
  carrying = λ D d. displacing D (displacement d);
  outcome = λ D l d o o' r h g _. move_outcome D l d o o' r h g;
  taken = λ D l d o o' r _ _. tt;
  moved = move_succeeds;
}

-- ---- a call that makes one list of two

-- the voxels of its result
abbrev pub Resulting : (Type 0 → Type 0 → Type 0) → ℕ → List ℕ → List ℕ → ℕ → Type 0
Resulting T D a b v = T (black D a v ≡ true) (black D b v ≡ true)

module _ (T : Type 0 → Type 0 → Type 0) (D : ℕ) (a b o o' : List ℕ) (r : Answer) where
  -- on good lists
  pub combine_told : D ≤ deepest → Good D a → Good D b → Combines T D a b o r o' → WritesListOf D (Resulting T D a b) o (r, o')
  combine_told h g k (inl (x, t, _)) = absurd (not_deep D h x t)
  combine_told h g k (inr (_, inl (x, t, _))) = absurd (good_passes D a 1 g x t)
  combine_told h g k (inr (_, inr (_, inl (x, t, _)))) = absurd (good_passes D b 2 k x t)
  combine_told h g k (inr (_, inr (_, inr (_, t)))) = t

  -- what success says
  pub record Combined : Type 0 where
    pub depth : D ≤ deepest
    pub good_first : Good D a
    pub good_second : Good D b
    pub gives : Gives D (Resulting T D a b) r o'

  pub combine_succeeds : Combines T D a b o r o' → Succeeds r → Combined
  combine_succeeds d z =
      let k = pair_success D a b (Resulting T D a b) o r o' d z in
      record { depth = k.shallow; good_first = k.good_first; good_second = k.good_second; gives = success_gives D (Resulting T D a b) o o' r k.result }
