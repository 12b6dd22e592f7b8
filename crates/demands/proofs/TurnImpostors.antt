-- The impostors of document 01, "How tight the statements are", for the call that turns a list: what each would leave at a named input does not fit the call's
-- definition. Two of them keep the law that turns add up. Assumes nothing.
use mathlib.Core.Path.{◌≡◌, sym, ap, ◌∙◌, subst}
use mathlib.Core.List.{List, []}
use Prim.Native.Nat.{ℕ, ◌+◌, ◌*◌, ◌/◌, ◌%◌}
use native.Mathlib.Omega.{arith}
use Rattle.cells.specs.Answer.{answer, given}
use Rattle.cells.specs.declared.Answer.{Answer}
use Rattle.cells.proofs.Congruent.{congruent_equal}
use Rattle.turns.specs.Turns.{TurnOf}
use Rattle.turns.proofs.TurnLaws.{one_turn}
use Rattle.turns.proofs.Instances.{two_places, turn_holds, turn_holds_thrice, turn_holds_still, turn_crowded_holds}
use Rattle.demands.specs.Examples.{r0}
use Rattle.demands.specs.Impostors.{other_way, unturned}
use Rattle.demands.specs.Laws.{Succeeds}
use Rattle.demands.specs.Turns.{turn, TurnsAddUp}
use Rattle.demands.proofs.Outcomes.{number_of, place_of, front_of}
use Rattle.demands.proofs.Turns.{turns_add_up}

-- depth 1: one turn takes r0 to r1, three take it to r2

-- ---- one that rejects everything

pub rejects_turn : (r : Answer) (o : List ℕ) → (Succeeds r → ⊥) → TurnOf 1 r0 1 two_places r o → ⊥
rejects_turn r o refused h = refused (ap number_of (one_turn 1 r0 1 two_places (r, o) _ h turn_holds))

-- ---- one that hands out a fixed list

pub fixed_turn : (r : Answer) (o : List ℕ) → TurnOf 1 r0 1 two_places r o → TurnOf 1 r0 3 two_places r o → ⊥
fixed_turn r o h k = let e : ◌≡◌ {A = ℕ} 9 10 = ap front_of (sym (one_turn 1 r0 1 two_places (r, o) _ h turn_holds) ∙ one_turn 1 r0 3 two_places (r, o) _ k turn_holds_thrice) in omega arith

-- ---- one that writes nothing, whatever it reports

pub silent_turn : (r : Answer) → TurnOf 1 r0 1 two_places r two_places → ⊥
silent_turn r h = let e : ◌≡◌ {A = ℕ} 7 9 = ap front_of (one_turn 1 r0 1 two_places (r, two_places) _ h turn_holds) in omega arith

-- ---- an invented leaf count or needed room

pub invented_count_turn : (n : ℕ) (o : List ℕ) → (n ≡ 1 → ⊥) → TurnOf 1 r0 1 two_places (given n) o → ⊥
invented_count_turn n o other h = other (ap place_of (one_turn 1 r0 1 two_places (given n, o) _ h turn_holds))

pub invented_room_turn : (n : ℕ) (o : List ℕ) → (n ≡ 1 → ⊥) → TurnOf 1 r0 1 [] (answer 8 n 0) o → ⊥
invented_room_turn n o other h = other (ap place_of (one_turn 1 r0 1 [] (answer 8 n 0, o) _ h turn_crowded_holds))

-- ---- one that turns the other way round: its turns add up, and what it leaves does not fit

-- turn numbers add up modulo four, three times as many too
three_times : (m n : ℕ) → 3 * ((m + n) % 4) % 4 ≡ (3 * m % 4 + 3 * n % 4) % 4
three_times m n =
    congruent_equal 4 (3 * ((m + n) % 4) % 4) ((3 * m % 4 + 3 * n % 4) % 4) (omega arith) (omega arith)
    (record { j = 3 * ((m + n) % 4) / 4 + 3 * ((m + n) / 4); k = (3 * m % 4 + 3 * n % 4) / 4 + 3 * m / 4 + 3 * n / 4; same = omega arith })

pub other_way_lem : TurnsAddUp other_way × ((r : Answer) (o : List ℕ) → other_way 1 r0 1 two_places r o → turn 1 r0 1 two_places r o → ⊥)
other_way_lem = (
  λ D l m n few o o' r first z p p' s second q q' t single.
      turns_add_up D l (3 * m % 4) (3 * n % 4) (omega arith) o o' r first z p p' s second q q' t (subst (λ (i : ℕ). turn D l i q t q') (three_times m n) single),
  λ r o h k. fixed_turn r o k h,
)

-- ---- one that leaves the list as it is: its turns add up, and what it leaves does not fit

pub leaves_it : TurnsAddUp unturned × ((r : Answer) (o : List ℕ) → unturned 1 r0 1 two_places r o → turn 1 r0 1 two_places r o → ⊥)
leaves_it = (
  λ D l m n few. turns_add_up D l 0 0 (omega arith),
  λ r o h k. let e : ◌≡◌ {A = ℕ} 8 9 = ap front_of (sym (one_turn 1 r0 0 two_places (r, o) _ h turn_holds_still) ∙ one_turn 1 r0 1 two_places (r, o) _ k turn_holds) in omega arith,
)
