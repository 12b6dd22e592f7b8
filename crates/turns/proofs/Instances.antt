-- Answers of the turn call that fit its definition at named inputs, and answers that do not. Assumes nothing.
use mathlib.Core.Path.{◌≡◌, refl, ap, subst}
use mathlib.Core.List.{List, [], ◌∷◌}
use mathlib.Core.Logic.{inl, inr}
use Prim.Native.Nat.{ℕ, ◌≤◌}
use native.Mathlib.Omega.{arith}
use lib.ListN.{get_or}
use Rattle.cells.specs.Answer.{answer, given, deepest}
use Rattle.cells.specs.Cell.{level, index, span, start, holds}
use Rattle.cells.specs.declared.Answer.{Answer}
use Rattle.cells.proofs.Decisions.{passes, deep_enough}
use Rattle.records.specs.Record.{black, Good, ListOf}
use Rattle.records.specs.Carried.{FromBlack}
use Rattle.records.specs.Fault.{all_from}
use Rattle.records.specs.Writing.{WritesOf}
use Rattle.records.proofs.Fill.{upto, leaves, good_list, is_good}
use Rattle.records.proofs.First.{good_passes}
use Rattle.records.proofs.Writing.{writes_fitting, too_short}
use Rattle.turns.specs.Turns.{Turned, most_turns, TurnOf}
use Rattle.turns.specs.Inner.{from_label, source_label, relabel, turned}
use Rattle.turns.proofs.TurnLaws.{turned_list, turn_of, one_turn}

-- ---- lists turned, computed: l is good, and m is l after n turns

pub record Computed (D : ℕ) (l : List ℕ) (n : ℕ) (m : List ℕ) : Type 0 where
  pub good : Good D l
  pub after : good_list D (turned D l n) ≡ m

pub turn_computed : {D n : ℕ} {l m : List ℕ} → Computed D l n m → D ≤ deepest → n ≤ most_turns → {o : List ℕ} {r : Answer} {o' : List ℕ} → WritesOf m o (r, o') → TurnOf D l n o r o'
turn_computed {D} {n} {l} {m} c h k {o} {r} {o'} w = turn_of D l n o r o' h c.good k (m, subst (ListOf D (FromBlack (Turned D n) (black D l))) c.after (turned_list D l n), w)

computed : (D : ℕ) (l : List ℕ) (n : ℕ) (m : List ℕ) → good_list D (black D l) ≡ l → good_list D (turned D l n) ≡ m → Computed D l n m
computed D l n m good after = record { good = subst (Good D) good (is_good D (black D l)); after = after }

-- depth 1: one turn takes r0 to r1
pub r0_once : Computed 1 (8 ∷ []) 1 (9 ∷ [])
unfolding level index span start holds black all_from upto leaves good_list from_label source_label relabel
r0_once = computed 1 (8 ∷ []) 1 (9 ∷ []) refl refl

-- none leaves it
pub r0_still : Computed 1 (8 ∷ []) 0 (8 ∷ [])
unfolding level index span start holds black all_from upto leaves good_list from_label source_label relabel
r0_still = computed 1 (8 ∷ []) 0 (8 ∷ []) refl refl

-- three take it to r2
pub r0_thrice : Computed 1 (8 ∷ []) 3 (10 ∷ [])
unfolding level index span start holds black all_from upto leaves good_list from_label source_label relabel
r0_thrice = computed 1 (8 ∷ []) 3 (10 ∷ []) refl refl

-- depth 3: one turn takes r057, the voxel (3, 1, 3), to r176, the voxel (6, 3, 3)
pub r057_once : Computed 3 (559 ∷ []) 1 (638 ∷ [])
unfolding level index span start holds black all_from upto leaves good_list from_label source_label relabel
r057_once = computed 3 (559 ∷ []) 1 (638 ∷ []) refl refl

-- ---- the call

abbrev pub two_places : List ℕ
two_places = 7 ∷ 7 ∷ []

-- the code, and the second place as it was
pub turn_holds : TurnOf 1 (8 ∷ []) 1 two_places (given 1) (9 ∷ 7 ∷ [])
turn_holds = turn_computed r0_once (omega arith) (omega arith) (writes_fitting (9 ∷ []) two_places (omega arith))

pub turn_holds_thrice : TurnOf 1 (8 ∷ []) 3 two_places (given 1) (10 ∷ 7 ∷ [])
turn_holds_thrice = turn_computed r0_thrice (omega arith) (omega arith) (writes_fitting (10 ∷ []) two_places (omega arith))

pub turn_holds_still : TurnOf 1 (8 ∷ []) 0 two_places (given 1) (8 ∷ 7 ∷ [])
turn_holds_still = turn_computed r0_still (omega arith) (omega arith) (writes_fitting (8 ∷ []) two_places (omega arith))

pub turn_holds_deep : TurnOf 3 (559 ∷ []) 1 two_places (given 1) (638 ∷ 7 ∷ [])
turn_holds_deep = turn_computed r057_once (omega arith) (omega arith) (writes_fitting (638 ∷ []) two_places (omega arith))

-- not r2, to which a turn the other way round takes r0
pub turn_fails : TurnOf 1 (8 ∷ []) 1 two_places (given 1) (10 ∷ 7 ∷ []) → ⊥
turn_fails h = let e : ◌≡◌ {A = ℕ} 10 9 = ap (λ (t : Answer × List ℕ). get_or t.1 0 0) (one_turn 1 (8 ∷ []) 1 two_places _ _ h turn_holds) in omega arith

-- no place: 8, with the leaves of the list
pub turn_crowded_holds : TurnOf 1 (8 ∷ []) 1 [] (answer 8 1 0) []
turn_crowded_holds = turn_computed r0_once (omega arith) (omega arith) (too_short (9 ∷ []) [] 1 refl _ _ (omega arith) refl refl)

-- four turns are refused
pub turn_refuses : (o : List ℕ) → TurnOf 1 (8 ∷ []) 4 o (answer 6 1 0) o
turn_refuses o = inr (passes (deep_enough (omega arith)), inr (good_passes 1 (8 ∷ []) 1 r0_once.good, inl (answer 6 1 0, (omega arith, refl), refl)))
