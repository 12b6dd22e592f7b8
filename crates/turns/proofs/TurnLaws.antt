-- What follows of the turn call: its answer worked out, no second answer fits, and what success says. Assumes nothing.
use mathlib.Core.Path.{◌≡◌, refl, sym, ap, ◌∙◌}
use mathlib.Core.Logic.{inr}
use mathlib.Core.List.{List, [], ◌∷◌}
use Prim.Native.Nat.{ℕ, ◌<◌, ◌≤◌}
use native.Mathlib.Omega.{arith}
use lib.ListN.{length}
use Rattle.cells.specs.Answer.{answer, given, keeping, deepest, TooDeep}
use Rattle.cells.specs.declared.Answer.{Answer}
use Rattle.cells.proofs.Decisions.{One, one_refuses, one_refuses_first, one_decided, passes, deep_enough, shallow_enough, refuses_numbered, decided_passed}
use Rattle.records.specs.Record.{black, Good, ListOf}
use Rattle.records.specs.Fault.{Faulty}
use Rattle.records.specs.Carried.{FromBlack}
use Rattle.records.specs.Writing.{WritesListOf}
use Rattle.records.proofs.Fill.{good_list}
use Rattle.records.proofs.First.{good_passes, not_faulty, faulty_numbered}
use Rattle.records.proofs.Fronts.{ListSuccess, list_success}
use Rattle.records.proofs.OneList.{good_list_lem, one_list, list_same}
use Rattle.records.proofs.Writing.{too_short}
use Rattle.emit.specs.Inner.{Result}
use Rattle.emit.proofs.Answers.{result_list, put_whole, one_list_written}
use Rattle.turns.specs.Turns.{Turned, most_turns, NoTurn, TurnOf}
use Rattle.turns.specs.Inner.{turned}
use Rattle.turns.proofs.Sources.{turned_exactly}
use Rattle.turns.proofs.LeafCount.{turned_leaves}

-- ---- the answer worked out

module _ (D : ℕ) (l : List ℕ) (n : ℕ) where
  -- the turned voxels as a list
  pub turned_list : ListOf D (FromBlack (Turned D n) (black D l)) (good_list D (turned D l n))
  turned_list = list_same D _ (FromBlack (Turned D n) (black D l)) _ (turned_exactly D l n) (good_list_lem D (turned D l n))

  -- it has as many leaves as l
  pub turned_length : Good D l → (m : List ℕ) → ListOf D (FromBlack (Turned D n) (black D l)) m → length m ≡ length l
  turned_length g m x = ap length (one_list D _ m _ x turned_list) ∙ turned_leaves D l n g

  -- past the tests of the depth, the list and the turn number
  pub turn_of : (o : List ℕ) (r : Answer) (o' : List ℕ) → D ≤ deepest → Good D l → n ≤ most_turns → WritesListOf D (FromBlack (Turned D n) (black D l)) o (r, o') → TurnOf D l n o r o'
  turn_of o r o' h g k w = inr (passes (deep_enough h), inr (good_passes D l 1 g, inr (passes (deep_enough k), w)))

  -- a buffer shorter than the list is too short
  pub turn_crowded : Good D l → {need : ℕ} {o : List ℕ} {r : Answer} {o' : List ℕ} → need ≡ length l → length o < need → r ≡ answer 8 need 0 → o' ≡ o → WritesListOf D (FromBlack (Turned D n) (black D l)) o (r, o')
  turn_crowded g {need} {o} {r} {o'} counted short e kept = (good_list D (turned D l n), turned_list, too_short (good_list D (turned D l n)) o need (counted ∙ sym (turned_leaves D l n g)) r o' short e kept)

  -- any other has room for what the descent puts there
  pub turn_written : Good D l → {o out : List ℕ} {k : ℕ} {r : Answer} → r ≡ given k → length l ≤ length o → Result D (turned D l n) o out k → WritesListOf D (FromBlack (Turned D n) (black D l)) o (r, out)
  turn_written g e room x =
      let exactly = turned_exactly D l n in
      put_whole D (turned D l n) _ exactly e (omega (arith, x.count, turned_length g x.cells (result_list D (turned D l n) _ exactly x))) x

-- ---- no second answer

pub one_turn : (D : ℕ) (l : List ℕ) (n : ℕ) (o : List ℕ) → One (λ (t : Answer × List ℕ). TurnOf D l n o t.0 t.1)
one_turn D l n o = one_decided (keeping o) (TooDeep deepest D ∷ Faulty D l 1 ∷ NoTurn n ∷ []) _ (one_refuses, (one_refuses_first, (one_refuses, tt))) (one_list_written D (FromBlack (Turned D n) (black D l)) o)

-- ---- what success says

pub record TurnSuccess (D : ℕ) (l : List ℕ) (n : ℕ) (o : List ℕ) (r : Answer) (after : List ℕ) : Type 0 where
  pub shallow : D ≤ deepest
  pub good : Good D l
  pub few : n ≤ most_turns
  pub result : ListSuccess D (FromBlack (Turned D n) (black D l)) o r after
  -- as many leaves as before
  pub is_count : r.place ≡ length l

pub turn_success : (D : ℕ) (l : List ℕ) (n : ℕ) (o : List ℕ) (r : Answer) (after : List ℕ) → TurnOf D l n o r after → r.number ≡ 0 → TurnSuccess D l n o r after
turn_success D l n o r after d z =
    let ((deep, (first, (turns, _))), w) = decided_passed (λ t. t.0.number) (keeping o) (λ x. refl) (TooDeep deepest D ∷ Faulty D l 1 ∷ NoTurn n ∷ []) (WritesListOf D (FromBlack (Turned D n) (black D l)) o) (r, after)
    (refuses_numbered (λ x. omega arith), (faulty_numbered D l 1, (refuses_numbered (λ x. omega arith), tt))) z d in
    let good = not_faulty D l 1 first in
    let result = list_success D (FromBlack (Turned D n) (black D l)) o r after w z in
    let above : most_turns < n → ⊥ = λ h. turns (answer 6 1 0) (h, refl) in
    record { shallow = shallow_enough deep; good = good; few = omega arith; result = result; is_count = result.front.is_length ∙ turned_length D l n good result.made result.is_list }
