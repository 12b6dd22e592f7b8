-- THE LAW OF 001: the labels worked out by tables II to IV, from the last to the first, are the neighbour's, and a carry leaves the first label exactly where there is no
-- neighbour. It is a law of the statement alone. Assumes nothing.
use Rattle.std.proofs.Common.{◌≡◌, ℕ, zero, suc, ◌+◌, ◌*◌, ◌/◌, ◌%◌, ◌^◌, ◌<◌, ◌≤◌, true, eqb, ◌↔◌, [], ◌∷◌, ℤ, sym, refl, subst, inl, inr, one-mul, arith, eqb→eq}
use native.Mathlib.Nat.{zero-div}
use Rattle.cells.specs.Answer.{answer, given, Decided, alone, deepest}
use Rattle.cells.specs.declared.Answer.{Answer}
use Rattle.cells.specs.Cell.{level, proper, index}
use Rattle.cells.specs.Place.{EachAxis, along, Came}
use Rattle.cells.specs.Neighbour.{IsDirection, Neighbour, Outside, NeighbourOf}
use Rattle.cells.specs.Payeur.{digit_of, direction_of, stepped, carried}
use Rattle.cells.proofs.Bools.{clash}
use Rattle.cells.proofs.Decisions.{passes, deep_enough}
use Rattle.cells.proofs.Directions.{forth_step, digits}
use Rattle.cells.proofs.Displacements.{displaced_parts}
use Rattle.cells.proofs.Integers.{above, below}
use Rattle.cells.proofs.NeighbourLaws.{found, beside, one_neighbour, one_neighbour_of}
use Rattle.cells.proofs.Places.{along_lt}
use Rattle.cells.proofs.Rules.{forth}
use Rattle.cells.proofs.Steps.{stepped_sum, carried_lt}
use Rattle.cells.proofs.Table.{at}

-- ---- one axis

module _ (a : ℕ) (axis : a < 3) (k i d : ℕ) (small : d < 27) (z : ℤ) (digit : digit_of z ≡ d / 3 ^ a % 3) where
  -- the step with one added
  one_more : above z + 1 ≡ forth (d / 3 ^ a % 3) + below z
  one_more = subst (λ (g : ℕ). above z + 1 ≡ forth g + below z) digit (forth_step z (omega arith))

  -- no carry out of the first label: the cell comes to stand a step further
  inside : carried k i d ≡ 0 → along (2 ^ a) k i + above z ≡ along (2 ^ a) k (stepped k i d) + below z
  inside e =
      let g : forth (carried k i d / 3 ^ a % 3) * 2 ^ k ≡ 2 ^ k = rw (e, zero-div (3 ^ a)) (one-mul (2 ^ k)) in
      omega (arith, (stepped_sum k i d small).1 a axis, one_more, g)

  -- a cell of the level stands there: no carry out of it along this axis
  no_carry : (j : ℕ) → along (2 ^ a) k i + above z ≡ along (2 ^ a) k j + below z → carried k i d / 3 ^ a % 3 ≡ 0
  no_carry j e = go (carried k i d / 3 ^ a % 3) (omega arith) ((stepped_sum k i d small).1 a axis)
    where
      go : (g : ℕ) → g < 3 → along (2 ^ a) k i + forth (d / 3 ^ a % 3) + 2 ^ k ≡ along (2 ^ a) k (stepped k i d) + forth g * 2 ^ k + 1 → g ≡ 0
      go zero l s = refl
      go (suc zero) l s = absurd (omega (arith, s, one_more, e, along_lt (2 ^ a) k j))
      go (suc (suc zero)) l s = absurd (omega (arith, s, one_more, e, along_lt (2 ^ a) k (stepped k i d)))
      go (suc (suc (suc g))) l s = absurd (omega arith)

-- a direction with no digit is none
no_digits : (n : ℕ) → n < 27 → EachAxis (λ a. n / 3 ^ a % 3 ≡ 0) → n ≡ 0
no_digits n h none =
    let digits : n ≡ n / 1 % 3 + 3 * (n / 3 % 3) + 9 * (n / 9 % 3) = eqb→eq _ _ (at (λ n. eqb n (n / 1 % 3 + 3 * (n / 3 % 3) + 9 * (n / 9 % 3))) 27 tt n h) in
    omega (arith, none 0 (omega arith), none 1 (omega arith), none 2 (omega arith))

-- ---- the k labels i, and a direction d

module _ (k i : ℕ) (d : ℕ → ℤ) (is : IsDirection d) where
  abbrev n : ℕ
  n = direction_of d

  tables_come : carried k i n ≡ 0 → Came k d i (stepped k i n)
  tables_come e =
      let s = digits d is in
      record {
        root = (stepped_sum k i n s.small).0;
        each = λ a h. (displaced_parts (d a) (along (2 ^ a) k i) (along (2 ^ a) k (stepped k i n))).1 (inside a h k i n s.small (d a) (s.each a h) e);
      }

  came_uncarried : (j : ℕ) → Came k d i j → carried k i n ≡ 0
  came_uncarried j came =
      let s = digits d is in
      no_digits (carried k i n) (carried_lt k i n s.small)
      (λ a h. no_carry a h k i n s.small (d a) (s.each a h) j ((displaced_parts (d a) (along (2 ^ a) k i) (along (2 ^ a) k j)).0 (came.each a h)))

-- ---- the neighbour of a cell c

-- the answer by the carry out of the first label: the address, or 7
abbrev pub told_by : ℕ → ℕ → Answer
told_by zero m = given m
told_by (suc n) m = answer 7 0 0

module _ (D c : ℕ) (d : ℕ → ℤ) where
  -- the carry, and the address of the labels worked out
  abbrev pub carry : ℕ
  carry = carried (level D c) (index D c) (direction_of d)

  abbrev pub address : ℕ
  address = 8 ^ level D c + stepped (level D c) (index D c) (direction_of d)

  module _ (is : IsDirection d) where
    tables_found : carry ≡ 0 → Neighbour D c d address
    tables_found e = found D c d (stepped (level D c) (index D c) (direction_of d)) (tables_come (level D c) (index D c) d is e)

    pub by_tables_lem : (m : ℕ) → Neighbour D c d m ↔ ((carry ≡ 0) × (m ≡ address))
    by_tables_lem m = (
      (λ next. let e = came_uncarried (level D c) (index D c) d is (index D m) (beside D c d m next) in (e, one_neighbour D c d m address next (tables_found e))),
      λ (e, same). subst (Neighbour D c d) (sym same) (tables_found e),
    )

    -- the call's answer: the address, and 7 exactly where a carry leaves the first label
    module _ (deep : D ≤ deepest) (p : proper D c ≡ true) where
      pub told_by_tables : NeighbourOf D c d (told_by carry address)
      told_by_tables = inr (passes (deep_enough deep), inr (passes (clash p), inr (passes (λ none. none is), go carry refl)))
        where
          go : (n : ℕ) → carry ≡ n → Decided alone (Outside D c d ∷ []) (λ r. (m : ℕ) × Neighbour D c d m × (r ≡ given m)) (told_by n address)
          go zero e = let next = tables_found e in inr (passes (λ none. none address next), (address, next, refl))
          go (suc n) e = inl (_, ((λ m next. omega (arith, ((by_tables_lem m).0 next).0)), refl), refl)

      pub answer_by_tables : (r : Answer) → NeighbourOf D c d r → r ≡ told_by carry address
      answer_by_tables r fits = one_neighbour_of D c d r (told_by carry address) fits told_by_tables
