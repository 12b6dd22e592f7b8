-- Calls worked out: a test that antt computes for each kind of row, and the law that a row which passes fits the definition that is the call's contract.
-- Assumes nothing.
use mathlib.Core.Path.{◌≡◌, refl, sym, subst}
use mathlib.Core.Logic.{inl, inr}
use mathlib.Core.Bool.{Bool, true, false, not, ◌&&◌}
use mathlib.Core.List.{List, [], ◌∷◌}
use Prim.Native.Nat.{ℕ, ◌^◌}
use native.Mathlib.Omega.{arith}
use lib.Dec.{leb, ltb, eqb}
use lib.IntN.{ℤ}
use lib.ListN.{length}
use borrow.Author.Tests.{leb-true, ltb-true, eqb-false, not-true}
use Rattle.cells.specs.Answer.{answer, given, First, Decided, alone, deepest}
use Rattle.cells.specs.Cell.{proper}
use Rattle.cells.specs.Neighbour.{NeighbourOf}
use Rattle.cells.specs.Payeur.{digit_of, direction_of}
use Rattle.cells.specs.Place.{axes, all_axes}
use Rattle.cells.specs.declared.Answer.{Answer}
use Rattle.cells.proofs.Bools.{both_true}
use Rattle.cells.proofs.ByTables.{told_by, carry, address, told_by_tables}
use Rattle.cells.proofs.Directions.{directed}
use Rattle.cells.proofs.Places.{each_true}
use Rattle.records.specs.Record.{black, ListOf}
use Rattle.records.specs.Count.{count}
use Rattle.records.specs.Fault.{fault, Faulty}
use Rattle.records.specs.Calls.{CheckOf}
use Rattle.records.specs.Writing.{stands}
use Rattle.records.proofs.Fill.{good_list}
use Rattle.records.proofs.First.{faultless_iff_good, good_passes}
use Rattle.records.proofs.OneList.{good_list_lem, list_same}
use Rattle.sets.specs.declared.Op.{Op}
use Rattle.sets.specs.Inner.{both}
use Rattle.sets.specs.Sets.{InResult, SetOf}
use Rattle.sets.proofs.Pieces.{exactly}
use Rattle.demands.specs.Examples.{Row, moves, makes, checks, measures, steps, becomes, Fits, All}
use Rattle.demands.proofs.Outcomes.{not_deep}
use Rattle.demands.proofs.Agreement.{same_answer_of, same_answer, agrees, faultless, faultless_is, good_at, good_at_is, roomed, told_roomed}
use Rattle.demands.proofs.WorkedMoves.{in_voxels, moves_well, moves_fits, is_taken, becomes_fits}

-- ---- join, intersection and difference

abbrev makes_well : Op → ℕ → List ℕ → List ℕ → ℕ → Answer → List ℕ → Bool
makes_well op D a b n r w = good_at D a && (good_at D b && agrees (roomed n (good_list D (both op D a b))) r w)

makes_fits : (op : Op) (D : ℕ) (a b o : List ℕ) (r : Answer) (w : List ℕ) → makes_well op D a b (length o) r w ≡ true → SetOf op D a b o r (stands w o)
makes_fits op D a b o r w e =
    let (p, f) = both_true (good_at D a) (good_at D b && agrees (roomed (length o) (good_list D (both op D a b))) r w) e in
    let (q, g) = both_true (good_at D b) (agrees (roomed (length o) (good_list D (both op D a b))) r w) f in
    let (h, ga) = good_at_is D a p in
    let (_, gb) = good_at_is D b q in
    let x : ListOf D (InResult op D a b) (good_list D (both op D a b)) = list_same D _ _ _ (exactly op D a b) (good_list_lem D (both op D a b)) in
    inr (not_deep D h, inr (good_passes D a 1 ga, inr (good_passes D b 2 gb, told_roomed D _ o _ x r w g)))

-- ---- the neighbour

module _ (D c : ℕ) (d : ℕ → ℤ) where
  -- a direction that is no direction is not asked for
  abbrev is_directed : Bool
  is_directed = all_axes (λ a. leb (digit_of (d a)) 2) && leb 1 (direction_of d)

  abbrev by_tables : Answer
  by_tables = told_by (carry D c d) (address D c d)

  abbrev steps_well : Answer → Bool
  steps_well r = leb D deepest && (proper D c && (is_directed && same_answer_of by_tables r))

  steps_fits : (r : Answer) → steps_well r ≡ true → NeighbourOf D c d r
  steps_fits r e =
      let (h, f) = both_true (leb D deepest) (proper D c && (is_directed && same_answer_of by_tables r)) e in
      let (p, g) = both_true (proper D c) (is_directed && same_answer_of by_tables r) f in
      let (q, a) = both_true is_directed (same_answer_of by_tables r) g in
      let (x, y) = both_true (all_axes (λ a. leb (digit_of (d a)) 2)) (leb 1 (direction_of d)) q in
      let some = leb-true 1 (direction_of d) y in
      let is = directed d (λ a l. leb-true _ _ (each_true (λ a. leb (digit_of (d a)) 2) x a l)) (λ z. omega arith) in
      subst (NeighbourOf D c d) (same_answer by_tables r a) (told_by_tables D c d is (leb-true _ _ h) p)

-- ---- the check

-- by whether the list is good: its leaves counted, or the first fault
abbrev judges_well : Bool → ℕ → List ℕ → Answer → Bool
judges_well true D l r = same_answer_of (given (length l)) r
judges_well false D l r =
    ltb r.place (length l)
    && (faultless D l r.place && (not (eqb (fault D l r.place) 0) && same_answer_of (answer (fault D l r.place) r.place 1) r))

abbrev checks_well : ℕ → List ℕ → Answer → Bool
checks_well D l r = leb D deepest && judges_well (faultless D l (length l)) D l r

checks_fits : (D : ℕ) (l : List ℕ) (r : Answer) → checks_well D l r ≡ true → CheckOf D l r
checks_fits D l r e =
    let (h, f) = both_true (leb D deepest) (judges_well (faultless D l (length l)) D l r) e in
    inr (not_deep D (leb-true _ _ h), go (faultless D l (length l)) refl f)
  where
    go : (t : Bool) → faultless D l (length l) ≡ t → judges_well t D l r ≡ true → Decided alone (Faulty D l 1 ∷ []) (λ (s : Answer). s ≡ given (length l)) r
    go true g a = inr (good_passes D l 1 ((faultless_iff_good D l).0 (faultless_is D l (length l) g)), sym (same_answer (given (length l)) r a))
    go false g a =
        let n : ℕ = r.place in
        let bad : Bool = not (eqb (fault D l n) 0) in
        let (p, f) = both_true (ltb n (length l)) (faultless D l n && (bad && same_answer_of (answer (fault D l n) n 1) r)) a in
        let (q, f') = both_true (faultless D l n) (bad && same_answer_of (answer (fault D l n) n 1) r) f in
        let (b, s) = both_true bad (same_answer_of (answer (fault D l n) n 1) r) f' in
        let first : First (length l) (λ i. fault D l i ≡ 0 → ⊥) n = record { below = ltb-true _ _ p; here = eqb-false _ _ (not-true _ b); before = λ j k no. no (faultless_is D l n q j k) } in
        inl (r, (n, first, sym (same_answer (answer (fault D l n) n 1) r s)), refl)

-- ---- a row

abbrev works : Row → Bool
works (moves D l m n r w) = good_at D l && moves_well (in_voxels m) D l n r w
works (makes op D a b n r w) = makes_well op D a b n r w
works (checks D l r) = checks_well D l r
works (measures D l r) = good_at D l && same_answer_of (given (count (black D l) (8 ^ D))) r
works (steps D c dx dy dz r) = steps_well D c (axes dx dy dz) r
works (becomes m i j k) = is_taken (in_voxels m) i j k

pub fits : (x : Row) → works x ≡ true → Fits x
fits (moves D l m n r w) e = λ o h. moves_fits D l m o r w (rw h e)
fits (makes op D a b n r w) e = λ o h. makes_fits op D a b o r w (rw h e)
fits (checks D l r) e = checks_fits D l r e
fits (measures D l r) e =
    let (p, a) = both_true (good_at D l) (same_answer_of (given (count (black D l) (8 ^ D))) r) e in
    let (h, g) = good_at_is D l p in
    inr (not_deep D h, inr (good_passes D l 1 g, sym (same_answer (given (count (black D l) (8 ^ D))) r a)))
fits (steps D c dx dy dz r) e = steps_fits D c (axes dx dy dz) r e
fits (becomes m i j k) e = becomes_fits m i j k e

-- ---- a table

abbrev pub all_work : List Row → Bool
all_work [] = true
all_work (x ∷ rows) = works x && all_work rows

pub all_fit : (rows : List Row) → all_work rows ≡ true → All Fits rows
all_fit [] e = tt
all_fit (x ∷ rows) e = let (p, q) = both_true (works x) (all_work rows) e in (fits x p, all_fit rows q)
