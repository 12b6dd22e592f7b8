-- What follows of the move call: its answer worked out, no second answer fits, and what success says. Assumes nothing.
use mathlib.Core.Path.{◌≡◌, refl}
use mathlib.Core.Logic.{inl, inr}
use mathlib.Core.Bool.{Bool, true, false}
use mathlib.Core.List.{List, [], ◌∷◌}
use Prim.Native.Nat.{ℕ, ◌<◌, ◌≤◌, zero-le}
use native.Mathlib.Omega.{arith}
use lib.IntN.{ℤ}
use lib.ListN.{length, get_or}
use Rattle.cells.specs.Answer.{answer, Decided, keeping, deepest, TooDeep}
use Rattle.cells.specs.Place.{axes, Came}
use Rattle.cells.specs.declared.Answer.{Answer}
use Rattle.cells.proofs.Bools.{clash}
use Rattle.cells.proofs.Decisions.{One, one_refuses, one_refuses_first, one_decided, passes, deep_enough, shallow_enough, refuses_numbered, refuses_first_numbered, decided_passed}
use Rattle.records.specs.Record.{black, Ordered, Good, ListOf}
use Rattle.records.specs.Fault.{all_from, Faulty}
use Rattle.records.specs.Carried.{FromBlack, Straying}
use Rattle.records.specs.Writing.{WritesListOf}
use Rattle.records.proofs.First.{good_passes, not_faulty, faulty_numbered}
use Rattle.records.proofs.Fill.{all_true, good_list}
use Rattle.records.proofs.OneList.{good_list_lem, list_same}
use Rattle.records.proofs.Carrying.{Accepted, accepted_passes}
use Rattle.records.proofs.Fronts.{ListSuccess, list_success}
use Rattle.emit.proofs.Answers.{one_list_written}
use Rattle.metres.specs.Metres.{move_tests, Becomes}
use Rattle.metres.specs.declared.Move.{Move}
use Rattle.metres.proofs.TakenLaws.{one_move_tests, move_tests_numbered, one_becomes}
use Rattle.shifts.specs.Shift.{shifted}
use Rattle.moves.specs.Moves.{ShiftOf, ByVoxels, MoveOf}
use Rattle.moves.specs.Inner.{leaf_keeps, back}
use Rattle.moves.proofs.Acceptance.{split_of, splits_of, first_strays, all_stay}
use Rattle.moves.proofs.Back.{shifted_exactly}

-- ---- the answer worked out

-- past the tests of the depth, the list and the move
pub move_of : (D : ℕ) (l : List ℕ) (m : Move) (o : List ℕ) (r : Answer) (o' : List ℕ) → D ≤ deepest → Good D l
    → Decided (keeping o) (move_tests m) (ByVoxels m (λ d. ShiftOf D l d o)) (r, o') → MoveOf D l m o r o'
move_of D l m o r o' h good d = inr (passes (deep_enough h), inr (good_passes D l 1 good, d))

module _ (D : ℕ) (l : List ℕ) (d : ℕ → ℤ) where
  -- whether each of the first n leaves stays
  abbrev pub stay : ℕ → Bool
  stay n = all_from (λ i. leaf_keeps D (split_of d) (get_or l i 0)) 0 n

  stays : (n : ℕ) → stay n ≡ true → (i : ℕ) → i < n → leaf_keeps D (split_of d) (get_or l i 0) ≡ true
  stays n e i h = all_true (λ j. leaf_keeps D (split_of d) (get_or l j 0)) 0 n e i zero-le (omega arith)

  module _ (o : Ordered D 0 l) where
    pub stays_accepted : stay (length l) ≡ true → Accepted D (Came D d) l
    stays_accepted e = all_stay D d (split_of d) (splits_of d) l o (stays (length l) e)

    -- the displaced voxels as a list
    pub moved_list : Accepted D (Came D d) l → ListOf D (FromBlack (Came D d) (black D l)) (good_list D (shifted D l (back D (split_of d))))
    moved_list ok = list_same D (λ v. shifted D l (back D (split_of d)) v ≡ true) (FromBlack (Came D d) (black D l)) _ (shifted_exactly D d (split_of d) (splits_of d) l o ok) (good_list_lem D (shifted D l (back D (split_of d))))

    -- the first leaf that strays is told
    pub strays_told : (buffer : List ℕ) (n : ℕ) → n < length l → stay n ≡ true → leaf_keeps D (split_of d) (get_or l n 0) ≡ false → ShiftOf D l d buffer (answer 7 n 1, buffer)
    strays_told buffer n h e f = inl (_, (n, first_strays D d (split_of d) (splits_of d) l o (record { below = h; here = f; before = λ j k no. clash (stays n e j k) no }), refl), refl)

  -- else the room decides
  pub room_told : (buffer : List ℕ) (t : Answer × List ℕ) → Accepted D (Came D d) l → WritesListOf D (FromBlack (Came D d) (black D l)) buffer t → ShiftOf D l d buffer t
  room_told buffer t ok told = inr (accepted_passes D (Came D d) l ok, told)

-- ---- no second answer

pub one_shift : (D : ℕ) (l : List ℕ) (d : ℕ → ℤ) (o : List ℕ) → One (ShiftOf D l d o)
one_shift D l d o = one_decided (keeping o) (Straying D (Came D d) l ∷ []) _ (one_refuses_first, tt) (one_list_written D (FromBlack (Came D d) (black D l)) o)

-- a move becomes whole voxels in one way, whatever is moved
pub one_by_voxels : (m : Move) (S : (ℕ → ℤ) → Answer × List ℕ → Type 0) → ((d : ℕ → ℤ) → One (S d)) → One (ByVoxels m S)
one_by_voxels m S one r s (i, j, k, b, h) (i', j', k', b', h') =
    let same = one_becomes m (axes i j k) (axes i' j' k') b b' in
    one (axes i j k) r s h (rw (same 0 (omega arith), same 1 (omega arith), same 2 (omega arith)) h')

pub one_move : (D : ℕ) (l : List ℕ) (m : Move) (o : List ℕ) → One (λ (t : Answer × List ℕ). MoveOf D l m o t.0 t.1)
one_move D l m o =
    one_decided (keeping o) (TooDeep deepest D ∷ Faulty D l 1 ∷ move_tests m) _ (one_refuses, (one_refuses_first, one_move_tests m)) (one_by_voxels m (λ d. ShiftOf D l d o) (λ d. one_shift D l d o))

-- ---- what success says

pub record MoveSuccess (D : ℕ) (l : List ℕ) (m : Move) (o : List ℕ) (r : Answer) (after : List ℕ) : Type 0 where
  pub shallow : D ≤ deepest
  pub good : Good D l
  -- the displacement along each axis
  pub by : ℕ → ℤ
  pub becomes : Becomes m by
  pub result : ListSuccess D (FromBlack (Came D by) (black D l)) o r after

-- of a shift
shift_success : (D : ℕ) (l : List ℕ) (d : ℕ → ℤ) (o : List ℕ) (r : Answer) (after : List ℕ) → ShiftOf D l d o (r, after) → r.number ≡ 0 → ListSuccess D (FromBlack (Came D d) (black D l)) o r after
shift_success D l d o r after s z =
    let (_, w) = decided_passed (λ t. t.0.number) (keeping o) (λ x. refl) (Straying D (Came D d) l ∷ []) (WritesListOf D (FromBlack (Came D d) (black D l)) o) (r, after)
    (refuses_first_numbered (λ i x e. omega arith), tt) z s in
    list_success D (FromBlack (Came D d) (black D l)) o r after w z

pub move_success : (D : ℕ) (l : List ℕ) (m : Move) (o : List ℕ) (r : Answer) (after : List ℕ) → MoveOf D l m o r after → r.number ≡ 0 → MoveSuccess D l m o r after
move_success D l m o r after d z =
    let ((deep, (first, _)), (i, j, k, b, s)) = decided_passed (λ t. t.0.number) (keeping o) (λ x. refl) (TooDeep deepest D ∷ Faulty D l 1 ∷ move_tests m) (ByVoxels m (λ d. ShiftOf D l d o)) (r, after)
    (refuses_numbered (λ x. omega arith), (faulty_numbered D l 1, move_tests_numbered m)) z d in
    record { shallow = shallow_enough deep; good = not_faulty D l 1 first; by = axes i j k; becomes = b; result = shift_success D l (axes i j k) o r after s z }
