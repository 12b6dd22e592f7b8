-- What follows of a call of join, intersection or difference: no second answer fits, neither another answer nor another buffer; and what success says. Assumes nothing.
use mathlib.Core.Path.{◌≡◌, refl}
use mathlib.Core.List.{List, [], ◌∷◌}
use Prim.Native.Nat.{ℕ, ◌≤◌}
use native.Mathlib.Omega.{arith}
use Rattle.cells.specs.Answer.{Decided, keeping, deepest, TooDeep}
use Rattle.cells.specs.declared.Answer.{Answer}
use Rattle.cells.proofs.Decisions.{One, one_refuses, one_refuses_first, one_decided, refuses_numbered, decided_passed, shallow_enough}
use Rattle.records.specs.Record.{Good}
use Rattle.records.specs.Fault.{Faulty}
use Rattle.records.specs.Writing.{WritesListOf}
use Rattle.records.proofs.First.{not_faulty, faulty_numbered}
use Rattle.records.proofs.Fronts.{ListSuccess, list_success}
use Rattle.emit.proofs.Answers.{one_list_written}
use Rattle.sets.specs.declared.Op.{Op}
use Rattle.sets.specs.Sets.{InResult, SetOf}

pub one_set : (op : Op) (D : ℕ) (a b o : List ℕ) → One (λ (t : Answer × List ℕ). SetOf op D a b o t.0 t.1)
one_set op D a b o =
    one_decided (keeping o) (TooDeep deepest D ∷ Faulty D a 1 ∷ Faulty D b 2 ∷ []) _ (one_refuses, (one_refuses_first, (one_refuses_first, tt)))
    (one_list_written D (InResult op D a b) o)

-- ---- what success says, of any call on two lists that writes the good list of the voxels that have P

pub record PairSuccess (D : ℕ) (a b : List ℕ) (P : ℕ → Type 0) (o : List ℕ) (r : Answer) (after : List ℕ) : Type 0 where
  pub shallow : D ≤ deepest
  pub good_first : Good D a
  pub good_second : Good D b
  pub result : ListSuccess D P o r after

pub pair_success : (D : ℕ) (a b : List ℕ) (P : ℕ → Type 0) (o : List ℕ) (r : Answer) (after : List ℕ)
    → Decided (keeping o) (TooDeep deepest D ∷ Faulty D a 1 ∷ Faulty D b 2 ∷ []) (WritesListOf D P o) (r, after) → r.number ≡ 0 → PairSuccess D a b P o r after
pair_success D a b P o r after d z =
    let ((deep, (first, (second, _))), w) = decided_passed (λ s. s.0.number) (keeping o) (λ x. refl) (TooDeep deepest D ∷ Faulty D a 1 ∷ Faulty D b 2 ∷ []) (WritesListOf D P o) (r, after)
    (refuses_numbered (λ x. omega arith), (faulty_numbered D a 1, (faulty_numbered D b 2, tt))) z d in
    record { shallow = shallow_enough deep; good_first = not_faulty D a 1 first; good_second = not_faulty D b 2 second; result = list_success D P o r after w z }

-- of the set calls
pub set_success : (op : Op) (D : ℕ) (a b o : List ℕ) (r : Answer) (after : List ℕ) → SetOf op D a b o r after → r.number ≡ 0 → PairSuccess D a b (InResult op D a b) o r after
set_success op D a b o = pair_success D a b (InResult op D a b) o
