-- What stands at the front of a lent buffer after a call that succeeded: what a caller's `&buffer[..n]` needs, n the place of the answer. Assumes nothing.
use mathlib.Core.Path.{◌≡◌, refl, sym, ap, ap₂, ◌∙◌}
use mathlib.Core.List.{List, [], ◌∷◌}
use Prim.Native.Nat.{ℕ, ◌≤◌}
use native.Mathlib.Omega.{arith}
use lib.ListN.{length, take, drop, length-append}
use lib.Seq.{take-append_seam, length-take-le}
use Rattle.cells.specs.Answer.{given, Decided, keeping, deepest, TooDeep}
use Rattle.cells.specs.declared.Answer.{Answer}
use Rattle.cells.proofs.Decisions.{shallow_enough, refuses_numbered, decided_passed}
use Rattle.records.specs.Record.{Good, ListOf}
use Rattle.records.specs.Fault.{Faulty}
use Rattle.records.specs.Writing.{stands, TooShort, WritesOf, WritesListOf}
use Rattle.records.proofs.First.{not_faulty}
use Rattle.records.proofs.CallLaws.{checks}

-- t stands at the front of the buffer `after`, and n is its length
pub record Front (t : List ℕ) (n : ℕ) (after : List ℕ) : Type 0 where
  pub is_length : n ≡ length t
  -- the two needs of `&buffer[..n]`
  pub within : n ≤ length after
  pub exact : n ≡ length (take n after)
  -- and what it is
  pub is_front : take n after ≡ t

pub stands_front : (t o : List ℕ) (n : ℕ) (after : List ℕ) → n ≡ length t → after ≡ stands t o → Front t n after
stands_front t o n after counted put =
    let within : n ≤ length after = omega (arith, counted, ap length put, length-append t (drop (length t) o)) in
    record { is_length = counted; within = within; exact = sym (length-take-le n after within); is_front = ap₂ take counted put ∙ take-append_seam t (drop (length t) o) }

-- ---- a call that writes t over the buffer o, and succeeds

-- what the answer and the buffer are then
abbrev pub Written : List ℕ → List ℕ → Answer → List ℕ → Type 0
Written t o r after = ◌≡◌ {A = Answer × List ℕ} (r, after) (given (length t), stands t o)

pub left_front : (t o : List ℕ) (r : Answer) (after : List ℕ) → Written t o r after → Front t r.place after
left_front t o r after e = stands_front t o r.place after (ap (λ (s : Answer × List ℕ). s.0.place) e) (ap (λ (s : Answer × List ℕ). s.1) e)

pub writes_success : (t o : List ℕ) (r : Answer) (after : List ℕ) → WritesOf t o (r, after) → r.number ≡ 0 → Written t o r after
writes_success t o r after w z =
    (decided_passed (λ s. s.0.number) (keeping o) (λ a. refl) (TooShort (length t) o ∷ []) (λ s. s ≡ (given (length t), stands t o)) (r, after) (refuses_numbered (λ x. omega arith), tt) z w).1

-- a call that tests the list l first, and then writes t, a form of it: its file, or its text
pub record FormSuccess (D : ℕ) (l t o : List ℕ) (r : Answer) (after : List ℕ) : Type 0 where
  pub shallow : D ≤ deepest
  pub good : Good D l
  pub is_left : Written t o r after
  pub front : Front t r.place after

pub form_success : (D : ℕ) (l t o : List ℕ) (r : Answer) (after : List ℕ)
    → Decided (keeping o) (TooDeep deepest D ∷ Faulty D l 1 ∷ []) (WritesOf t o) (r, after) → r.number ≡ 0 → FormSuccess D l t o r after
form_success D l t o r after d z =
    let ((deep, (clean, _)), w) = decided_passed (λ s. s.0.number) (keeping o) (λ x. refl) (TooDeep deepest D ∷ Faulty D l 1 ∷ []) (WritesOf t o) (r, after) (checks D l).numbered z d in
    let e = writes_success t o r after w z in
    record { shallow = shallow_enough deep; good = not_faulty D l 1 clean; is_left = e; front = left_front t o r after e }

-- a call that writes the good list of the voxels that have P
pub record ListSuccess (D : ℕ) (P : ℕ → Type 0) (o : List ℕ) (r : Answer) (after : List ℕ) : Type 0 where
  pub made : List ℕ
  pub is_list : ListOf D P made
  pub is_left : Written made o r after
  pub front : Front made r.place after

pub list_success : (D : ℕ) (P : ℕ → Type 0) (o : List ℕ) (r : Answer) (after : List ℕ) → WritesListOf D P o (r, after) → r.number ≡ 0 → ListSuccess D P o r after
list_success D P o r after (l, x, w) z = let e = writes_success l o r after w z in record { made = l; is_list = x; is_left = e; front = left_front l o r after e }
