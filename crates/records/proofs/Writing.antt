-- Laws of what is written to the front of a lent buffer: counted on none of it, and then written over it. Assumes nothing.
use mathlib.Core.Path.{◌≡◌, refl, sym, ap, ap₂, ◌∙◌}
use mathlib.Core.List.{List, [], ◌∷◌, ◌++◌, append-nil}
use mathlib.Core.Logic.{inl, inr}
use Prim.Native.Nat.{ℕ, suc, ◌+◌, ◌≤◌, ◌<◌}
use native.Mathlib.Nat.{add-suc, suc-add, add-zero, zero-add}
use native.Mathlib.Omega.{arith}
use lib.ListN.{length, set, take, drop, drop_of_length-le}
use lib.Seq.{sets, sets-eq, length-take-le}
use Rattle.cells.specs.Answer.{answer, given, Test, Decided, alone, keeping, deepest, TooDeep}
use Rattle.cells.specs.declared.Answer.{Answer}
use Rattle.cells.proofs.Decisions.{One, one_equal, one_refuses, one_refuses_first, one_decided, passes, deep_enough, Opening, opening_given, opening_passes}
use Rattle.records.specs.Record.{Good}
use Rattle.records.specs.Fault.{Faulty}
use Rattle.records.specs.Writing.{stands, TooShort, WritesOf}
use Rattle.records.proofs.First.{good_passes}
use Rattle.records.proofs.CallLaws.{checks}

-- ---- runs of stores; a store past the end changes nothing

pub sets_append : (o : List ℕ) (n : ℕ) (l m : List ℕ) → sets o n (l ++ m) ≡ sets (sets o n l) (n + length l) m
sets_append o n [] m = ap (λ (k : ℕ). sets o k m) (sym (add-zero n))
sets_append o n (c ∷ l) m = sets_append (set o n c) (suc n) l m ∙ ap (λ (k : ℕ). sets (sets (set o n c) (suc n) l) k m) (suc-add n (length l) ∙ sym (add-suc n (length l)))

pub sets_empty : (n : ℕ) (l : List ℕ) → sets [] n l ≡ []
sets_empty n [] = refl
sets_empty n (c ∷ l) = sets_empty (suc n) l

-- over the empty part of a buffer, which leaves it as it was
pub sets_counted : (o e t : List ℕ) → e ≡ sets (take 0 o) 0 t → e ++ drop 0 o ≡ o
sets_counted o e t p = ap (λ (x : List ℕ). x ++ o) (p ∙ sets_empty 0 t)

-- where they fit, they stand at the front
pub sets_front : (o t : List ℕ) → length t ≤ length o → sets o 0 t ≡ stands t o
sets_front o t h = sets-eq t o 0 (omega arith) ∙ ap (λ (k : ℕ). t ++ drop k o) (zero-add (length t))

-- over just the part of a buffer that they need
pub sets_stands : (o e t : List ℕ) (n : ℕ) → n ≡ length t → n ≤ length o → e ≡ sets (take n o) 0 t → e ++ drop n o ≡ stands t o
sets_stands o e t n counted room p =
    let size = length-take-le n o room in
    let none : drop (length t) (take n o) ≡ [] = drop_of_length-le (take n o) {i = length t} (omega (arith, size)) in
    ap₂ (λ (x : List ℕ) (k : ℕ). x ++ drop k o) (p ∙ sets_front (take n o) t (omega (arith, size)) ∙ ap (λ (x : List ℕ). t ++ x) none ∙ append-nil t) counted

-- ---- a call that writes t over o

module _ (t o : List ℕ) where
  pub one_writes : One (WritesOf t o)
  one_writes = one_decided (keeping o) (TooShort (length t) o ∷ []) _ (one_refuses, tt) one_equal

  -- where it fits
  pub writes_fitting : length t ≤ length o → WritesOf t o (given (length t), stands t o)
  writes_fitting h = inr (passes (λ x. omega arith), refl)

  module _ (need : ℕ) (counted : need ≡ length t) (r : Answer) (after : List ℕ) where
    pub too_short : length o < need → r ≡ answer 8 need 0 → after ≡ o → WritesOf t o (r, after)
    too_short h e kept = inl (_, (omega (arith, counted), refl), ap₂ (λ (a : Answer) (l : List ℕ). (a, l)) (e ∙ ap (λ (n : ℕ). answer 8 n 0) counted) kept)

    pub standing : need ≤ length o → r ≡ given need → after ≡ stands t o → WritesOf t o (r, after)
    standing h e put = inr (passes (λ x. omega (arith, counted)), ap₂ (λ (a : Answer) (l : List ℕ). (a, l)) (e ∙ ap given counted) put)

  -- where a list is tested first, which gives the answer a of another call: a refusal is passed on, else the room decides
  module _ (D : ℕ) (l : List ℕ) where
    abbrev tests : List Test
    tests = TooDeep deepest D ∷ Faulty D l 1 ∷ []

    abbrev ListWrites : Answer × List ℕ → Type 0
    ListWrites = Decided (keeping o) tests (WritesOf t o)

    pub one_list_writes : One ListWrites
    one_list_writes = one_decided (keeping o) tests _ (one_refuses, (one_refuses_first, tt)) one_writes

    pub list_fitting : D ≤ deepest → Good D l → length t ≤ length o → ListWrites (given (length t), stands t o)
    list_fitting h g room = inr (passes (deep_enough h), inr (good_passes D l 1 g, writes_fitting room))

    module _ (n : ℕ) (a : Answer) (d : Decided alone tests (λ x. x ≡ given n) a) where
      opens : Opening tests (λ x. x ≡ given n) (λ x. Unit {0})
      opens = opening_given (checks D l).numbered (λ passed. tt)

      pub list_written : a.number ≡ 0 → (r : Answer) (after : List ℕ) → WritesOf t o (r, after) → ListWrites (r, after)
      list_written z r after w = opening_passes opens a d (keeping o) [] (WritesOf t o) (r, after) z w
