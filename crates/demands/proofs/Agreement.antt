-- Tests that two answers with the lists written agree, that a list is good, and how the room of a buffer decides. Assumes nothing.
use mathlib.Core.Path.{◌≡◌, refl, ap, ap₂, ◌∙◌, subst}
use mathlib.Core.Bool.{Bool, true, false, ◌&&◌}
use mathlib.Core.Logic.{inr}
use mathlib.Core.List.{List, [], ◌∷◌}
use Prim.Native.Nat.{ℕ, ◌≤◌, ◌<◌, zero-le}
use native.Mathlib.Omega.{arith}
use lib.Dec.{leb, eqb}
use lib.ListN.{length}
use borrow.Author.Tests.{leb-true, leb-false, eqb-true}
use Rattle.cells.specs.Answer.{answer, given, Decided, keeping, deepest, TooDeep}
use Rattle.cells.specs.declared.Answer.{Answer}
use Rattle.cells.proofs.Bools.{both_true, clash}
use Rattle.records.specs.Record.{Good, ListOf}
use Rattle.records.specs.Fault.{all_from, fault, Faulty}
use Rattle.records.specs.Writing.{stands, WritesOf, WritesListOf}
use Rattle.records.proofs.Fill.{all_true}
use Rattle.records.proofs.First.{faultless_iff_good, good_passes}
use Rattle.records.proofs.Writing.{too_short, writes_fitting}
use Rattle.demands.proofs.Outcomes.{Left, not_deep}

-- ---- equal lists and equal answers, as tests

abbrev pub equal : List ℕ → List ℕ → Bool
equal [] [] = true
equal [] (y ∷ ys) = false
equal (x ∷ xs) [] = false
equal (x ∷ xs) (y ∷ ys) = eqb x y && equal xs ys

equal_is : (l m : List ℕ) → equal l m ≡ true → l ≡ m
equal_is [] [] e = refl
equal_is [] (y ∷ ys) e = absurd (clash e refl)
equal_is (x ∷ xs) [] e = absurd (clash e refl)
equal_is (x ∷ xs) (y ∷ ys) e = let (p, q) = both_true (eqb x y) (equal xs ys) e in ap₂ (λ (a : ℕ) (l : List ℕ). a ∷ l) (eqb-true x y p) (equal_is xs ys q)

abbrev pub same_answer_of : Answer → Answer → Bool
same_answer_of a b = eqb a.number b.number && (eqb a.place b.place && eqb a.list b.list)

pub same_answer : (a b : Answer) → same_answer_of a b ≡ true → a ≡ b
same_answer a b e =
    let (p, f) = both_true (eqb a.number b.number) (eqb a.place b.place && eqb a.list b.list) e in
    let (q, r) = both_true (eqb a.place b.place) (eqb a.list b.list) f in
    ap (λ (n : ℕ). answer n a.place a.list) (eqb-true _ _ p) ∙ ap₂ (answer b.number) (eqb-true _ _ q) (eqb-true _ _ r)

-- what a call leaves, with the list that it wrote in the buffer's place
abbrev pub agrees : Left → Answer → List ℕ → Bool
agrees t r w = same_answer_of t.0 r && equal t.1 w

pub agrees_is : (t : Left) (r : Answer) (w : List ℕ) → agrees t r w ≡ true → t ≡ (r, w)
agrees_is t r w e =
    let (p, q) = both_true (same_answer_of t.0 r) (equal t.1 w) e in
    ap₂ (λ (a : Answer) (l : List ℕ). (a, l)) (same_answer t.0 r p) (equal_is t.1 w q)

-- what is left of the buffer o where a list is written at its front
abbrev pub leaving : List ℕ → Left → Left
leaving o t = (t.0, stands t.1 o)

-- ---- good lists

-- none of the first n leaves has a fault
abbrev pub faultless : ℕ → List ℕ → ℕ → Bool
faultless D l n = all_from (λ i. eqb (fault D l i) 0) 0 n

pub faultless_is : (D : ℕ) (l : List ℕ) (n : ℕ) → faultless D l n ≡ true → (i : ℕ) → i < n → fault D l i ≡ 0
faultless_is D l n e i h = eqb-true _ _ (all_true (λ j. eqb (fault D l j) 0) 0 n e i zero-le (omega arith))

abbrev pub good_at : ℕ → List ℕ → Bool
good_at D l = leb D deepest && faultless D l (length l)

pub good_at_is : (D : ℕ) (l : List ℕ) → good_at D l ≡ true → (D ≤ deepest) × Good D l
good_at_is D l e =
    let (p, q) = both_true (leb D deepest) (faultless D l (length l)) e in
    (leb-true D deepest p, (faultless_iff_good D l).0 (faultless_is D l (length l) q))

-- ---- a list to be written to a buffer of n places

abbrev pub in_room : Bool → List ℕ → Left
in_room true l = (given (length l), l)
in_room false l = (answer 8 (length l) 0, [])

abbrev pub roomed : ℕ → List ℕ → Left
roomed n l = in_room (leb (length l) n) l

pub told_roomed : (D : ℕ) (Q : ℕ → Type 0) (o l : List ℕ) → ListOf D Q l → (r : Answer) (w : List ℕ) → agrees (roomed (length o) l) r w ≡ true → WritesListOf D Q o (leaving o (r, w))
told_roomed D Q o l x r w e = subst (λ (t : Left). WritesListOf D Q o (leaving o t)) (agrees_is (roomed (length o) l) r w e) (told (leb (length l) (length o)) refl)
  where
    told : (t : Bool) → leb (length l) (length o) ≡ t → WritesListOf D Q o (leaving o (in_room t l))
    told true h = (l, x, writes_fitting l o (leb-true _ _ h))
    told false h = (l, x, too_short l o _ refl _ _ (leb-false _ _ h) refl refl)

-- the file or the text t of a good list, and a buffer that is too short for it
pub list_crowded : (D : ℕ) (l t o : List ℕ) (n : ℕ) → n ≡ length t → D ≤ deepest → Good D l → length o < n
    → Decided (keeping o) (TooDeep deepest D ∷ Faulty D l 1 ∷ []) (WritesOf t o) (answer 8 n 0, o)
list_crowded D l t o n counted h g short = inr (not_deep D h, inr (good_passes D l 1 g, too_short t o n counted _ _ short refl refl))
