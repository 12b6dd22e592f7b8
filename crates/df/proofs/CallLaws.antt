-- The laws of `df_read` and `df_write`: what is told of a text, and then of the room; no second answer fits; and what success says. Assumes nothing.
use mathlib.Core.Path.{◌≡◌, refl, sym, ap, ◌∙◌}
use mathlib.Core.List.{List, [], ◌∷◌, ◌++◌}
use mathlib.Core.Logic.{inl, inr}
use mathlib.Core.Bool.{Bool, true}
use Prim.Native.Nat.{ℕ, ◌≤◌, ◌<◌}
use native.Mathlib.Omega.{arith}
use lib.ListN.{length, take, drop}
use Rattle.cells.specs.Answer.{answer, given, Test, alone, keeping, deepest, TooDeep}
use Rattle.cells.specs.declared.Answer.{Answer}
use Rattle.cells.proofs.Decisions.{One, one_refuses, one_refuses_first, one_decided, passes, deep_enough, refuses_numbered, refuses_first_numbered, Numbered, Passed, shallow_enough, decided_first, decided_passed, decided_next}
use Rattle.records.specs.Record.{Good}
use Rattle.records.specs.Fault.{Faulty}
use Rattle.records.specs.Writing.{WritesOf, WritesListOf}
use Rattle.records.proofs.CallLaws.{checks}
use Rattle.records.proofs.First.{not_faulty}
use Rattle.records.proofs.Fronts.{Front, Written, left_front, writes_success, ListSuccess, list_success}
use Rattle.records.proofs.OneList.{list_same}
use Rattle.records.proofs.Writing.{one_writes}
use Rattle.emit.specs.Inner.{Result}
use Rattle.emit.proofs.Answers.{crowded, written, one_list_written}
use Rattle.df.specs.Df.{shows, Acceptable, WrongByte, StopsEarly, DfReadOf, DfOf, DfWriteOf}
use Rattle.df.specs.Inner.{ReadTextOf}
use Rattle.df.proofs.Spells.{spell_same}
use Rattle.df.proofs.OneText.{one_df}

-- ---- a text is read by one tree at most, as far as its voxels go

pub same_shown : (D : ℕ) {t : List ℕ} (x y : Acceptable D t) (v : ℕ) → shows D x.tree v ≡ shows D y.tree v
same_shown D x y v = (spell_same x.tree y.tree (sym x.spelled ∙ y.spelled)).shown D v

result_same : {D : ℕ} {P Q : ℕ → Bool} {o out : List ℕ} {n : ℕ} → ((v : ℕ) → P v ≡ Q v) → Result D P o out n → Result D Q o out n
result_same same x = record { cells = x.cells; good = x.good; same = λ v h. x.same v h ∙ same v; count = x.count; written = x.written }

-- ---- a text read into the empty part of the buffer o, which counts its leaves, and then into all of it

module _ (D : ℕ) (t o : List ℕ) where
  abbrev tests : List Test
  tests = WrongByte D t ∷ StopsEarly D t ∷ []

  abbrev TextRead : List ℕ → List ℕ → Answer → Type 0
  TextRead b out r = (x : Acceptable D t) × Result D (shows D x.tree) b out r.place × (r ≡ given r.place)

  abbrev ReadInto : Answer × List ℕ → Type 0
  ReadInto s = (x : Acceptable D t) × WritesListOf D (λ v. shows D x.tree v ≡ true) o s

  numbered : Numbered tests
  numbered = (refuses_first_numbered (λ i p e. omega arith), (refuses_numbered (λ e. omega arith), tt))

  known : (b out : List ℕ) (r : Answer) → r.number ≡ 0 → ReadTextOf D t b out r → Passed tests × TextRead b out r
  known b out r z d =
      decided_passed (λ a. a.number) alone (λ a. refl) tests (TextRead b out) r numbered z d

  module _ (shallow : D ≤ deepest) {part : List ℕ} {r : Answer} (counted : ReadTextOf D t (take 0 o) part r) where
    -- the text is wrong
    pub read_refused : (r.number ≡ 0 → ⊥) → length part ≡ 0 → DfReadOf D t o r (part ++ drop 0 o)
    read_refused some none = inr (passes (deep_enough shallow), rw (kept part none) (decided_first (keeping o) alone tests [] (TextRead (take 0 o) part) ReadInto r (λ (x, res, e). absurd (some (ap (λ (a : Answer). a.number) e))) counted))
      where
        kept : (p : List ℕ) → length p ≡ 0 → p ++ o ≡ o
        kept [] e = refl
        kept (x ∷ p) e = absurd (omega arith)

    module _ (z : r.number ≡ 0) where
      -- past the tests, the room decides
      decides : (s : Answer × List ℕ) → ReadInto s → DfReadOf D t o s.0 s.1
      decides s w = inr (passes (deep_enough shallow), decided_next (keeping o) tests [] ReadInto s (known (take 0 o) part r z counted).0 w)

      pub read_crowded : {a : Answer} → a ≡ answer 8 r.place 0 → length (part ++ drop 0 o) < r.place → DfReadOf D t o a (part ++ drop 0 o)
      read_crowded e h = let (x, res, _) = (known (take 0 o) part r z counted).1 in decides _ (x, crowded D (shows D x.tree) (λ v. shows D x.tree v ≡ true) (λ v l. (λ p. p, λ p. p)) res e h)

      pub read_written : {a : Answer} {out : List ℕ} → r.place ≤ length (part ++ drop 0 o) → ReadTextOf D t (part ++ drop 0 o) out a → DfReadOf D t o a out
      read_written {a} {out} h again =
          let (passed, (x, res, _)) = known (take 0 o) part r z counted in
          let (y, res', e) = past passed again in
          decides _ (x, written D (shows D x.tree) (λ v. shows D x.tree v ≡ true) (λ v l. (λ p. p, λ p. p)) res e h (result_same (same_shown D y x) res'))
        where
          past : Passed tests → ReadTextOf D t (part ++ drop 0 o) out a → TextRead (part ++ drop 0 o) out a
          past (wrong, (early, _)) (inl (b, f, _)) = absurd (wrong b f)
          past (wrong, (early, _)) (inr (_, inl (b, f, _))) = absurd (early b f)
          past (wrong, (early, _)) (inr (_, inr (_, w))) = w

-- ---- no second answer

module _ (D : ℕ) (t o : List ℕ) where
  one_read_into : One (ReadInto D t o)
  one_read_into r s (x, w) (y, (l, of_y, u)) =
      one_list_written D (λ v. shows D x.tree v ≡ true) o r s w (l, list_same D _ _ l (λ v h. let e = same_shown D x y v in (λ p. e ∙ p, λ p. sym e ∙ p)) of_y, u)

  pub one_df_read : One (λ (s : Answer × List ℕ). DfReadOf D t o s.0 s.1)
  one_df_read = one_decided (keeping o) (TooDeep deepest D ∷ tests D t o) (ReadInto D t o) (one_refuses, (one_refuses_first, (one_refuses, tt))) one_read_into

module _ (D : ℕ) (l o : List ℕ) where
  -- the text of l is written over o
  abbrev WritesText : Answer × List ℕ → Type 0
  WritesText s = (t : List ℕ) × DfOf D l t × WritesOf t o s

  one_writes_text : One WritesText
  one_writes_text r s (t, x, w) (u, y, z) = one_writes t o r s w (rw (one_df D l t u x y) z)

  pub one_df_write : One (λ (s : Answer × List ℕ). DfWriteOf D l o s.0 s.1)
  one_df_write = one_decided (keeping o) (TooDeep deepest D ∷ Faulty D l 1 ∷ []) WritesText (one_refuses, (one_refuses_first, tt)) one_writes_text

-- ---- what success says

pub record DfReadSuccess (D : ℕ) (t o : List ℕ) (r : Answer) (after : List ℕ) : Type 0 where
  pub shallow : D ≤ deepest
  pub text : Acceptable D t
  pub list : ListSuccess D (λ v. shows D text.tree v ≡ true) o r after

pub df_read_success : (D : ℕ) (t o : List ℕ) (r : Answer) (after : List ℕ) → DfReadOf D t o r after → r.number ≡ 0 → DfReadSuccess D t o r after
df_read_success D t o r after d z =
    let ((deep, _), (x, w)) = decided_passed (λ s. s.0.number) (keeping o) (λ a. refl) (TooDeep deepest D ∷ tests D t o) (ReadInto D t o) (r, after) (refuses_numbered (λ e. omega arith), numbered D t o) z d in
    record { shallow = shallow_enough deep; text = x; list = list_success D (λ v. shows D x.tree v ≡ true) o r after w z }

pub record DfWriteSuccess (D : ℕ) (l o : List ℕ) (r : Answer) (after : List ℕ) : Type 0 where
  pub shallow : D ≤ deepest
  pub good : Good D l
  pub text : List ℕ
  pub is_text : DfOf D l text
  pub is_left : Written text o r after
  pub front : Front text r.place after

pub df_write_success : (D : ℕ) (l o : List ℕ) (r : Answer) (after : List ℕ) → DfWriteOf D l o r after → r.number ≡ 0 → DfWriteSuccess D l o r after
df_write_success D l o r after d z =
    let ((deep, (clean, _)), (t, x, w)) = decided_passed (λ s. s.0.number) (keeping o) (λ a. refl) (TooDeep deepest D ∷ Faulty D l 1 ∷ []) (WritesText D l o) (r, after) (checks D l).numbered z d in
    let e = writes_success t o r after w z in
    record { shallow = shallow_enough deep; good = not_faulty D l 1 clean; text = t; is_text = x; is_left = e; front = left_front t o r after e }
