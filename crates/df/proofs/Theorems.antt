-- What follows of the calls `df_read` and `df_write`: each good list has one text, and each acceptable text is one good list's; a list written and read is itself,
-- and so is a text read and written. Each law takes the calls' own definitions. Assumes nothing.
use mathlib.Core.Path.{◌≡◌, refl, sym, ap, ◌∙◌, subst}
use mathlib.Core.Bool.{Bool, true, false}
use mathlib.Core.List.{List}
use mathlib.Core.Logic.{inl, inr, ◌↔◌}
use Prim.Native.Nat.{ℕ, zero, suc, ◌+◌, ◌*◌, ◌^◌, ◌≤◌, ◌<◌}
use native.Mathlib.Nat.{zero-mul}
use native.Mathlib.Omega.{arith}
use lib.Dec.{eqb}
use lib.ListN.{length, take, drop, take-append-drop}
use borrow.Author.Tests.{eqb-true, eqb-false}
use Rattle.cells.specs.Answer.{given, deepest}
use Rattle.cells.specs.declared.Answer.{Answer}
use Rattle.cells.proofs.Bools.{same_truth}
use Rattle.cells.proofs.Decisions.{passes, passes_first, deep_enough}
use Rattle.records.specs.Record.{black, Good, ListOf}
use Rattle.records.specs.Fault.{all_from}
use Rattle.records.specs.Writing.{stands, WritesOf}
use Rattle.records.proofs.Fill.{good_list, all_true, all_false}
use Rattle.records.proofs.First.{good_passes}
use Rattle.records.proofs.Fronts.{Front, left_front, writes_success}
use Rattle.records.proofs.Most.{most, most_leaves}
use Rattle.records.proofs.Maximal.{one_good_list}
use Rattle.records.proofs.OneList.{good_list_lem}
use Rattle.records.proofs.Writing.{one_writes, writes_fitting}
use Rattle.df.specs.Df.{Tree, leaf, gray, letter, spell, Allowed, shows, Acceptable, Begins, DfReadOf, DfOf, DfWriteOf}
use Rattle.df.specs.Inner.{TreeOf, most_bytes, head_of}
use Rattle.df.proofs.Kids.{child_of, gray_shown}
use Rattle.df.proofs.Spells.{head_leaf}
use Rattle.df.proofs.OneText.{one_df, spell_short}
use Rattle.df.proofs.CallLaws.{same_shown, df_read_success, df_write_success}

-- ---- each set of voxels has a tree

-- whether the children c are eight leaves of colour x
abbrev all_one_of : (ℕ → Tree) → Bool → Bool
all_one_of c x = all_from (λ m. eqb (head_of (c m)) (letter x)) 0 8

-- of two tests: whether they are black, whether they are white
abbrev leaf_or : (ℕ → Tree) → Bool → Bool → Tree
leaf_or c true white = leaf true
leaf_or c false true = leaf false
leaf_or c false false = gray c

-- the tree of a cell with the children c
abbrev tree_with : (ℕ → Tree) → Tree
tree_with c = leaf_or c (all_one_of c true) (all_one_of c false)

-- the tree of the cell of number b with n levels left, where P are the black voxels
unfoldable pub drawn : (ℕ → Bool) → ℕ → ℕ → Tree
drawn P zero b = leaf (P b)
drawn P (suc n) b = tree_with (λ m. drawn P n (8 * b + m))

module _ (P : ℕ → Bool) (n b : ℕ) (c : ℕ → Tree) (trees : (m : ℕ) → m < 8 → TreeOf P n (8 * b + m) (c m)) where
  all_leaves : (x : Bool) → all_one_of c x ≡ true → (m : ℕ) → m < 8 → c m ≡ leaf x
  all_leaves x e m h = head_leaf (c m) x (eqb-true _ _ (all_true (λ i. eqb (head_of (c i)) (letter x)) 0 8 e m (omega arith) (omega arith)))

  -- eight leaves of one colour are one
  leaf_tree : (x : Bool) → all_one_of c x ≡ true → TreeOf P (suc n) b (leaf x)
  unfolding Allowed shows
  leaf_tree x e = record {
    allowed = tt;
    shown = λ v lo hi. let (m, h, from, to) = child_of n b v lo hi in sym (ap (λ (T : Tree). shows n T v) (all_leaves x e m h)) ∙ (trees m h).shown v from to;
  }

  not_leaves : (x : Bool) → all_one_of c x ≡ false → ((m : ℕ) → m < 8 → c m ≡ leaf x) → ⊥
  unfolding head_of
  not_leaves x e all = let (m, _, h, other) = all_false (λ i. eqb (head_of (c i)) (letter x)) 0 8 e in eqb-false _ _ other (ap head_of (all m (omega arith)))

  leaf_or_tree : (x y : Bool) → all_one_of c true ≡ x → all_one_of c false ≡ y → TreeOf P (suc n) b (leaf_or c x y)
  unfolding Allowed
  leaf_or_tree true y e f = leaf_tree true e
  leaf_or_tree false true e f = leaf_tree false f
  leaf_or_tree false false e f = record { allowed = (λ m h. (trees m h).allowed, λ x. not_leaves x (neither x)); shown = gray_shown P n b c trees }
    where
      neither : (x : Bool) → all_one_of c x ≡ false
      neither true = e
      neither false = f

is_drawn : (P : ℕ → Bool) (n b : ℕ) → TreeOf P n b (drawn P n b)
unfolding drawn Allowed shows
is_drawn P zero b = record { allowed = tt; shown = λ v lo hi. ap P (omega arith) }
is_drawn P (suc n) b = leaf_or_tree P n b (λ m. drawn P n (8 * b + m)) (λ m h. is_drawn P n (8 * b + m)) _ _ refl refl

-- ---- each good list has one text, and each acceptable text is one good list's

-- the text of the list l
abbrev pub df_text : ℕ → List ℕ → List ℕ
df_text D l = spell (drawn (black D l) D 0)

pub is_text : (D : ℕ) (l : List ℕ) → DfOf D l (df_text D l)
is_text D l = let x = is_drawn (black D l) D 0 in record { text = record { tree = drawn (black D l) D 0; allowed = x.allowed; spelled = refl }; same = λ v h. x.shown v (omega (arith, zero-mul (8 ^ D))) (omega (arith, zero-mul (8 ^ D))) }

-- it has this one and no other
pub df_one_text : (D : ℕ) (l : List ℕ) → (t : List ℕ) × DfOf D l t × ((u : List ℕ) → DfOf D l u → u ≡ t)
df_one_text D l = (df_text D l, is_text D l, λ u x. one_df D l u (df_text D l) x (is_text D l))

-- t is the text of the good list l
pub record Form (D : ℕ) (l t : List ℕ) : Type 0 where
  pub good : Good D l
  pub is_df : DfOf D l t

-- the good list of the voxels that a text's tree shows has that text, and the other way round
shown_form : (D : ℕ) (t l : List ℕ) (x : Acceptable D t) → ListOf D (λ v. shows D x.tree v ≡ true) l → Form D l t
shown_form D t l x y = record { good = y.good; is_df = record { text = x; same = λ v h. let e = y.exactly v h in same_truth _ _ (e.1, e.0) } }

form_shown : {D : ℕ} {l t : List ℕ} (x : Form D l t) → ListOf D (λ v. shows D x.is_df.text.tree v ≡ true) l
form_shown x = record { good = x.good; exactly = λ v h. let e = x.is_df.same v h in (λ b. e ∙ b, λ s. sym e ∙ s) }

-- an acceptable text is a good list's
pub df_some_list : (D : ℕ) (t : List ℕ) → Acceptable D t → (l : List ℕ) × Form D l t
df_some_list D t x = (_, shown_form D t (good_list D (shows D x.tree)) x (good_list_lem D (shows D x.tree)))

-- and of no other
pub df_one_list : (D : ℕ) (t l m : List ℕ) → Form D l t → Form D m t → l ≡ m
df_one_list D t l m x y =
    one_good_list x.good y.good (λ v h. sym (x.is_df.same v h) ∙ same_shown D x.is_df.text y.is_df.text v ∙ y.is_df.same v h)

-- ---- what the calls do with a list and its text

module _ (D : ℕ) (l t : List ℕ) (shallow : D ≤ deepest) (x : Form D l t) (o : List ℕ) (r : Answer) (after : List ℕ) where
  -- all of the text begins acceptably
  begins : (i : ℕ) → Begins D (take (suc i) t)
  begins i = (drop (suc i) t, subst (Acceptable D) (sym (take-append-drop (suc i) t)) x.is_df.text)

  -- to read the text is to write the list
  pub df_read_exactly : DfReadOf D t o r after ↔ WritesOf l o (r, after)
  df_read_exactly = (to, from)
    where
      to : DfReadOf D t o r after → WritesOf l o (r, after)
      to (inl (a, deep, _)) = absurd (passes (deep_enough shallow) a deep)
      to (inr (_, inl (a, wrong, _))) = absurd (passes_first (λ i h none. none (begins i)) a wrong)
      to (inr (_, inr (_, inl (a, early, _)))) = absurd (passes (λ none. none x.is_df.text) a early)
      to (inr (_, inr (_, inr (_, (y, (m, of_y, w)))))) = rw (df_one_list D t l m x (shown_form D t m y of_y)) w

      from : WritesOf l o (r, after) → DfReadOf D t o r after
      from w = inr (passes (deep_enough shallow), inr (passes_first (λ i h none. none (begins i)), inr (passes (λ none. none x.is_df.text), (x.is_df.text, (l, form_shown x, w)))))

  -- and to write the list is to write the text
  pub df_write_exactly : DfWriteOf D l o r after ↔ WritesOf t o (r, after)
  df_write_exactly = (to, from)
    where
      to : DfWriteOf D l o r after → WritesOf t o (r, after)
      to (inl (a, deep, _)) = absurd (passes (deep_enough shallow) a deep)
      to (inr (_, inl (a, bad, _))) = absurd (good_passes D l 1 x.good a bad)
      to (inr (_, inr (_, (u, y, w)))) = rw (one_df D l t u x.is_df y) w

      from : WritesOf t o (r, after) → DfWriteOf D l o r after
      from w = inr (passes (deep_enough shallow), inr (good_passes D l 1 x.good, (t, x.is_df, w)))

-- ---- there and back

-- a call to which t came back, and which was lent the buffer o: 8 with the length of t, or t
pub record Back (t o : List ℕ) (r : Answer) (after : List ℕ) : Type 0 where
  pub told : WritesOf t o (r, after)
  -- success has t at the front
  pub front : r.number ≡ 0 → Front t r.place after
  -- and where there is room it succeeds
  pub roomy : length t ≤ length o → (r ≡ given (length t)) × (after ≡ stands t o)

comes_back : (t o : List ℕ) (r : Answer) (after : List ℕ) → WritesOf t o (r, after) → Back t o r after
comes_back t o r after w = record {
  told = w;
  front = λ z. left_front t o r after (writes_success t o r after w z);
  roomy = λ h. let e = one_writes t o (r, after) (given (length t), stands t o) w (writes_fitting t o h) in (ap (λ (s : Answer × List ℕ). s.0) e, ap (λ (s : Answer × List ℕ). s.1) e);
}

-- a list that was written, read from the bytes written: itself
pub df_written_read : (D : ℕ) (l o : List ℕ) (r : Answer) (o' : List ℕ) → DfWriteOf D l o r o' → r.number ≡ 0
    → (q : List ℕ) (s : Answer) (q' : List ℕ) → DfReadOf D (take r.place o') q s q' → Back l q s q'
df_written_read D l o r o' w z q s q' d =
    let k = df_write_success D l o r o' w z in
    comes_back l q s q' ((df_read_exactly D l k.text k.shallow (record { good = k.good; is_df = k.is_text }) q s q').0 (subst (λ (b : List ℕ). DfReadOf D b q s q') k.front.is_front d))

-- a text that was read, its list written: itself
pub df_read_written : (D : ℕ) (t o : List ℕ) (r : Answer) (o' : List ℕ) → DfReadOf D t o r o' → r.number ≡ 0
    → (q : List ℕ) (s : Answer) (q' : List ℕ) → DfWriteOf D (take r.place o') q s q' → Back t q s q'
df_read_written D t o r o' d z q s q' w =
    let k = df_read_success D t o r o' d z in
    let l : List ℕ = k.list.made in
    comes_back t q s q' ((df_write_exactly D l t k.shallow (shown_form D t l k.text k.list.is_list) q s q').0 (subst (λ (b : List ℕ). DfWriteOf D b q s q') k.list.front.is_front w))

-- ---- buffers with room for any answer of the depth: no acceptable text and no good list is refused

module _ (D : ℕ) (o : List ℕ) (r : Answer) (o' : List ℕ) (shallow : D ≤ deepest) where
  pub df_read_room : (t : List ℕ) → Acceptable D t → most D ≤ length o → DfReadOf D t o r o' → r.number ≡ 0
  df_read_room t x room d =
      let (l, f) = df_some_list D t x in
      let fits : length l ≤ length o = omega (arith, most_leaves D l f.good) in
      ap (λ (a : Answer). a.number) ((comes_back l o r o' ((df_read_exactly D l t shallow f o r o').0 d)).roomy fits).0

  pub df_write_room : (l : List ℕ) → Good D l → most_bytes D ≤ length o → DfWriteOf D l o r o' → r.number ≡ 0
  df_write_room l g room d =
      let t : List ℕ = df_text D l in
      let x = is_text D l in
      let fits : length t ≤ length o = omega (arith, spell_short D x.text.tree x.text.allowed, ap length x.text.spelled) in
      ap (λ (a : Answer). a.number) ((comes_back t o r o' ((df_write_exactly D l t shallow (record { good = g; is_df = x }) o r o').0 d)).roomy fits).0
