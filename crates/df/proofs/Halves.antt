-- Texts that are begun: what was read of a cell can be gone on with, until a byte is wrong; so it is in a gray cell where its next child is. Assumes nothing.
use mathlib.Core.Path.{◌≡◌, refl, sym, ap, ◌∙◌, subst}
use mathlib.Core.Logic.{◌⊎◌, inl, inr, ⊎_elim}
use mathlib.Core.Bool.{Bool, true, false, not}
use mathlib.Core.List.{List, [], ◌∷◌, ◌++◌, append_assoc, append-nil, head-eq_of_cons-eq, tail-eq_of_cons-eq}
use Prim.Native.Nat.{ℕ, zero, suc, ◌+◌, ◌<◌, ◌≤◌}
use native.Mathlib.Nat.{add-zero}
use native.Mathlib.Numerals.{add-one}
use native.Mathlib.Omega.{arith}
use lib.ListN.{length, get_or, drop, length-append}
use lib.Seq.{drop-cons, drop-drop, drop-append_seam, get_or-drop}
use Rattle.cells.proofs.Power.{le_or_lt}
use Rattle.df.specs.Df.{Tree, leaf, gray, letter, opening, texts, spell, Allowed, Acceptable}
use Rattle.df.specs.Inner.{Reads, Half, Stuck, head_of}
use Rattle.df.proofs.Kids.{texts_same, up_to, up_to_below, up_to_from, one_more, texts_and_one, texts_begin}
use Rattle.df.proofs.Spells.{letter_opens, head_leaf, spell_cut, texts_cut, front_or}

-- ---- bytes read

-- nothing, one byte, and one piece after the other
pub reads_none : (t : List ℕ) (a : ℕ) → a ≤ length t → Reads t a [] a
reads_none t a h = record { rest = refl; place = omega arith; within = h }

pub reads_byte : (t : List ℕ) (a : ℕ) → a < length t → Reads t a (get_or t a 0 ∷ []) (a + 1)
reads_byte t a h = record { rest = drop-cons t a 0 h ∙ ap (λ (n : ℕ). get_or t a 0 ∷ drop n t) (sym (add-one a)); place = refl; within = omega arith }

pub reads_then : {t : List ℕ} {a : ℕ} {p : List ℕ} {e : ℕ} {q : List ℕ} {f : ℕ} → Reads t a p e → Reads t e q f → Reads t a (p ++ q) f
reads_then {t} {a} {p} {e} {q} {f} x y = record {
  rest = x.rest ∙ ap (λ (s : List ℕ). p ++ s) y.rest ∙ sym (append_assoc p q (drop f t));
  place = omega (arith, x.place, y.place, length-append p q);
  within = y.within;
}

pub reads_as : {t : List ℕ} {a : ℕ} {p q : List ℕ} {e : ℕ} → p ≡ q → Reads t a p e → Reads t a q e
reads_as {t} {a} {p} {q} {e} h x = subst (λ (s : List ℕ). Reads t a s e) h x

-- without the last byte
module _ (t : List ℕ) (a : ℕ) (p : List ℕ) (z e k : ℕ) (x : Reads t a (p ++ z ∷ []) e) (last : e ≡ k + 1) where
  before_place : k ≡ a + length p
  before_place = omega (arith, x.place, length-append p (z ∷ []))

  whole : drop a t ≡ p ++ z ∷ drop e t
  whole = x.rest ∙ append_assoc p (z ∷ []) (drop e t)

  left : drop k t ≡ z ∷ drop e t
  left = ap (λ (n : ℕ). drop n t) before_place ∙ sym (drop-drop (length p) a t) ∙ ap (drop (length p)) whole ∙ drop-append_seam p (z ∷ drop e t)

  pub reads_front : Reads t a p k
  reads_front = record { rest = whole ∙ ap (λ (s : List ℕ). p ++ s) (sym left); place = before_place; within = omega (arith, x.within) }

  pub reads_last : get_or t k 0 ≡ z
  reads_last = ap (λ (n : ℕ). get_or t n 0) (sym (add-zero k)) ∙ sym (get_or-drop k t 0 0) ∙ ap (λ (s : List ℕ). get_or s 0 0) left

-- ---- texts that are begun

-- more can follow
pub half_more : (n : ℕ) (p : List ℕ) → Half n p → (x : ℕ) × (s : List ℕ) × Acceptable n (p ++ x ∷ s)
unfolding spell Allowed
half_more n p (inl e) = (letter true, [], record { tree = leaf true; allowed = tt; spelled = ap (λ (q : List ℕ). q ++ letter true ∷ []) e })
half_more n p (inr (c, x, s, a, e)) = (x, s, record { tree = gray c; allowed = a; spelled = e })

-- what is begun of one text is not another whole one: it goes on in it
goes_on : (n : ℕ) (p : List ℕ) → Half n p → (y : ℕ) (s : List ℕ) (U : Tree) (z : List ℕ) → p ++ y ∷ s ≡ spell U ++ z → (s' : List ℕ) × (p ++ y ∷ s' ≡ spell U)
goes_on n p half y s U z e = go (front_or p (spell U) y s z e) (half_more n p half)
  where
    go : ((s' : List ℕ) × (p ++ y ∷ s' ≡ spell U)) ⊎ ((f : List ℕ) × (p ≡ spell U ++ f)) → (x : ℕ) × (r : List ℕ) × Acceptable n (p ++ x ∷ r) → (s' : List ℕ) × (p ++ y ∷ s' ≡ spell U)
    go (inl k) m = k
    go (inr (f, k)) (x, r, acc) =
        let whole : spell U ++ (f ++ x ∷ r) ≡ spell acc.tree ++ [] = sym (append_assoc (spell U) f (x ∷ r)) ∙ ap (λ (q : List ℕ). q ++ x ∷ r) (sym k) ∙ acc.spelled ∙ sym (append-nil (spell acc.tree)) in
        let none : f ++ x ∷ r ≡ [] = (spell_cut U acc.tree (f ++ x ∷ r) [] whole).1 in
        absurd (omega (arith, ap length none, length-append f (x ∷ r)))

-- ---- eight children that are not one leaf

-- a colour that a tree is not
unfoldable other : Tree → Bool
other (leaf b) = not b
other (gray c) = true

not_other : (T : Tree) (b : Bool) → T ≡ leaf b → leaf (other T) ≡ leaf b → ⊥
unfolding other head_of
not_other (leaf true) true e f = absurd (omega (arith, ap head_of f))
not_other (leaf true) false e f = absurd (omega (arith, ap head_of e))
not_other (leaf false) true e f = absurd (omega (arith, ap head_of e))
not_other (leaf false) false e f = absurd (omega (arith, ap head_of f))
not_other (gray c) b e f = letter_opens b (sym (ap head_of e))

-- the children c below m, then T, then leaves that the first child is not
unfoldable completed : (c : ℕ → Tree) (m : ℕ) → Tree → ℕ → Tree
completed c m T = up_to (suc m) (up_to m c T) (leaf (other (up_to m c T 0)))

-- T is allowed, and no leaf like the first child
module _ (n m : ℕ) (m<8 : m < 8) (c : ℕ → Tree) (T : Tree) (each : (i : ℕ) → i < m → Allowed n (c i)) (here : Allowed n T) (differs : 0 < m → (b : Bool) → c 0 ≡ leaf b → T ≡ leaf b → ⊥) where
  completed_allowed : Allowed (suc n) (gray (completed c m T))
  unfolding Allowed completed
  completed_allowed = (
    λ i h.
        ⊎_elim
        (λ (g : suc m ≤ i). subst (Allowed n) (sym (up_to_from (suc m) (up_to m c T) (leaf (other (up_to m c T 0))) i g)) tt)
        (λ (g : i < suc m). subst (Allowed n) (sym (up_to_below (suc m) (up_to m c T) (leaf (other (up_to m c T 0))) i g)) (one_more (λ j U. Allowed n U) m c T each here i g))
        (le_or_lt (suc m) i),
    λ b all.
        let first : up_to m c T 0 ≡ leaf b = sym (up_to_below (suc m) (up_to m c T) (leaf (other (up_to m c T 0))) 0 (omega arith)) ∙ all 0 (omega arith) in
        ⊎_elim
        (λ (g : suc m ≤ 7). not_other (up_to m c T 0) b first (sym (up_to_from (suc m) (up_to m c T) (leaf (other (up_to m c T 0))) 7 g) ∙ all 7 (omega arith)))
        (λ (g : 7 < suc m).
        differs (omega arith) b (sym (up_to_below m c T 0 (omega arith)) ∙ first)
        (sym (up_to_from m c T 7 (omega arith)) ∙ sym (up_to_below (suc m) (up_to m c T) (leaf (other (up_to m c T 0))) 7 g) ∙ all 7 (omega arith)))
        (le_or_lt (suc m) 7),
  )

  -- what was read, T, and what completes the eight
  completed_spells : (s : List ℕ) × ((opening ∷ texts (λ i. spell (c i)) m) ++ (spell T ++ s) ≡ spell (gray (completed c m T)))
  unfolding spell completed
  completed_spells =
      let (s, e) = texts_begin (λ i. spell (completed c m T i)) (suc m) 8 (omega arith) in
      let front : texts (λ i. spell (completed c m T i)) (suc m) ≡ texts (λ i. spell (c i)) m ++ spell T =
      texts_same (λ i. spell (completed c m T i)) (λ i. spell (up_to m c T i)) (suc m) (λ i h. ap spell (up_to_below (suc m) (up_to m c T) (leaf (other (up_to m c T 0))) i h)) ∙ texts_and_one m c T in
      (s, ap (λ (q : List ℕ). opening ∷ q) (sym (append_assoc (texts (λ i. spell (c i)) m) (spell T) s) ∙ ap (λ (q : List ℕ). q ++ s) (sym front) ∙ sym e))

  -- so a gray cell is begun where its child m is
  begun : (p : List ℕ) (x : ℕ) (s : List ℕ) → p ++ x ∷ s ≡ spell T → Half (suc n) ((opening ∷ texts (λ i. spell (c i)) m) ++ p)
  begun p x s e =
      let (z, f) = completed_spells in
      let r : List ℕ = opening ∷ texts (λ i. spell (c i)) m in
      inr (completed c m T, x, s ++ z, completed_allowed, append_assoc r p (x ∷ (s ++ z)) ∙ ap (λ (q : List ℕ). r ++ q) (sym (append_assoc p (x ∷ s) z) ∙ ap (λ (q : List ℕ). q ++ z) e) ∙ f)

half_kids : (n m : ℕ) → m < 8 → (c : ℕ → Tree) → ((i : ℕ) → i < m → Allowed n (c i)) → (p : List ℕ) → Half n p → Half (suc n) ((opening ∷ texts (λ i. spell (c i)) m) ++ p)
unfolding Allowed spell head_of
half_kids n m h c each p (inl e) = begun n m h c (leaf (other (c 0))) each tt (λ g b. not_other (c 0) b) p (letter (other (c 0))) [] (ap (λ (q : List ℕ). q ++ letter (other (c 0)) ∷ []) e)
half_kids n m h c each p (inr (d, x, s, a, e)) = begun n m h c (gray d) each a (λ g b k f. letter_opens b (sym (ap head_of f))) p x s e

-- ---- the first wrong byte

-- at the cell's own first byte
pub stuck_here : (n : ℕ) (t : List ℕ) (a : ℕ) → a ≤ length t → ((b : Bool) → get_or t a 0 ≡ letter b → ⊥) → (get_or t a 0 ≡ opening → n ≡ 0) → Stuck n t a a
unfolding spell Allowed
stuck_here n t a h none deepest-one = record { bytes = []; reads = reads_none t a h; half = inl refl; wrong = λ s acc. wrong s acc.tree n acc.allowed acc.spelled deepest-one }
  where
    wrong : (s : List ℕ) (T : Tree) (k : ℕ) → Allowed k T → get_or t a 0 ∷ s ≡ spell T → (get_or t a 0 ≡ opening → k ≡ 0) → ⊥
    wrong s (leaf b) k x e g = none b (head-eq_of_cons-eq e)
    wrong s (gray c) zero x e g = x
    wrong s (gray c) (suc k) x e g = omega (arith, g (head-eq_of_cons-eq e))

-- a text that begins as a gray cell with the children c, and what follows them
module _ (n m : ℕ) (c : ℕ → Tree) (s : List ℕ) (acc : Acceptable (suc n) ((opening ∷ texts (λ i. spell (c i)) m) ++ s)) where
  record Follows : Type 0 where
    kids : ℕ → Tree
    allowed : Allowed (suc n) (gray kids)
    text : texts (λ i. spell (c i)) m ++ s ≡ texts (λ i. spell (kids i)) 8

  follows : Follows
  unfolding spell
  follows = go acc.tree acc.allowed acc.spelled
    where
      go : (T : Tree) → Allowed (suc n) T → (opening ∷ texts (λ i. spell (c i)) m) ++ s ≡ spell T → Follows
      go (leaf b) a e = absurd (letter_opens b (sym (head-eq_of_cons-eq e)))
      go (gray d) a e = record { kids = d; allowed = a; text = tail-eq_of_cons-eq e }

-- in child m
pub stuck_child : (n m : ℕ) → m < 8 → (c : ℕ → Tree) → ((i : ℕ) → i < m → Allowed n (c i)) → {t : List ℕ} {a k e : ℕ} → Reads t a (opening ∷ texts (λ i. spell (c i)) m) k → Stuck n t k e → Stuck (suc n) t a e
unfolding Allowed texts
stuck_child n m h c each {t} {a} {k} {e} x y = record { bytes = r ++ y.bytes; reads = reads_then x y.reads; half = half_kids n m h c each y.bytes y.half; wrong = wrong }
  where
    r : List ℕ
    r = opening ∷ texts (λ i. spell (c i)) m

    wrong : (s : List ℕ) → Acceptable (suc n) ((r ++ y.bytes) ++ get_or t e 0 ∷ s) → ⊥
    wrong s acc =
        let f = follows n m c (y.bytes ++ get_or t e 0 ∷ s) (subst (Acceptable (suc n)) (append_assoc r y.bytes (get_or t e 0 ∷ s)) acc) in
        let (z, g) = texts_begin (λ i. spell (f.kids i)) (suc m) 8 (omega arith) in
        let rest : y.bytes ++ get_or t e 0 ∷ s ≡ spell (f.kids m) ++ z = (texts_cut c f.kids m _ _ (f.text ∙ g ∙ append_assoc (texts (λ i. spell (f.kids i)) m) (spell (f.kids m)) z)).1 in
        let (w, q) = goes_on n y.bytes y.half (get_or t e 0) s (f.kids m) z rest in
        y.wrong w (record { tree = f.kids m; allowed = f.allowed.0 m h; spelled = q })

-- in the last of eight equal leaves
pub stuck_eighth : (n : ℕ) (c : ℕ → Tree) (b : Bool) → ((i : ℕ) → i < 8 → c i ≡ leaf b) → (t : List ℕ) (a k e : ℕ) → Reads t a (opening ∷ texts (λ i. spell (c i)) 8) e → e ≡ k + 1 → Stuck (suc n) t a k
unfolding Allowed texts spell head_of
stuck_eighth n c b all t a k e x last = record { bytes = r; reads = reads_front t a r (letter b) e k y last; half = subst (Half (suc n)) (append-nil r) (half_kids n 7 (omega arith) c (λ i h. subst (Allowed n) (sym (all i (omega arith))) tt) [] (inl refl)); wrong = wrong }
  where
    r : List ℕ
    r = opening ∷ texts (λ i. spell (c i)) 7

    eighth : spell (c 7) ≡ letter b ∷ []
    eighth = ap spell (all 7 (omega arith))

    y : Reads t a (r ++ letter b ∷ []) e
    y = reads_as (ap (λ (q : List ℕ). r ++ q) eighth) x

    wrong : (s : List ℕ) → Acceptable (suc n) (r ++ get_or t k 0 ∷ s) → ⊥
    wrong s acc =
        let byte : r ++ get_or t k 0 ∷ s ≡ (opening ∷ texts (λ i. spell (c i)) 8) ++ s =
        ap (λ (d : ℕ). r ++ d ∷ s) (reads_last t a r (letter b) e k y last) ∙ sym (append_assoc r (letter b ∷ []) s) ∙ ap (λ (q : List ℕ). (r ++ q) ++ s) (sym eighth) in
        let f = follows n 8 c s (subst (Acceptable (suc n)) byte acc) in
        let same = (texts_cut c f.kids 8 s [] (f.text ∙ sym (append-nil (texts (λ i. spell (f.kids i)) 8)))).0 in
        f.allowed.1 b (λ i h. head_leaf (f.kids i) b (sym (same i h).heads ∙ ap head_of (all i h)))
