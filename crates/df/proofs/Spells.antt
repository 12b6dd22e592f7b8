-- No text of a tree begins another's: what follows a tree is the same wherever the same bytes spell it, and trees that are spelled alike show the same voxels.
-- Assumes nothing.
use mathlib.Core.Path.{◌≡◌, refl, sym, ap, ◌∙◌}
use mathlib.Core.Logic.{◌⊎◌, inl, inr, ⊎_elim}
use mathlib.Core.Bool.{Bool, true, false}
use mathlib.Core.List.{List, [], ◌∷◌, ◌++◌, append_assoc, append-nil, cons≢nil, head-eq_of_cons-eq, tail-eq_of_cons-eq}
use Prim.Native.Nat.{ℕ, zero, suc, ◌/◌, ◌%◌, ◌^◌, ◌<◌}
use native.Mathlib.Nat.{le_of_suc-le-suc, eq-or-lt_of_le, mod-lt}
use native.Mathlib.Omega.{arith}
use Rattle.df.specs.Df.{Tree, leaf, gray, letter, opening, texts, spell, shows}
use Rattle.df.specs.Inner.{head_of}

-- ---- letters

pub letter_one : (b d : Bool) → letter b ≡ letter d → b ≡ d
letter_one true true e = refl
letter_one true false e = absurd (omega arith)
letter_one false true e = absurd (omega arith)
letter_one false false e = refl

-- a letter opens no cell, and is not 0
pub letter_opens : (b : Bool) → letter b ≡ opening → ⊥
letter_opens true e = omega arith
letter_opens false e = omega arith

pub letter_some : (b : Bool) → letter b ≡ 0 → ⊥
letter_some true e = omega arith
letter_some false e = omega arith

-- the tree of a letter is a leaf
pub head_leaf : (T : Tree) (b : Bool) → head_of T ≡ letter b → T ≡ leaf b
unfolding head_of
head_leaf (leaf d) b e = ap leaf (letter_one d b e)
head_leaf (gray c) b e = absurd (letter_opens b (sym e))

-- ---- trees that are spelled alike

pub record Same (T U : Tree) : Type 0 where
  pub heads : head_of T ≡ head_of U
  pub shown : (n v : ℕ) → shows n T v ≡ shows n U v

-- whoever begins with the text of T and with that of U has read the same tree, and the same follows
abbrev Cuts : Tree → Type 0
Cuts T = (U : Tree) (s z : List ℕ) → spell T ++ s ≡ spell U ++ z → Same T U × (s ≡ z)

each_cut : (c d : ℕ → Tree) → ((i : ℕ) → Cuts (c i)) → (m : ℕ) (s z : List ℕ) → texts (λ i. spell (c i)) m ++ s ≡ texts (λ i. spell (d i)) m ++ z → ((i : ℕ) → i < m → Same (c i) (d i)) × (s ≡ z)
unfolding texts
each_cut c d each zero s z e = (λ i h. absurd (omega arith), e)
each_cut c d each (suc m) s z e =
    let (before, f) = each_cut c d each m (spell (c m) ++ s) (spell (d m) ++ z) (sym (append_assoc (texts (λ i. spell (c i)) m) (spell (c m)) s) ∙ e ∙ append_assoc (texts (λ i. spell (d i)) m) (spell (d m)) z) in
    let (here, g) = each m (d m) s z f in
    (λ i h. ⊎_elim (λ (k : i ≡ m). rw k here) (λ (k : i < m). before i k) (eq-or-lt_of_le (le_of_suc-le-suc h)), g)

gray_same : (c d : ℕ → Tree) → ((i : ℕ) → i < 8 → Same (c i) (d i)) → Same (gray c) (gray d)
unfolding head_of shows
gray_same c d each = record { heads = refl; shown = same }
  where
    same : (n v : ℕ) → shows n (gray c) v ≡ shows n (gray d) v
    same zero v = refl
    same (suc n) v = (each (v / 8 ^ n % 8) (mod-lt (v / 8 ^ n) (omega arith))).shown n v

pub spell_cut : (T U : Tree) (s z : List ℕ) → spell T ++ s ≡ spell U ++ z → Same T U × (s ≡ z)
unfolding spell head_of shows
spell_cut (leaf b) (leaf d) s z e = let k = head-eq_of_cons-eq e in (record { heads = k; shown = λ n v. letter_one b d k }, tail-eq_of_cons-eq e)
spell_cut (leaf b) (gray d) s z e = absurd (letter_opens b (head-eq_of_cons-eq e))
spell_cut (gray c) (leaf d) s z e = absurd (letter_opens d (sym (head-eq_of_cons-eq e)))
spell_cut (gray c) (gray d) s z e =
    let (each, f) = each_cut c d (λ i. spell_cut (c i)) 8 s z (tail-eq_of_cons-eq e) in
    (gray_same c d each, f)

-- the same, of whole texts
pub spell_same : (T U : Tree) → spell T ≡ spell U → Same T U
spell_same T U e = (spell_cut T U [] [] (ap (λ (x : List ℕ). x ++ []) e)).0

-- the same, of texts one after the other
pub texts_cut : (c d : ℕ → Tree) (m : ℕ) (s z : List ℕ) → texts (λ i. spell (c i)) m ++ s ≡ texts (λ i. spell (d i)) m ++ z → ((i : ℕ) → i < m → Same (c i) (d i)) × (s ≡ z)
texts_cut c d = each_cut c d (λ i. spell_cut (c i))

-- nothing follows a whole text in another
pub nothing_follows : (T U : Tree) (x : ℕ) (s : List ℕ) → spell T ++ x ∷ s ≡ spell U → ⊥
nothing_follows T U x s e = cons≢nil (spell_cut T U (x ∷ s) [] (e ∙ sym (append-nil (spell U)))).1

-- ---- fronts of lists

-- a front that is read and a byte more, and another front of the same list: the one goes on in the other, or has it in itself
pub front_or : (p a : List ℕ) (y : ℕ) (s z : List ℕ) → p ++ y ∷ s ≡ a ++ z → ((s' : List ℕ) × (p ++ y ∷ s' ≡ a)) ⊎ ((e : List ℕ) × (p ≡ a ++ e))
front_or p [] y s z e = inr (p, refl)
front_or [] (b ∷ a) y s z e = inl (a, ap (λ (x : ℕ). x ∷ a) (head-eq_of_cons-eq e))
front_or (x ∷ p) (b ∷ a) y s z e = go (front_or p a y s z (tail-eq_of_cons-eq e)) (head-eq_of_cons-eq e)
  where
    go : ((s' : List ℕ) × (p ++ y ∷ s' ≡ a)) ⊎ ((e : List ℕ) × (p ≡ a ++ e)) → x ≡ b → ((s' : List ℕ) × ((x ∷ p) ++ y ∷ s' ≡ b ∷ a)) ⊎ ((e : List ℕ) × (x ∷ p ≡ (b ∷ a) ++ e))
    go (inl (s', k)) h = inl (s', rw (h, k))
    go (inr (f, k)) h = inr (f, rw (h, k))
