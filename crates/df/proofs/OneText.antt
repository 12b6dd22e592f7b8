-- Allowed trees: two with the same voxels are spelled alike, so a list has one text; and how long a text is. Assumes nothing.
use mathlib.Core.Path.{◌≡◌, sym, ap, ◌∙◌}
use mathlib.Core.Bool.{Bool}
use mathlib.Core.List.{List, ◌∷◌}
use Prim.Native.Nat.{ℕ, zero, suc, ◌+◌, ◌*◌, ◌^◌, ◌<◌, ◌≤◌}
use native.Mathlib.Nat.{le_refl, zero-mul, suc-mul}
use native.Mathlib.Omega.{arith}
use lib.ListN.{length, length-append}
use Rattle.cells.proofs.Power.{pow8_pos, pow8_suc}
use Rattle.records.proofs.Edges.{child_edge, inside}
use Rattle.df.specs.Df.{Tree, leaf, gray, opening, texts, spell, Allowed, shows, Acceptable, DfOf}
use Rattle.df.specs.Inner.{most_bytes}
use Rattle.df.proofs.Kids.{shows_child, texts_same}

-- ---- one text

-- an allowed tree whose voxels all have one colour is a leaf: a gray cell would have eight leaves of that colour
one_colour : (n : ℕ) (T : Tree) (b : ℕ) (x : Bool) → Allowed n T → ((v : ℕ) → b * 8 ^ n ≤ v → v < b * 8 ^ n + 8 ^ n → shows n T v ≡ x) → T ≡ leaf x
unfolding Allowed shows
one_colour n (leaf y) b x a s = ap leaf (s (b * 8 ^ n) (le_refl _) (omega (arith, pow8_pos n)))
one_colour zero (gray c) b x a s = absurd a
one_colour (suc n) (gray c) b x (under, mixed) s =
    absurd
    (mixed x
    (λ m h.
    one_colour n (c m) (8 * b + m) x (under m h)
    (λ v lo hi. sym (shows_child n c b m v h lo hi) ∙ s v (omega (arith, child_edge b m n)) (omega (arith, child_edge b m n, inside m n h)))))

-- two allowed trees of a cell, with the same voxels
same_text : (n b : ℕ) (T T' : Tree) → Allowed n T → Allowed n T' → ((v : ℕ) → b * 8 ^ n ≤ v → v < b * 8 ^ n + 8 ^ n → shows n T v ≡ shows n T' v) → spell T ≡ spell T'
unfolding Allowed shows spell
same_text n b (leaf x) T' a a' s = ap spell (sym (one_colour n T' b x a' (λ v lo hi. sym (s v lo hi))))
same_text n b (gray c) (leaf y) a a' s = ap spell (one_colour n (gray c) b y a s)
same_text zero b (gray c) (gray c') a a' s = absurd a
same_text (suc n) b (gray c) (gray c') (under, _) (under', _) s =
    ap (λ (r : List ℕ). opening ∷ r)
    (texts_same _ _ 8
    (λ m h.
    same_text n (8 * b + m) (c m) (c' m) (under m h) (under' m h)
    (λ v lo hi. sym (shows_child n c b m v h lo hi) ∙ s v (omega (arith, child_edge b m n)) (omega (arith, child_edge b m n, inside m n h)) ∙ shows_child n c' b m v h lo hi)))

-- so the voxels of a root cube have one acceptable text
pub one_acceptable : (D : ℕ) (t t' : List ℕ) (x : Acceptable D t) (y : Acceptable D t') → ((v : ℕ) → v < 8 ^ D → shows D x.tree v ≡ shows D y.tree v) → t ≡ t'
one_acceptable D t t' x y same =
    x.spelled ∙ same_text D 0 x.tree y.tree x.allowed y.allowed (λ v lo hi. same v (omega (arith, zero-mul (8 ^ D)))) ∙ sym y.spelled

-- and a list has one
pub one_df : (D : ℕ) (l t t' : List ℕ) → DfOf D l t → DfOf D l t' → t ≡ t'
one_df D l t t' x y = one_acceptable D t t' x.text y.text (λ v h. x.same v h ∙ sym (y.same v h))

-- ---- how long

-- m texts of fewer than w bytes each
texts_short : (f : ℕ → List ℕ) (w m : ℕ) → ((i : ℕ) → i < m → length (f i) < w) → length (texts f m) + m ≤ m * w
unfolding texts
texts_short f w zero short = omega (arith, zero-mul w)
texts_short f w (suc m) short =
    omega (arith, texts_short f w m (λ i h. short i (omega arith)), short m (le_refl (suc m)), length-append (texts f m) (f m), suc-mul m w)

pub spell_short : (n : ℕ) (T : Tree) → Allowed n T → length (spell T) < most_bytes n
unfolding Allowed spell
spell_short n (leaf x) a = omega (arith, pow8_pos n)
spell_short zero (gray c) a = absurd a
spell_short (suc n) (gray c) (under, _) =
    omega (arith, texts_short (λ m. spell (c m)) (most_bytes n) 8 (λ m h. spell_short n (c m) (under m h)), pow8_suc n)
