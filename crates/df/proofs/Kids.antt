-- The children of a gray cell: their voxels are the cell's; their texts, one after the other; and one child more. Assumes nothing.
use mathlib.Core.Path.{◌≡◌, refl, sym, ap, ap₂, ◌∙◌, subst}
use mathlib.Core.Logic.{⊎_elim}
use mathlib.Core.Bool.{Bool, true, false}
use mathlib.Core.List.{List, [], ◌++◌, append_assoc, append-nil}
use Prim.Native.Nat.{ℕ, zero, suc, ◌+◌, ◌-◌, ◌*◌, ◌/◌, ◌%◌, ◌^◌, ◌<◌, ◌≤◌}
use native.Mathlib.Nat.{le_refl, suc-mul, le_of_suc-le-suc, eq-or-lt_of_le, le-div_iff_mul-le, div-lt_iff_lt-mul}
use native.Mathlib.Omega.{arith}
use lib.Arith.{digits_div}
use lib.Dec.{ltb}
use borrow.Author.Tests.{lt-ltb, le-ltb}
use Rattle.cells.proofs.Power.{pow8_pos, pow8_suc}
use Rattle.records.proofs.Edges.{child_edge}
use Rattle.df.specs.Df.{Tree, gray, texts, spell, shows}
use Rattle.df.specs.Inner.{TreeOf}

-- ---- voxels

-- the label, n levels up from the last, of a voxel in child m of the cell of number b
child_label : (n b m v : ℕ) → m < 8 → (8 * b + m) * 8 ^ n ≤ v → v < (8 * b + m) * 8 ^ n + 8 ^ n → v / 8 ^ n % 8 ≡ m
child_label n b m v h lo hi =
    let whole : v / 8 ^ n ≡ 8 * b + m = ap (λ (x : ℕ). x / 8 ^ n) (omega arith) ∙ digits_div (8 * b + m) {m = 8 ^ n} {r = v - (8 * b + m) * 8 ^ n} (omega arith) in
    omega arith

-- a voxel in child m
pub shows_child : (n : ℕ) (c : ℕ → Tree) (b m v : ℕ) → m < 8 → (8 * b + m) * 8 ^ n ≤ v → v < (8 * b + m) * 8 ^ n + 8 ^ n → shows (suc n) (gray c) v ≡ shows n (c m) v
unfolding shows
shows_child n c b m v h lo hi = ap (λ (i : ℕ). shows n (c i) v) (child_label n b m v h lo hi)

-- the child that a voxel of the cell lies in
pub child_of : (n b v : ℕ) → b * 8 ^ suc n ≤ v → v < b * 8 ^ suc n + 8 ^ suc n → (m : ℕ) × (m < 8) × ((8 * b + m) * 8 ^ n ≤ v) × (v < (8 * b + m) * 8 ^ n + 8 ^ n)
child_of n b v lo hi =
    let pos = pow8_pos n in
    let q : ℕ = v / 8 ^ n in
    let low : 8 * b ≤ q = (le-div_iff_mul-le pos).1 (omega (arith, child_edge b 0 n)) in
    let high : q < 8 * b + 8 = (div-lt_iff_lt-mul pos).1 (omega (arith, child_edge b 8 n, pow8_suc n)) in
    let same : 8 * b + (q - 8 * b) ≡ q = omega arith in
    (q - 8 * b, omega arith, rw same ((le-div_iff_mul-le pos).0 (le_refl q)), rw same (omega (arith, (div-lt_iff_lt-mul {k = 8 ^ n} {x = v} {y = suc q} pos).0 (le_refl (suc q)), suc-mul q (8 ^ n))))

-- where the children's trees are those of a set P, the cell's voxels are P's
pub gray_shown : (P : ℕ → Bool) (n b : ℕ) (c : ℕ → Tree) → ((m : ℕ) → m < 8 → TreeOf P n (8 * b + m) (c m)) → (v : ℕ) → b * 8 ^ suc n ≤ v → v < b * 8 ^ suc n + 8 ^ suc n → shows (suc n) (gray c) v ≡ P v
gray_shown P n b c trees v lo hi = let (m, h, from, to) = child_of n b v lo hi in shows_child n c b m v h from to ∙ (trees m h).shown v from to

-- ---- texts

-- the same texts one after the other
pub texts_same : (f g : ℕ → List ℕ) (m : ℕ) → ((i : ℕ) → i < m → f i ≡ g i) → texts f m ≡ texts g m
unfolding texts
texts_same f g zero h = refl
texts_same f g (suc m) h = ap₂ ◌++◌ (texts_same f g m (λ i l. h i (omega arith))) (h m (omega arith))

-- ---- one child more

-- the children c below m, T from m on
unfoldable pub up_to : ℕ → (ℕ → Tree) → Tree → ℕ → Tree
up_to m c T i = elim (ltb i m) [ true ↦ c i | false ↦ T ]

pub up_to_below : (m : ℕ) (c : ℕ → Tree) (T : Tree) (i : ℕ) → i < m → up_to m c T i ≡ c i
unfolding up_to
up_to_below m c T i h = rw (up_to, lt-ltb i m h)

pub up_to_from : (m : ℕ) (c : ℕ → Tree) (T : Tree) (i : ℕ) → m ≤ i → up_to m c T i ≡ T
unfolding up_to
up_to_from m c T i h = rw (up_to, le-ltb i m h)

-- what each child below m has, and T, each child up to m has
pub one_more : (Q : ℕ → Tree → Type 0) (m : ℕ) (c : ℕ → Tree) (T : Tree) → ((i : ℕ) → i < m → Q i (c i)) → Q m T → (i : ℕ) → i < suc m → Q i (up_to m c T i)
one_more Q m c T each here i h =
    ⊎_elim (λ (e : i ≡ m). subst (λ (U : Tree). Q i U) (sym (up_to_from m c T i (omega arith))) (rw e here)) (λ (l : i < m). subst (λ (U : Tree). Q i U) (sym (up_to_below m c T i l)) (each i l))
    (eq-or-lt_of_le (le_of_suc-le-suc h))

-- their texts
pub texts_and_one : (m : ℕ) (c : ℕ → Tree) (T : Tree) → texts (λ i. spell (up_to m c T i)) (suc m) ≡ texts (λ i. spell (c i)) m ++ spell T
unfolding texts
texts_and_one m c T = ap₂ ◌++◌ (texts_same (λ i. spell (up_to m c T i)) (λ i. spell (c i)) m (λ i h. ap spell (up_to_below m c T i h))) (ap spell (up_to_from m c T m (omega arith)))

-- fewer texts begin more of them
pub texts_begin : (f : ℕ → List ℕ) (m n : ℕ) → m ≤ n → (s : List ℕ) × (texts f n ≡ texts f m ++ s)
unfolding texts
texts_begin f zero zero h = ([], refl)
texts_begin f (suc m) zero h = absurd (omega arith)
texts_begin f m (suc n) h = ⊎_elim (λ (e : m ≡ suc n). ([], sym (append-nil (texts f (suc n))) ∙ ap (λ (k : ℕ). texts f k ++ []) (sym e))) (λ (l : m < suc n). let (s, e) = texts_begin f m n (le_of_suc-le-suc l) in (s ++ f n, ap (λ (x : List ℕ). x ++ f n) e ∙ append_assoc (texts f m) s (f n))) (eq-or-lt_of_le h)
