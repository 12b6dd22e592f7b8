-- Each set of voxels has a good list, by descent from the root: a cell whose voxels all belong to the set is one leaf, any other cell is its eight children.
-- With `one_good_list`, it has just one. Assumes nothing.
use mathlib.Core.Path.{◌≡◌, refl, sym, ap, ◌∙◌, subst}
use mathlib.Core.Bool.{Bool, true, false, ◌||◌, true≢false, or-false}
use mathlib.Core.Logic.{◌⊎◌, inl, inr, ⊎_elim}
use mathlib.Core.List.Memᴰ
use mathlib.Core.List.{List, [], ◌∷◌, ◌++◌, Memᴰ}
use Prim.Native.Nat.{ℕ, zero, suc, ◌+◌, ◌*◌, ◌^◌, ◌≤◌, ◌<◌, zero-le}
use native.Mathlib.Nat.{le_refl, zero-mul}
use native.Mathlib.Omega.{arith}
use Rattle.cells.specs.Cell.{proper, start, span, end}
use Rattle.records.specs.Record.{black, Ordered, Good}
use Rattle.records.specs.Fault.{all_from}
use Rattle.records.specs.Inner.{White}
use Rattle.cells.proofs.Power.{le_or_lt, pow8_suc}
use Rattle.cells.proofs.Bools.{both_true, refuted}
use Rattle.cells.proofs.Cells.{cell_of_lem, child, has_children}
use Rattle.records.proofs.Lists.{holds_true, holds_between, black_held, black_before}
use Rattle.records.proofs.Leaves.{leaf_of, black_append, ordered_append}
use Rattle.records.proofs.Parents.{capped_condensed}
use Rattle.records.proofs.Maximal.{one_good_list}

-- the lists f 0, f 1, .. of the numbers below n, one after the other
unfoldable pub upto : (ℕ → List ℕ) → ℕ → List ℕ
upto f zero = []
upto f (suc n) = upto f n ++ f n

-- the leaves in the cell of code c, which starts at s and has n levels below it
unfoldable pub leaves : (ℕ → Bool) → ℕ → ℕ → ℕ → List ℕ
leaves P zero c s = elim (all_from P s (8 ^ zero)) [ true ↦ c ∷ [] | false ↦ [] ]
leaves P (suc n) c s = elim (all_from P s (8 ^ suc n)) [ true ↦ c ∷ [] | false ↦ upto (λ j. leaves P n (8 * c + j) (s + j * 8 ^ n)) 8 ]

unfoldable pub good_list : ℕ → (ℕ → Bool) → List ℕ
good_list D P = leaves P D 1 0

-- ---- a cell by its start and the levels below it

pub record At (D c n s : ℕ) : Type 0 where
  pub is_proper : proper D c ≡ true
  pub is_start : start D c ≡ s
  pub is_span : span D c ≡ 8 ^ n

pub at_child : (D c n s j : ℕ) → At D c (suc n) s → j < 8 → At D (8 * c + j) n (s + j * 8 ^ n)
at_child D c n s j t h =
    let x = child D c j t.is_proper (has_children D c n t.is_span) h in
    let w : span D (8 * c + j) ≡ 8 ^ n = omega (arith, x.is_span, t.is_span, pow8_suc n) in
    record { is_proper = x.is_proper; is_start = x.is_start ∙ rw (w, t.is_start); is_span = w }

-- ---- the test for a whole cell

pub all_true : (P : ℕ → Bool) (s n : ℕ) → all_from P s n ≡ true → (v : ℕ) → s ≤ v → v < s + n → P v ≡ true
unfolding all_from
all_true P s zero e v lo hi = absurd (omega arith)
all_true P s (suc n) e v lo hi = go (both_true (P (s + n)) (all_from P s n) e) (all_true P s n) (le_or_lt (s + n) v)
  where
    go : (P (s + n) ≡ true) × (all_from P s n ≡ true) → (all_from P s n ≡ true → (v : ℕ) → s ≤ v → v < s + n → P v ≡ true) → (s + n ≤ v) ⊎ (v < s + n) → P v ≡ true
    go (a, b) ih (inl h) = ap P (omega arith) ∙ a
    go (a, b) ih (inr h) = ih b v lo h

pub all_false : (P : ℕ → Bool) (s n : ℕ) → all_from P s n ≡ false → (v : ℕ) × (s ≤ v) × (v < s + n) × (P v ≡ false)
unfolding all_from
all_false P s zero e = absurd (true≢false e)
all_false P s (suc n) e = go (all_false P s n) (P (s + n)) refl
  where
    go : (all_from P s n ≡ false → (v : ℕ) × (s ≤ v) × (v < s + n) × (P v ≡ false)) → (t : Bool) → P (s + n) ≡ t → (v : ℕ) × (s ≤ v) × (v < s + suc n) × (P v ≡ false)
    go ih true a = let (v, lo, hi, f) = ih (rw a at e) in (v, lo, omega arith, f)
    go ih false a = (s + n, omega arith, omega arith, a)

pub leaves_whole : (P : ℕ → Bool) (n c s : ℕ) → all_from P s (8 ^ n) ≡ true → leaves P n c s ≡ c ∷ []
unfolding leaves
leaves_whole P zero c s e = rw (e, leaves)
leaves_whole P (suc n) c s e = rw (e, leaves)

pub leaves_none : (P : ℕ → Bool) (c s : ℕ) → all_from P s 1 ≡ false → leaves P 0 c s ≡ []
unfolding leaves
leaves_none P c s e = rw (e, leaves)

pub leaves_parts : (P : ℕ → Bool) (n c s : ℕ) → all_from P s (8 ^ suc n) ≡ false → leaves P (suc n) c s ≡ upto (λ j. leaves P n (8 * c + j) (s + j * 8 ^ n)) 8
unfolding leaves
leaves_parts P n c s e = rw (e, leaves)

-- ---- a list over the voxels from a up to b: its leaves lie there, and are black where the test passes

pub record Over (D : ℕ) (P : ℕ → Bool) (a b : ℕ) (l : List ℕ) : Type 0 where
  pub ordered : Ordered D a l
  pub ends : (c : ℕ) → Memᴰ c l → end D c ≤ b
  pub colour : (v : ℕ) → a ≤ v → v < b → black D l v ≡ P v

module _ (D : ℕ) (P : ℕ → Bool) where
  over_none : (a : ℕ) → Over D P a a []
  unfolding Ordered
  over_none a = record { ordered = tt; ends = λ c m. absurd (Memᴰ.not-nil m); colour = λ v lo hi. absurd (omega arith) }

  over_append : (a b c : ℕ) (l m : List ℕ) → a ≤ b → b ≤ c → Over D P a b l → Over D P b c m → Over D P a c (l ++ m)
  over_append a b c l m h k x y = record {
    ordered = ordered_append D a b l m x.ordered x.ends h y.ordered;
    ends = λ d i. ⊎_elim (λ j. omega (arith, x.ends d j)) (y.ends d) (Memᴰ.append_cases l i);
    colour = λ v lo hi. black_append D l m v ∙ ⊎_elim (later v hi) (sooner v lo) (le_or_lt b v);
  }
    where
      later : (v : ℕ) → v < c → b ≤ v → (black D l v || black D m v) ≡ P v
      later v hi g =
          let past : black D l v ≡ false = refuted (black D l v) (λ e. let (d, i, holds_between) = leaf_of D l v e in omega (arith, x.ends d i, holds_true D d v holds_between)) in
          rw past (y.colour v g hi)

      sooner : (v : ℕ) → a ≤ v → v < b → (black D l v || black D m v) ≡ P v
      sooner v lo g = rw (x.colour v lo g, black_before D b m y.ordered v g) (or-false (P v))

  -- the lists of parts, one after the other
  over_parts : (s w : ℕ) (f : ℕ → List ℕ) (m : ℕ) → ((j : ℕ) → j < m → Over D P (s + j * w) (s + j * w + w) (f j)) → Over D P s (s + m * w) (upto f m)
  unfolding upto
  over_parts s w f zero h = subst (λ (x : ℕ). Over D P s x []) (omega arith) (over_none s)
  over_parts s w f (suc m) h =
      over_append s (s + m * w) (s + suc m * w) (upto f m) (f m) (omega arith) (omega arith) (over_parts s w f m (λ j l. h j (omega arith)))
      (subst (λ (x : ℕ). Over D P (s + m * w) x (f m)) (omega arith) (h m (le_refl (suc m))))

upto_member : (f : ℕ → List ℕ) (m c : ℕ) → Memᴰ c (upto f m) → (j : ℕ) × (j < m) × Memᴰ c (f j)
unfolding upto
upto_member f zero c h = absurd (Memᴰ.not-nil h)
upto_member f (suc m) c h = go (upto_member f m c) (Memᴰ.append_cases (upto f m) h)
  where
    go : (Memᴰ c (upto f m) → (j : ℕ) × (j < m) × Memᴰ c (f j)) → Memᴰ c (upto f m) ⊎ Memᴰ c (f m) → (j : ℕ) × (j < suc m) × Memᴰ c (f j)
    go ih (inl x) = let (j, l, y) = ih x in (j, omega arith, y)
    go ih (inr x) = (m, le_refl (suc m), x)

-- ---- what the leaves in a cell are: a first child among them is the cell itself, or its parent holds a white voxel

pub record Filled (D : ℕ) (P : ℕ → Bool) (n c s : ℕ) (l : List ℕ) : Type 0 where
  pub over : Over D P s (s + 8 ^ n) l
  pub capped : (q : ℕ) → Memᴰ (8 * q) l → (8 * q ≡ c) ⊎ White D P q

module _ (D : ℕ) (P : ℕ → Bool) where
  filled_whole : (n c s : ℕ) → At D c n s → all_from P s (8 ^ n) ≡ true → Filled D P n c s (c ∷ [])
  unfolding Ordered
  filled_whole n c s t e =
      let st = t.is_start in
      let sp = t.is_span in
      record {
        over = record {
          ordered = (t.is_proper, omega arith, tt);
          ends = λ d m. rw (Memᴰ.eq_of_singleton m) (omega arith);
          colour = λ v lo hi. black_held D c [] v (holds_between D c v (omega arith) (omega arith)) ∙ sym (all_true P s (8 ^ n) e v lo hi);
        };
        capped = λ q m. inl (Memᴰ.eq_of_singleton m);
      }

  filled_none : (c s : ℕ) → all_from P s 1 ≡ false → Filled D P 0 c s []
  unfolding Ordered black
  filled_none c s e =
      let (w, lo', hi', f) = all_false P s 1 e in
      record {
        over = record { ordered = tt; ends = λ d m. absurd (Memᴰ.not-nil m); colour = λ v lo hi. sym (ap P (omega arith) ∙ f) };
        capped = λ q m. absurd (Memᴰ.not-nil m);
      }

  filled_parts : (n c s : ℕ) → At D c (suc n) s → all_from P s (8 ^ suc n) ≡ false → (f : ℕ → List ℕ)
      → ((j : ℕ) → j < 8 → Filled D P n (8 * c + j) (s + j * 8 ^ n) (f j)) → Filled D P (suc n) c s (upto f 8)
  filled_parts n c s t e f ih = record {
    over = subst (λ (x : ℕ). Over D P s x (upto f 8)) (omega (arith, pow8_suc n)) (over_parts D P s (8 ^ n) f 8 (λ j h. (ih j h).over));
    capped = λ q m. let (j, l, x) = upto_member f 8 (8 * q) m in ⊎_elim (λ (y : 8 * q ≡ 8 * c + j). inr (subst (White D P) (omega arith) white)) inr ((ih j l).capped q x);
  }
    where
      white : White D P c
      white =
          let (v, lo, hi, w) = all_false P s (8 ^ suc n) e in
          record { voxel = v; inside = holds_between D c v (omega (arith, t.is_start)) (omega (arith, t.is_start, t.is_span)); white = w }

  pub filled : (n c s : ℕ) → At D c n s → Filled D P n c s (leaves P n c s)
  filled zero c s t = go (all_from P s 1) refl
    where
      go : (b : Bool) → all_from P s 1 ≡ b → Filled D P 0 c s (leaves P 0 c s)
      go true e = rw (leaves_whole P 0 c s e) (filled_whole 0 c s t e)
      go false e = rw (leaves_none P c s e) (filled_none c s e)
  filled (suc n) c s t = go (λ j h. filled n (8 * c + j) (s + j * 8 ^ n) (at_child D c n s j t h)) (all_from P s (8 ^ suc n)) refl
    where
      go : ((j : ℕ) → j < 8 → Filled D P n (8 * c + j) (s + j * 8 ^ n) (leaves P n (8 * c + j) (s + j * 8 ^ n)))
          → (b : Bool) → all_from P s (8 ^ suc n) ≡ b → Filled D P (suc n) c s (leaves P (suc n) c s)
      go ih true e = rw (leaves_whole P (suc n) c s e) (filled_whole (suc n) c s t e)
      go ih false e = rw (leaves_parts P n c s e) (filled_parts n c s t e _ ih)

-- ---- the whole cube

-- the root cube
pub root_at : (D : ℕ) → At D 1 D 0
root_at D = let t = cell_of_lem D 0 D 0 (omega arith) (omega arith) in record { is_proper = t.0; is_start = t.3 ∙ zero-mul (8 ^ D); is_span = t.2 }

pub is_coloured : (D : ℕ) (P : ℕ → Bool) (v : ℕ) → v < 8 ^ D → black D (good_list D P) v ≡ P v
unfolding good_list
is_coloured D P v h = (filled D P D 1 0 (root_at D)).over.colour v zero-le (omega arith)

pub is_good : (D : ℕ) (P : ℕ → Bool) → Good D (good_list D P)
unfolding good_list
is_good D P =
    let fill = filled D P D 1 0 (root_at D) in
    record {
      ordered = fill.over.ordered;
      condensed =
          capped_condensed D P (leaves P D 1 0) fill.over.ordered (is_coloured D P)
          (λ q m. ⊎_elim (λ (e : 8 * q ≡ 1). absurd (omega arith)) (λ w. w) (fill.capped q m));
    }

-- and every good list is the list of its own voxels
pub good_list_is : (D : ℕ) (P : ℕ → Bool) (l : List ℕ) → Good D l → ((v : ℕ) → v < 8 ^ D → black D l v ≡ P v) → l ≡ good_list D P
good_list_is D P l g h = one_good_list g (is_good D P) (λ v k. h v k ∙ sym (is_coloured D P v k))
