-- The reading of a cell: a leaf, a wrong byte, and eight children one after the other. Assumes nothing.
use mathlib.Core.Path.{◌≡◌, refl, sym, ap, ◌∙◌, subst}
use mathlib.Core.Logic.{⊎_elim}
use mathlib.Core.Bool.{Bool, true, false}
use Rattle.std.specs.Prelude.{Option, Some, None}
use mathlib.Core.List.{List, [], ◌∷◌}
use Prim.Native.Nat.{ℕ, suc, ◌+◌, ◌*◌, ◌^◌, ◌<◌, ◌≤◌}
use native.Mathlib.Nat.{le_of_suc-le-suc, eq-or-lt_of_le, zero-mul, zero-add}
use native.Mathlib.Numerals.{add-one}
use native.Mathlib.Omega.{arith}
use lib.ListN.{length, get_or}
use Rattle.cells.specs.Answer.{deepest}
use Rattle.cells.proofs.Power.{pow8_suc}
use Rattle.records.proofs.Edges.{child_edge, child_within}
use Rattle.emit.specs.declared.inner.Emitter.{Emitter}
use Rattle.emit.specs.Inner.{Ready, fresh, Feeds}
use Rattle.emit.proofs.Runs.{ready_none, fed_to}
use Rattle.emit.proofs.Children.{Children, children_none, children_more, children_all}
use Rattle.df.specs.Df.{Tree, leaf, gray, letter, opening, texts, spell, Allowed, shows}
use Rattle.df.specs.Inner.{Reads, Stuck, head_of, byte_of, Alike, InCommon, Ahead, CellRead}
use Rattle.df.specs.declared.inner.Head.{Head}
use Rattle.df.specs.declared.inner.Head.TheVariants.{Open, Black, White}
use Rattle.df.specs.declared.inner.reading.Cell.{Cell}
use Rattle.df.proofs.Kids.{shows_child, up_to, up_to_below, up_to_from, one_more, texts_and_one}
use Rattle.df.proofs.Spells.{letter_opens, head_leaf}
use Rattle.df.proofs.Halves.{reads_none, reads_byte, reads_then, reads_as, stuck_here, stuck_child, stuck_eighth}

-- ---- a cell

-- a leaf
pub leaf_read : {D : ℕ} {t : List ℕ} {n from at : ℕ} {e m : Emitter} {s : Cell} (b : Bool) → at < length t → get_or t at 0 ≡ letter b → letter b ≡ byte_of s.head → s.after ≡ at + 1
    → ((P : ℕ → Bool) → ((v : ℕ) → from ≤ v → v < from + 8 ^ n → P v ≡ b) → Feeds D P from (from + 8 ^ n) e m) → CellRead D t n from at e m s
unfolding spell head_of Allowed shows
leaf_read {t = t} {at = at} b more byte head place fed = record {
  tree = leaf b;
  allowed = tt;
  reads = subst (Reads t at (letter b ∷ [])) (sym place) (reads_as (ap (λ (x : ℕ). x ∷ []) byte) (reads_byte t at more));
  head = head;
  fed = fed;
}

-- a byte that is no head is wrong
pub no_head : (n : ℕ) (t : List ℕ) (a : ℕ) → a ≤ length t → ((h : Head) → get_or t a 0 ≡ byte_of h → ⊥) → Stuck n t a a
no_head n t a h none = stuck_here n t a h no_letter (λ e. absurd (none Open e))
  where
    no_letter : (b : Bool) → get_or t a 0 ≡ letter b → ⊥
    no_letter true e = none Black e
    no_letter false e = none White e

-- ---- what the children have in common

-- heads of one byte are the same
byte_one : (a h : Head) → byte_of a ≡ byte_of h → a ≡ h
byte_one Open Open e = refl
byte_one Open Black e = absurd (omega arith)
byte_one Open White e = absurd (omega arith)
byte_one Black Open e = absurd (omega arith)
byte_one Black Black e = refl
byte_one Black White e = absurd (omega arith)
byte_one White Open e = absurd (omega arith)
byte_one White Black e = absurd (omega arith)
byte_one White White e = refl

-- children that are the same below m have the same in common
alike_same : (c d : ℕ → Tree) (m : ℕ) (h : Head) → ((i : ℕ) → i < m → c i ≡ d i) → Alike c m h → Alike d m h
alike_same c d m Open same x = λ b all. x b (λ i h. same i h ∙ all i h)
alike_same c d m Black same x = λ i h. sym (same i h) ∙ x i h
alike_same c d m White same x = λ i h. sym (same i h) ∙ x i h

common_same : (c d : ℕ → Tree) (m : ℕ) (a : Option Head) → ((i : ℕ) → i < m → c i ≡ d i) → InCommon c m a → InCommon d m a
common_same c d m None same x = x
common_same c d m (Some h) same x = (x.0, alike_same c d m h same x.1)

leaf_head : (T : Tree) (b : Bool) → T ≡ leaf b → head_of T ≡ letter b
unfolding head_of
leaf_head T b e = ap head_of e

-- one child more, which begins with h
module _ (c : ℕ → Tree) (m : ℕ) where
  -- it begins as the others do
  alike_more : (h : Head) → head_of (c m) ≡ byte_of h → (0 < m → Alike c m h) → Alike c (suc m) h
  alike_more Open head x = λ b all. letter_opens b (sym (leaf_head (c m) b (all m (omega arith))) ∙ head)
  alike_more Black head x = λ i l. ⊎_elim (λ (j : i ≡ m). rw j (head_leaf (c m) true head)) (λ (j : i < m). x (omega arith) i j) (eq-or-lt_of_le (le_of_suc-le-suc l))
  alike_more White head x = λ i l. ⊎_elim (λ (j : i ≡ m). rw j (head_leaf (c m) false head)) (λ (j : i < m). x (omega arith) i j) (eq-or-lt_of_le (le_of_suc-le-suc l))

  -- it does not
  alike_mixed : (a h : Head) → (a ≡ h → ⊥) → head_of (c m) ≡ byte_of h → 0 < m → Alike c m a → Alike c (suc m) Open
  alike_mixed a h other head some x = λ b all. other (byte_one a h (first a x b (all 0 (omega arith)) (λ i l. all i (omega arith)) ∙ sym (leaf_head (c m) b (all m (omega arith))) ∙ head))
    where
      first : (a : Head) → Alike c m a → (b : Bool) → c 0 ≡ leaf b → ((i : ℕ) → i < m → c i ≡ leaf b) → byte_of a ≡ letter b
      first Open y b e all = absurd (y b all)
      first Black y b e all = sym (leaf_head (c 0) true (y 0 some)) ∙ leaf_head (c 0) b e
      first White y b e all = sym (leaf_head (c 0) false (y 0 some)) ∙ leaf_head (c 0) b e

  -- the first child, or one that begins as the others do
  pub common_more : (a : Option Head) (h : Head) → head_of (c m) ≡ byte_of h → InCommon c m a → ((b : Head) → a ≡ Some b → b ≡ h) → InCommon c (suc m) (Some h)
  common_more None h head x same = (omega arith, alike_more h head (λ l. absurd (omega arith)))
  common_more (Some b) h head x same = (omega arith, alike_more h head (λ l. subst (Alike c m) (same b refl) x.1))

  pub common_mixed : (a h : Head) → head_of (c m) ≡ byte_of h → InCommon c m (Some a) → (a ≡ h → ⊥) → InCommon c (suc m) (Some Open)
  common_mixed a h head x other = (omega arith, alike_mixed a h other head x.0 x.1)

-- ---- eight children

-- the first m children are read, n levels left under each, from place r on, up to place s: they took the emitter o to `out`, the next begins at voxel v, and `alike`
-- is what they have in common
pub record KidsRead (D : ℕ) (t : List ℕ) (n from r : ℕ) (o out : Emitter) (s v : ℕ) (alike : Option Head) (m : ℕ) : Type 0 where
  pub same : out.out.ghost_name ≡ o.out.ghost_name
  pub depth : out.depth ≡ o.depth
  pub turns : m ≤ 8
  pub trees : ℕ → Tree
  pub allowed : (i : ℕ) → i < m → Allowed n (trees i)
  pub reads : Reads t r (texts (λ i. spell (trees i)) m) s
  pub common : InCommon trees m alike
  pub fed : (P : ℕ → Bool) → ((i : ℕ) → i < m → (u : ℕ) → from + i * 8 ^ n ≤ u → u < from + i * 8 ^ n + 8 ^ n → P u ≡ shows n (trees i) u) → Children D P from o (8 ^ n) out v m

module _ {D : ℕ} {t : List ℕ} {n from r : ℕ} {o : Emitter} where
  pub kids_none : r ≤ length t → Ready D o.runs from → KidsRead D t n from r o o r from None 0
  unfolding texts
  kids_none h ready = record { same = refl; depth = refl; turns = omega arith; trees = λ i. leaf false; allowed = λ i g. absurd (omega arith); reads = reads_none t r h; common = refl; fed = λ P agree. children_none ready }

  module _ {out : Emitter} {s v : ℕ} {alike : Option Head} {m : ℕ} (x : KidsRead D t n from r o out s v alike m) (cell : ℕ) (corner : from ≡ cell * 8 ^ suc n) where
    -- child i, as the voxels of the cell's tree
    in_child : (i u : ℕ) → i < 8 → from + i * 8 ^ n ≤ u → u < from + i * 8 ^ n + 8 ^ n → shows (suc n) (gray x.trees) u ≡ shows n (x.trees i) u
    in_child i u h lo hi = shows_child n x.trees cell i u h (omega (arith, child_edge cell i n)) (omega (arith, child_edge cell i n))

    -- so the emitter is fed with the set of these
    pub kids_fed : Children D (shows (suc n) (gray x.trees)) from o (8 ^ n) out v m
    kids_fed = x.fed (shows (suc n) (gray x.trees)) (λ i g u lo hi. in_child i u (omega (arith, x.turns)) lo hi)

    -- the next child can be read
    pub kids_ahead : {q : ℕ} → Ahead D t (suc n) from q o → m < 8 → Ahead D t n v s out
    kids_ahead a h = let k = kids_fed in record {
      deep = a.deep;
      level = omega (arith, a.level);
      root = omega (arith, a.root, k.place, child_within m (8 ^ n) h, pow8_suc n);
      cell = 8 * cell + m;
      corner = omega (arith, k.place, child_edge cell m n);
      within = x.reads.within;
      depth = x.depth ∙ a.depth;
      ready = k.fed.ready;
    }

    -- one child more
    pub kids_next : {out' : Emitter} {s' : Cell} {alike' : Head} → m < 8 → CellRead D t n v s out out' s' → ((c : ℕ → Tree) (j : ℕ) → InCommon c j alike → head_of (c j) ≡ byte_of s'.head → InCommon c (suc j) (Some alike'))
        → out'.out.ghost_name ≡ out.out.ghost_name → out'.depth ≡ out.depth → KidsRead D t n from r o out' s'.after (v + 8 ^ n) (Some alike') (m + 1)
    kids_next h y shares same depth =
        let kids : ℕ → Tree = up_to m x.trees y.tree in
        rw (add-one m) (record {
          same = same ∙ x.same;
          depth = depth ∙ x.depth;
          turns = omega arith;
          trees = kids;
          allowed = one_more (λ i T. Allowed n T) m x.trees y.tree x.allowed y.allowed;
          reads = reads_as (sym (texts_and_one m x.trees y.tree)) (reads_then x.reads y.reads);
          common = shares kids m (common_same x.trees kids m alike (λ i g. sym (up_to_below m x.trees y.tree i g)) x.common) (ap head_of (up_to_from m x.trees y.tree m (omega arith)) ∙ y.head);
          fed = λ P agree.
              rw (← add-one m) (children_more (x.fed P (λ i g u lo hi. agree i (omega arith) u lo hi ∙ ap (λ (T : Tree). shows n T u) (up_to_below m x.trees y.tree i g))) h refl same depth
              (y.fed P (λ u lo hi. agree m (omega arith) u (omega (arith, kids_fed.place)) (omega (arith, kids_fed.place)) ∙ ap (λ (T : Tree). shows n T u) (up_to_from m x.trees y.tree m (omega arith)))));
        })

    -- ---- the cell that opens one byte before them

    module _ {a : ℕ} (more : a < length t) (opens : get_or t a 0 ≡ opening) (next : r ≡ a + 1) where
      kids_reads : Reads t a (opening ∷ texts (λ i. spell (x.trees i)) m) s
      kids_reads = reads_then (reads_as (ap (λ (b : ℕ). b ∷ []) opens) (subst (Reads t a (get_or t a 0 ∷ [])) (sym next) (reads_byte t a more))) x.reads

      -- the next child is wrong
      pub kids_stuck : {e : ℕ} → m < 8 → Stuck n t s e → Stuck (suc n) t a e
      kids_stuck h = stuck_child n m h x.trees x.allowed kids_reads

      module _ (all : 8 ≤ m) where
        eight : m ≡ 8
        eight = omega (arith, x.turns)

        -- the eighth makes eight equal leaves
        pub kids_eighth : {k : ℕ} → (alike ≡ Some Open → ⊥) → s ≡ k + 1 → Stuck (suc n) t a k
        kids_eighth {k} one last = go alike x.common one
          where
            whole : Reads t a (opening ∷ texts (λ i. spell (x.trees i)) 8) s
            whole = reads_as (ap (λ (j : ℕ). opening ∷ texts (λ i. spell (x.trees i)) j) eight) kids_reads

            go : (h : Option Head) → InCommon x.trees m h → (h ≡ Some Open → ⊥) → Stuck (suc n) t a k
            go None z u = absurd (omega arith)
            go (Some Open) z u = absurd (u refl)
            go (Some Black) z u = stuck_eighth n x.trees true (λ i h. z.1 i (omega arith)) t a k s whole last
            go (Some White) z u = stuck_eighth n x.trees false (λ i h. z.1 i (omega arith)) t a k s whole last

        -- the eight are read
        pub kids_gray : {s' : Cell} → alike ≡ Some Open → s'.after ≡ s → s'.head ≡ Open → CellRead D t (suc n) from a o out s'
        unfolding spell head_of Allowed
        kids_gray {s'} mixed after head = record {
          tree = gray x.trees;
          allowed = (λ i h. x.allowed i (omega arith), λ b one. (rw mixed at x.common).1 b (λ i h. one i (omega (arith, x.turns))));
          reads = rw after (reads_as (ap (λ (j : ℕ). opening ∷ texts (λ i. spell (x.trees i)) j) eight) kids_reads);
          head = rw head refl;
          fed = λ P agree. children_all (x.fed P (λ i h u lo hi. agree u (omega arith) (omega (arith, child_within i (8 ^ n) (omega (arith, x.turns)), pow8_suc n)) ∙ in_child i u (omega (arith, x.turns)) lo hi)) (8 ^ suc n) all (pow8_suc n);
        }

-- ---- the root

-- the text can be read from its beginning
pub root_ahead : (D : ℕ) (t : List ℕ) {e : Emitter} → D ≤ deepest → e.depth ≡ D → e.runs ≡ fresh 0 0 → Ahead D t D 0 0 e
root_ahead D t deep depth begun = record {
  deep = deep;
  level = omega arith;
  root = omega arith;
  cell = 0;
  corner = sym (zero-mul (8 ^ D));
  within = omega arith;
  depth = depth;
  ready = rw begun ready_none;
}

-- all its voxels are fed
pub root_fed : {D : ℕ} {t : List ℕ} {e m : Emitter} {s : Cell} (x : CellRead D t D 0 0 e m s) → Feeds D (shows D x.tree) 0 (8 ^ D) e m
root_fed {D} x = fed_to D (shows D x.tree) (zero-add (8 ^ D)) (x.fed (shows D x.tree) (λ v lo hi. refl))
