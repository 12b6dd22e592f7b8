-- The tree of a cell from the leaves that meet it, and its text, put child by child. Assumes nothing.
use mathlib.Core.Path.{◌≡◌, refl, sym, ap, ◌∙◌}
use mathlib.Core.Bool.{Bool, true, false}
use mathlib.Core.Logic.{◌⊎◌, inl, inr}
use mathlib.Core.List.{List, [], ◌∷◌, Memᴰ}
use Prim.Native.Nat.{ℕ, suc, ◌+◌, ◌-◌, ◌*◌, ◌^◌, ◌<◌, ◌≤◌}
use native.Mathlib.Nat.{le_refl, zero-mul, suc-mul, lt_of_mul-lt-mul_right}
use native.Mathlib.Numerals.{add-one}
use native.Mathlib.Omega.{arith}
use lib.ListN.{length, get_or}
use Rattle.cells.specs.Answer.{deepest}
use Rattle.cells.specs.Cell.{proper, start, span, end, holds}
use Rattle.cells.proofs.Bools.{clash}
use Rattle.cells.proofs.Power.{le_or_lt, pow8_pos, pow8_suc, pow8_split}
use Rattle.cells.proofs.Words.{pow8_small}
use Rattle.cells.proofs.Cells.{cell_of_lem, span_pos, within}
use Rattle.records.specs.Record.{black, Good}
use Rattle.records.specs.Slot.{Source, Of, OfCell, SlotTint, tint_of, slot_at}
use Rattle.records.specs.declared.inner.slots.Slot.{Slot}
use Rattle.records.specs.declared.inner.slots.Tint.TheVariants.{Mixed}
use Rattle.records.proofs.Edges.{child_within}
use Rattle.records.proofs.Fault.{member_at}
use Rattle.records.proofs.Leaves.{one_leaf}
use Rattle.records.proofs.Lists.{holds_between}
use Rattle.records.proofs.Maximal.{inside_leaf}
use Rattle.records.proofs.SlotLaws.{black_at, slot_colour, slot_low, slot_proper, slot_above, at_cell, whole_list}
use Rattle.text.specs.Inner.{Put}
use Rattle.text.proofs.Puts.{put_none, put_append, put_as}
use Rattle.df.specs.Df.{Tree, leaf, gray, letter, opening, texts, spell, Allowed, shows, DfOf}
use Rattle.df.specs.Inner.{TreeOf, Spelled, KidsSpelled, most_bytes, Spelling, KidsSpelling}
use Rattle.df.proofs.Kids.{child_of, gray_shown, up_to, one_more, texts_and_one}
use Rattle.df.proofs.OneText.{spell_short}

-- ---- a cell of one colour

tree_leaf : {D n b : ℕ} {l : List ℕ} {s : Slot} → Source D l → Of D l n b s → (x : Bool) → SlotTint D l (8 ^ n) s (tint_of x) → TreeOf (black D l) n b (leaf x)
unfolding Allowed shows
tree_leaf o part x t = record { allowed = tt; shown = λ v lo hi. sym (slot_colour part o x t v lo hi) }

-- ---- a cell with children

-- The first leaf of the slot is smaller than the cell.
module _ {D n : ℕ} {l : List ℕ} {s : Slot} (good : Good D l) (x : OfCell D l (suc n) s) (mixed : SlotTint D l (8 ^ suc n) s Mixed) where
  abbrev first : ℕ
  first = get_or l s.lo 0

  -- it holds a voxel of the cell
  first_at : s.lo < length l
  first_at = omega (arith, mixed.0, x.part.leaves.within)

  first_within : (x.cell * 8 ^ suc n ≤ start D first) × (start D first < x.cell * 8 ^ suc n + 8 ^ suc n)
  first_within = (slot_low x mixed s.lo (le_refl _) mixed.0, (x.part.leaves.meets s.lo (le_refl _) mixed.0).0)

  first_proper : proper D first ≡ true
  first_proper = slot_proper x mixed s.lo mixed.0

  first_holds : holds D first (start D first) ≡ true
  first_holds = holds_between D first (start D first) (le_refl _) (omega (arith, span_pos D first))

  -- so no leaf holds all of the cell
  none_covers : (c : ℕ) → Memᴰ c l → start D c ≤ x.cell * 8 ^ suc n → x.cell * 8 ^ suc n + 8 ^ suc n ≤ end D c → ⊥
  none_covers c m lo hi =
      let same : c ≡ first = one_leaf D 0 l c first (start D first) good.ordered m (member_at l s.lo first_at) (holds_between D c (start D first) (omega (arith, first_within)) (omega (arith, first_within))) first_holds in
      omega (arith, ap (span D) same, mixed.1)

  -- the cell is one of the root's
  in_root : x.cell < 8 ^ (D - suc n)
  in_root = lt_of_mul-lt-mul_right (8 ^ suc n) (omega (arith, pow8_split x.level, first_within, within D first first_proper, span_pos D first))

  -- and it is not of one colour
  not_one : (y : Bool) → ((v : ℕ) → x.cell * 8 ^ suc n ≤ v → v < x.cell * 8 ^ suc n + 8 ^ suc n → black D l v ≡ y) → ⊥
  not_one false all = clash (black_at D l s.lo (start D first) first_at first_holds) (all (start D first) first_within.0 first_within.1)
  not_one true all =
      let (ok, _, wide, from) = cell_of_lem D (D - suc n) (suc n) x.cell (omega (arith, x.level)) in_root in
      let (c, m, i) = inside_leaf D 0 l good.ordered good.condensed (8 ^ (D - suc n) + x.cell) ok (λ v lo hi. all v (omega arith) (omega arith)) in
      none_covers c m (omega (arith, i.0)) (omega (arith, i.1))

  -- the trees of its children
  module _ (c : ℕ → Tree) (trees : (m : ℕ) → m < 8 → TreeOf (black D l) n (8 * x.cell + m) (c m)) where
    -- eight equal leaves would make it so
    all_one : (y : Bool) → ((m : ℕ) → m < 8 → c m ≡ leaf y) → (v : ℕ) → x.cell * 8 ^ suc n ≤ v → v < x.cell * 8 ^ suc n + 8 ^ suc n → black D l v ≡ y
    unfolding shows
    all_one y same v lo hi = let (m, h, from, to) = child_of n x.cell v lo hi in sym ((trees m h).shown v from to) ∙ ap (λ (T : Tree). shows n T v) (same m h)

    tree_gray : TreeOf (black D l) (suc n) x.cell (gray c)
    unfolding Allowed
    tree_gray = record {
      allowed = (λ m h. (trees m h).allowed, λ y same. not_one y (all_one y same));
      shown = gray_shown (black D l) n x.cell c trees;
    }

-- ---- the texts of the children, one after the other

module _ {P : ℕ → Bool} {n b : ℕ} {o : List ℕ} {at : ℕ} where
  spelled_none : KidsSpelled P n b 0 o at o at
  unfolding texts
  spelled_none = record { trees = λ i. leaf false; are_trees = λ i h. absurd (omega arith); put = put_none }

  -- one child more
  spelled_more : {m : ℕ} {after : List ℕ} {r : ℕ} {after' : List ℕ} {r' : ℕ} → KidsSpelled P n b m o at after r → Spelled P n (8 * b + m) after r after' r' → KidsSpelled P n b (m + 1) o at after' r'
  spelled_more {m} x y =
      rw (add-one m) (record {
        trees = up_to m x.trees y.tree;
        are_trees = one_more (λ i T. TreeOf P n (8 * b + i) T) m x.trees y.tree x.are_trees y.is_tree;
        put = put_as (sym (texts_and_one m x.trees y.tree)) (put_append x.put y.put);
      })

-- ---- a cell's text

-- a leaf
pub spelled_leaf : {D n b : ℕ} {l : List ℕ} {s : Slot} {o : List ℕ} {at : ℕ} {after : List ℕ} {r : ℕ} → Source D l → (x : Bool) → SlotTint D l (8 ^ n) s (tint_of x) → Put o at (letter x ∷ []) after r → Of D l n b s → Spelled (black D l) n b o at after r
unfolding spell
spelled_leaf o x t p part = record { tree = leaf x; is_tree = tree_leaf o part x t; put = p }

-- a gray cell: "(", and then its children
module _ {D k at : ℕ} {l : List ℕ} {s : Slot} (x : Spelling D l k s at) (mixed : SlotTint D l (8 ^ k) s Mixed) where
  -- with n levels left under each of its children
  module _ (n : ℕ) (level : suc n ≡ k) where
    abbrev above : OfCell D l (suc n) s × SlotTint D l (8 ^ suc n) s Mixed
    above = slot_above x.held mixed n level

    -- and the parts of its slot
    module _ (p : List Slot) (cut : (b : ℕ) → Of D l (suc n) b s → (m : ℕ) → m < 8 → Of D l n (8 * b + m) (slot_at p m)) where
      pub spelling_children : {next : ℕ} → next ≡ at + 1 → KidsSpelling D l n p next
      spelling_children e = record {
        good = x.good;
        held = λ m h. record { source = x.held.source; level = omega (arith, x.held.level); cell = 8 * above.0.cell + m; part = cut _ above.0.part m h };
        room = omega (arith, x.room, ap most_bytes level);
      }

      pub spelled_gray : {b : ℕ} {o : List ℕ} {o₁ : List ℕ} {next : ℕ} {after : List ℕ} {r : ℕ} → Put o at (opening ∷ []) o₁ next
          → (((m : ℕ) → m < 8 → Of D l n (8 * b + m) (slot_at p m)) → KidsSpelled (black D l) n b 8 o₁ next after r) → Of D l k b s → Spelled (black D l) k b o at after r
      unfolding spell
      spelled_gray {b} opened children part =
          let own : Of D l (suc n) b s = rw level part in
          let texts = children (cut b own) in
          rw (← level) (record {
            tree = gray texts.trees;
            is_tree = tree_gray x.good (at_cell above.0 own) above.1 texts.trees texts.are_trees;
            put = put_append opened texts.put;
          })

-- ---- the loop over the children

-- the texts of the first m are put
pub record TextsPut (D : ℕ) (l : List ℕ) (k : ℕ) (p : List Slot) (o : List ℕ) (at m : ℕ) (after : List ℕ) (r : ℕ) : Type 0 where
  pub turns : m ≤ 8
  pub near : r + m ≤ at + m * most_bytes k
  pub spelled : (b : ℕ) → ((i : ℕ) → i < 8 → Of D l k (8 * b + i) (slot_at p i)) → KidsSpelled (black D l) k b m o at after r

pub texts_none : {D k at : ℕ} {l : List ℕ} {p : List Slot} {o : List ℕ} → TextsPut D l k p o at 0 o at
texts_none {k = k} = record { turns = omega arith; near = omega (arith, zero-mul (most_bytes k)); spelled = λ b parts. spelled_none }

module _ {D k at m r : ℕ} {l : List ℕ} {p : List Slot} {o after : List ℕ} (x : KidsSpelling D l k p at) (c : TextsPut D l k p o at m after r) where
  -- there is room for the next
  pub texts_room : m < 8 → Spelling D l k (slot_at p m) r
  texts_room h = record { good = x.good; held = x.held m h; room = room (le_or_lt m 0) }
    where
      room : (m ≤ 0) ⊎ (0 < m) → r + most_bytes k ≤ most_bytes deepest
      room (inl z) = let e : m ≡ 0 = omega arith in omega (arith, x.room, pow8_suc k, pow8_pos k, c.near, ap (λ (i : ℕ). i * most_bytes k) e, zero-mul (most_bytes k))
      room (inr g) = omega (arith, x.room, pow8_suc k, c.near, child_within m (most_bytes k) h)

  -- one more
  pub texts_more : {after' : List ℕ} {r' : ℕ} → m < 8 → ((b : ℕ) → Of D l k b (slot_at p m) → Spelled (black D l) k b after r after' r') → TextsPut D l k p o at (m + 1) after' r'
  texts_more h put =
      let y = put (x.held m h).cell (x.held m h).part in
      record {
        turns = omega arith;
        near = omega (arith, c.near, y.put.place, spell_short k y.tree y.is_tree.allowed, suc-mul m (most_bytes k), ap (λ (i : ℕ). i * most_bytes k) (add-one m));
        spelled = λ b parts. spelled_more (c.spelled b parts) (put (8 * b + m) (parts m h));
      }

-- all eight
pub texts_all : {D k at m r : ℕ} {l : List ℕ} {p : List Slot} {o after : List ℕ} → TextsPut D l k p o at m after r → 8 ≤ m → (b : ℕ) → ((i : ℕ) → i < 8 → Of D l k (8 * b + i) (slot_at p i)) → KidsSpelled (black D l) k b 8 o at after r
texts_all {m = m} c h b parts = let e : m ≡ 8 = omega (arith, c.turns) in rw e at (c.spelled b parts)

-- ---- the whole list

pub spelling_root : {D : ℕ} {l : List ℕ} → D ≤ deepest → Good D l → Spelling D l D (record { lo = 0; hi = length l }) 0
spelling_root {D} {l} h g =
    let source : Source D l = record { deep = h; ordered = g.ordered } in
    record { good = g; held = record { source = source; level = le_refl D; cell = 0; part = whole_list source }; room = omega (arith, pow8_small D h) }

-- what is put for it is its text
pub spelled_df : {D : ℕ} {l o : List ℕ} {at : ℕ} {after : List ℕ} {r : ℕ} (x : Spelled (black D l) D 0 o at after r) → DfOf D l (spell x.tree)
spelled_df {D} x =
    let z = zero-mul (8 ^ D) in
    record { text = record { tree = x.tree; allowed = x.is_tree.allowed; spelled = refl }; same = λ v h. x.is_tree.shown v (omega arith) (omega arith) }
