-- The largest cell of one colour that holds a voxel: there is one level of it; a cell that cannot grow has it; in a good list a black voxel's is its leaf. Assumes nothing.
use mathlib.Core.Path.{◌≡◌, refl, sym, ap, ◌∙◌}
use mathlib.Core.Bool.{Bool, true, not, not-eq-not}
use mathlib.Core.Logic.{⊎_elim, ◌↔◌}
use mathlib.Core.List.{List, Memᴰ}
use Prim.Native.Nat.{ℕ, suc, ◌+◌, ◌-◌, ◌/◌, ◌^◌, ◌≤◌, ◌<◌}
use native.Mathlib.Nat.{le_antisymm}
use native.Mathlib.Omega.{arith}
use Rattle.cells.specs.Cell.{level, proper, span, holds}
use Rattle.cells.proofs.Cells.{level_le, cell_of_lem, within, Inside}
use Rattle.cells.proofs.Decisions.{One}
use Rattle.cells.proofs.Parting.{alike_above, alike_bounds, quotient_below}
use Rattle.cells.proofs.Power.{le_or_lt, pow8_le_inv}
use Rattle.cells.proofs.Views.{quotient, from_quotient}
use Rattle.records.specs.Record.{black, Good}
use Rattle.records.specs.Lookups.{OneColour, Largest, SeenIn, seen}
use Rattle.records.specs.Gap.{Free}
use Rattle.records.proofs.Lists.{holds_true, holds_between}
use Rattle.records.proofs.Leaves.{member, member_black, one_leaf}
use Rattle.records.proofs.Maximal.{inside_leaf}

-- ---- the cell of a voxel with n levels below it

-- a cell that holds v holds the voxels that have its labels in common with v
pub held_with : (D c n : ℕ) → proper D c ≡ true → level D c + n ≡ D → (u v : ℕ) → holds D c v ≡ true → (holds D c u ≡ true) ↔ (u / 8 ^ n ≡ v / 8 ^ n)
held_with D c n p depth u v h =
    let levels : D - level D c ≡ n = omega arith in
    let at : v / 8 ^ n ≡ _ = rw levels at (quotient D c p v h) in
    (λ k. rw levels at (quotient D c p u k) ∙ sym at, λ e. from_quotient D c p u (rw levels (e ∙ at)))

-- v has one
pub record CellWith (D v n : ℕ) : Type 0 where
  pub code : ℕ
  pub is_proper : proper D code ≡ true
  pub is_level : level D code ≡ D - n
  pub held : holds D code v ≡ true

pub cell_with : (D v n : ℕ) → n ≤ D → v < 8 ^ D → CellWith D v n
cell_with D v n h root =
    let q : ℕ = v / 8 ^ n in
    let (p, l, w, s) = cell_of_lem D (D - n) n q (omega arith) (quotient_below D n v h root) in
    record {
      code = 8 ^ (D - n) + q;
      is_proper = p;
      is_level = l;
      held = let (from, to) = (alike_bounds n v v).0 refl in holds_between D _ v (omega (arith, s)) (omega (arith, s, w));
    }

-- ---- one level

pub one_largest : {D : ℕ} {P : ℕ → Bool} {v : ℕ} → One (Largest D P v)
one_largest j k x y = le_antisymm (omega (arith, x.none_larger y.cell y.one_colour, y.is_level)) (omega (arith, y.none_larger x.cell x.one_colour, x.is_level))

pub one_seen : {D : ℕ} {P : ℕ → Bool} {v : ℕ} → One (SeenIn D P v)
one_seen {D} {P} {v} r s (j, x, e) (k, y, f) = e ∙ ap (seen (P v)) (one_largest j k x y) ∙ sym f

-- the voxels of the root decide it
module _ {D : ℕ} (P Q : ℕ → Bool) (same : (u : ℕ) → u < 8 ^ D → P u ≡ Q u) where
  same_colour : (v c : ℕ) → OneColour D P v c → OneColour D Q v c
  same_colour v c x =
      let root : (u : ℕ) → holds D c u ≡ true → u < 8 ^ D = λ u h. omega (arith, holds_true D c u h, within D c x.is_proper) in
      record { is_proper = x.is_proper; held = x.held; colour = λ u h. sym (same u (root u h)) ∙ x.colour u h ∙ same v (root v x.held) }

pub same_largest : {D : ℕ} (P Q : ℕ → Bool) → ((u : ℕ) → u < 8 ^ D → P u ≡ Q u) → (v k : ℕ) → Largest D P v k → Largest D Q v k
same_largest P Q same v k x = record {
  cell = x.cell;
  one_colour = same_colour P Q same v x.cell x.one_colour;
  is_level = x.is_level;
  none_larger = λ c y. x.none_larger c (same_colour Q P (λ u h. sym (same u h)) v c y);
}

-- ---- a cell of one colour that cannot grow

module _ (D : ℕ) (P : ℕ → Bool) (v n : ℕ) (root : v < 8 ^ D) (x : Free D v n (λ u. P u ≡ not (P v))) where
  pub free_largest : Largest D P v (D - n)
  free_largest = record {
    cell = own.code;
    one_colour = record {
      is_proper = own.is_proper;
      held = own.held;
      colour = λ u h. not-eq-not.0 (x.none u ((held_with D own.code n own.is_proper (omega (arith, own.is_level, x.levels)) u v own.held).0 h));
    };
    is_level = own.is_level;
    none_larger = λ c y. ⊎_elim (λ (h : D - n ≤ level D c). h) (λ (h : level D c < D - n). absurd (larger c y h)) (le_or_lt (D - n) (level D c));
  }
    where
      own : CellWith D v n
      own = cell_with D v n x.levels root

      -- a larger cell has a voxel of the other colour
      larger : (c : ℕ) → OneColour D P v c → level D c < D - n → ⊥
      larger c y h =
          let (u, e, other) = x.some (omega arith) in
          let inside : holds D c u ≡ true = (held_with D c (D - level D c) y.is_proper (omega (arith, level_le D c)) u v y.held).1 (alike_above {m = suc n} u v (omega arith) e) in
          not-eq-not.1 (y.colour u inside) other

-- ---- the leaf of a black voxel

-- a cell inside another has no smaller level
inside_level : (D c d : ℕ) → Inside D d c → level D c ≤ level D d
unfolding span
inside_level D c d (a, b) = omega (arith, pow8_le_inv (D - level D d) (D - level D c) (omega arith), level_le D c, level_le D d)

module _ (D : ℕ) (l : List ℕ) (g : Good D l) (v c : ℕ) (m : Memᴰ c l) (h : holds D c v ≡ true) where
  pub leaf_largest : Largest D (black D l) v (level D c)
  leaf_largest = record {
    cell = c;
    one_colour = record { is_proper = (member D 0 l c g.ordered m).0; held = h; colour = λ u k. member_black D c l u m k ∙ sym (member_black D c l v m h) };
    is_level = refl;
    none_larger = larger;
  }
    where
      larger : (d : ℕ) → OneColour D (black D l) v d → level D c ≤ level D d
      larger d y =
          let dark : black D l v ≡ true = member_black D c l v m h in
          let (e, k, i) = inside_leaf D 0 l g.ordered g.condensed d y.is_proper (λ u lo hi. y.colour u (holds_between D d u lo hi) ∙ dark) in
          let (from, to) = holds_true D d v y.held in
          let same : e ≡ c = one_leaf D 0 l e c v g.ordered k m (holds_between D e v (omega (arith, i.0)) (omega (arith, i.1))) h in
          inside_level D c d (rw same at i)

-- ---- the other voxels of the cell

module _ {D : ℕ} {P : ℕ → Bool} {v k : ℕ} (x : Largest D P v k) (w : ℕ) (h : holds D x.cell w ≡ true) where
  pub colour_with : P w ≡ P v
  colour_with = x.one_colour.colour w h

  -- a cell of one colour that holds w, larger than this one, would hold v too
  pub largest_with : Largest D P w k
  largest_with = record {
    cell = x.cell;
    one_colour = record { is_proper = x.one_colour.is_proper; held = h; colour = λ u i. x.one_colour.colour u i ∙ sym colour_with };
    is_level = x.is_level;
    none_larger = λ c y. ⊎_elim (λ (g : k ≤ level D c). g) (λ (g : level D c < k). x.none_larger c (also c y g)) (le_or_lt k (level D c));
  }
    where
      also : (c : ℕ) → OneColour D P w c → level D c < k → OneColour D P v c
      also c y g =
          let n : ℕ = D - level D c in
          let own = x.one_colour in
          let near : v / 8 ^ (D - k) ≡ w / 8 ^ (D - k) = sym ((held_with D x.cell (D - k) own.is_proper (omega (arith, x.is_level, level_le D x.cell)) w v own.held).0 h) in
          let inside = (held_with D c n y.is_proper (omega (arith, level_le D c)) v w y.held).1 (alike_above {m = D - k} {n = n} v w (omega arith) near) in
          record { is_proper = y.is_proper; held = inside; colour = λ u i. y.colour u i ∙ colour_with }
