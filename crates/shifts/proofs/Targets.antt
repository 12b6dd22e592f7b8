-- What the slots of a target cell say of its voxels, and how its children's slots come from it. Assumes nothing.
use mathlib.Core.Path.{◌≡◌, sym, ap, ◌∙◌, subst}
use mathlib.Core.List.{List}
use mathlib.Core.Bool.{Bool}
use Prim.Native.Nat.{ℕ, suc, ◌+◌, ◌-◌, ◌*◌, ◌/◌, ◌%◌, ◌^◌, ◌<◌, ◌≤◌}
use native.Mathlib.Nat.{div-add-mod', mod-lt, zero-mul}
use native.Mathlib.Omega.{arith}
use lib.Arith.{digits_div}
use lib.ListN.{length}
use Rattle.cells.proofs.Power.{pow8_pos, pow8_suc}
use Rattle.records.specs.Record.{black}
use Rattle.emit.specs.Inner.{Ready, fresh}
use Rattle.emit.specs.declared.inner.Emitter.{Emitter}
use Rattle.emit.proofs.Runs.{ready_none}
use Rattle.shifts.specs.LabelSums.{sum_label, carry_label, Uses}
use Rattle.shifts.specs.Shift.{shift, cell_of, need, shifted}
use Rattle.records.specs.Slot.{Source, Of, tint_of, slot_at}
use Rattle.shifts.specs.Descent.{Slots, OfCells, Divided, SlotsTint, Copying, Copies, Aimed, Divides, part_at}
use Rattle.shifts.specs.declared.inner.descent.Target.{Target}
use Rattle.records.specs.declared.inner.slots.Slot.{Slot}
use Rattle.records.specs.declared.inner.slots.Tint.{Tint}
use Rattle.shifts.proofs.Bits.{sum_lt, carry_lt, uses_none, uses_carry}
use Rattle.shifts.proofs.Adder.{carry, shifted_in, source_cell, need_carries, needs_level, carries_lt, carry_none, child_cell, root_cell, low_labels, need_none}
use Rattle.records.proofs.Edges.{child_within, child_edge}
use Rattle.records.proofs.SlotLaws.{slot_colour, eight_of, each_of_eight, whole_list}

-- ---- a target cell

module _ {D w : ℕ} {l : List ℕ} {c : Target} {t : List Slot} {e : Emitter} (x : Aimed D l w c t e) where
  abbrev source : ℕ → ℕ
  source q = cell_of D w c.k x.cell q

  module _ (v : ℕ) (lo : c.from ≤ v) (hi : v < c.from + 8 ^ c.k) where
    in_target : v / 8 ^ c.k ≡ x.cell
    in_target = ap (λ (y : ℕ). y / 8 ^ c.k) (omega (arith, x.place)) ∙ digits_div x.cell {m = 8 ^ c.k} {r = v - c.from} (omega arith)

    -- the slot that the source lies in
    abbrev slot : ℕ
    slot = carry c.k w v

    in_source : shift D w 0 v / 8 ^ c.k ≡ source slot
    in_source = source_cell D w c.k v x.level ∙ ap (λ (d : ℕ). cell_of D w c.k d slot) in_target

    colour : shifted D l w v ≡ black D l (shift D w 0 v)
    colour = shifted_in D l w v (omega (arith, x.root))

  -- each slot needed is that of its source cell
  pub aimed_slots : OfCells D l c.k c.axes t
  aimed_slots q h u = record { source = x.source; level = x.level; cell = source q; part = x.slots q h u }

  -- one colour: y is the span as the code has it
  pub aimed_colour : (y : ℕ) → y ≡ 8 ^ c.k → {tint : Tint} → SlotsTint D l y c.axes t tint → (b : Bool) → tint ≡ tint_of b → (v : ℕ) → c.from ≤ v → v < c.from + 8 ^ c.k → shifted D l w v ≡ b
  aimed_colour y wide all b e v lo hi =
      let q = slot v lo hi in
      let lt = carries_lt c.k w v in
      let u : Uses c.axes q = rw x.axes (need_carries c.k w v) in
      let s = shift D w 0 v in
      let h = div-add-mod' s (8 ^ c.k) in
      let g = mod-lt s (pow8_pos c.k) in
      let p : s / 8 ^ c.k * 8 ^ c.k ≡ source q * 8 ^ c.k = ap (λ (n : ℕ). n * 8 ^ c.k) (in_source v lo hi) in
      colour v lo hi ∙ slot_colour (x.slots q lt u) x.source b (rw (← wide, ← e) (all b e q lt u)) s (omega arith) (omega arith)

  -- one source cell, copied as it is
  pub aimed_copying : Copying D l c (slot_at t 0) e
  aimed_copying = record { held = aimed_slots 0 (omega arith) (uses_none c.axes); root = x.root; depth = x.depth; ready = x.ready }

  pub aimed_copies : c.axes ≡ 0 → Copies D l (source 0) c (shifted D l w)
  aimed_copies none v lo hi =
      let z = sym x.axes ∙ none in
      let u = shift D w 0 v in
      let s : u / 8 ^ c.k ≡ source 0 = in_source v lo hi ∙ ap source (carry_none c.k w v z) in
      let r : u % 8 ^ c.k ≡ v - c.from =
      low_labels c.k D w v x.level (need_none c.k w z) ∙ omega (arith, div-add-mod' v (8 ^ c.k), ap (λ (y : ℕ). y * 8 ^ c.k) (in_target v lo hi), x.place)
      in
      colour v lo hi ∙ ap (black D l) (omega (arith, div-add-mod' u (8 ^ c.k), ap (λ (y : ℕ). y * 8 ^ c.k) s, r))

  -- ---- its children

  -- a cell of which not all comes from one source cell has children
  pub aimed_parent : (c.axes ≡ 0 → ⊥) → 1 ≤ c.k
  aimed_parent some = needs_level c.k w (λ z. some (x.axes ∙ z))

  -- with j levels below each, f the axes there
  module _ (j : ℕ) (level : suc j ≡ c.k) where
    pub aimed_above : OfCells D l (suc j) c.axes t
    aimed_above = rw level aimed_slots

    pub aimed_divides : (f : ℕ) → f ≡ need j w → (p : List (List Slot)) → ((S : ℕ → ℕ) → Slots D l (suc j) c.axes S t → Divided D l j c.axes S p) → Divides D l w (record { from = c.from; k = j; axes = f }) p e
    aimed_divides f axes p d =
        let parts : Divided D l j c.axes (cell_of D w (suc j) x.cell) p = d (cell_of D w (suc j) x.cell) (rw level x.slots) in
        record {
          source = x.source;
          level = omega (arith, x.level);
          root = rw level x.root;
          axes = axes;
          cell = x.cell;
          place = rw level x.place;
          parts = rw (level, ← x.axes) (rw level at parts);
          depth = x.depth;
          ready = x.ready;
        }

-- the slots of child m, picked from the parts of its parent's, h the shift's label as the code has it
pub child_aimed : {D w : ℕ} {l : List ℕ} {c : Target} {p : List (List Slot)} {e n : Emitter} {t : List Slot} (x : Divides D l w c p e) (h m v : ℕ) → h ≡ w / 8 ^ c.k % 8 → m < 8 → v ≡ c.from + m * 8 ^ c.k
    → ((q : ℕ) → q < 8 → Uses c.axes q → slot_at t q ≡ part_at p (carry_label h m q) (sum_label h m q)) → n.depth ≡ e.depth → Ready D n.runs v → Aimed D l w (record { from = v; k = c.k; axes = c.axes }) t n
unfolding need
child_aimed {D} {w} {l} {c} {p} {e} {n} {t} x h m v eh child place pick depth ready = record {
  source = x.source;
  level = omega (arith, x.level);
  root = omega (arith, child_within m (8 ^ c.k) child, pow8_suc c.k, x.root);
  axes = x.axes;
  cell = 8 * x.cell + m;
  place = omega (arith, child_edge x.cell m c.k, x.place);
  slots = slots;
  depth = depth ∙ x.depth;
  ready = ready;
}
  where
    slots : Slots D l c.k c.axes (cell_of D w c.k (8 * x.cell + m)) t
    slots q g u =
        let k = c.k in
        let a = carry_label h m q in
        let b = sum_label h m q in
        let part : Of D l k (8 * cell_of D w (suc k) x.cell a + b) (part_at p a b) = x.parts a b (carry_lt h m q) (rw (← eh) (uses_carry (need k w) h m q (rw x.axes at u))) (sum_lt h m q) in
        let same : cell_of D w k (8 * x.cell + m) q ≡ 8 * cell_of D w (suc k) x.cell a + b = rw eh (child_cell D w k x.cell m q x.level child) in
        rw (same, pick q g u) part

-- ---- the root: each slot is the whole list

pub root_aimed : {D f w : ℕ} {l : List ℕ} {e : Emitter} → Source D l → f ≡ need D w → e.depth ≡ D → e.runs ≡ fresh 0 0 → Aimed D l w (record { from = 0; k = D; axes = f }) (eight_of (record { lo = 0; hi = length l })) e
root_aimed {D} {f} {w} {l} o axes depth begun = record {
  source = o;
  level = omega arith;
  root = omega arith;
  axes = axes;
  cell = 0;
  place = sym (zero-mul (8 ^ D));
  slots = λ q h u. subst (Of D l D (cell_of D w D 0 q)) (sym (each_of_eight _ q h)) (rw (root_cell D w q) (whole_list o));
  depth = depth;
  ready = rw begun ready_none;
}
