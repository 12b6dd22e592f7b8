-- What the slot of a target cell's source says of its voxels, and how the children's slots come from it. Assumes nothing.
use mathlib.Core.Path.{◌≡◌, sym, ◌∙◌, subst}
use mathlib.Core.Bool.{Bool}
use mathlib.Core.List.{List}
use Prim.Native.Nat.{ℕ, suc, ◌+◌, ◌-◌, ◌*◌, ◌^◌, ◌<◌, ◌≤◌}
use native.Mathlib.Nat.{zero-mul}
use native.Mathlib.Omega.{arith}
use lib.ListN.{length}
use Rattle.cells.proofs.Power.{pow8_suc}
use Rattle.records.specs.Slot.{Source, Of, OfCell, SlotTint, tint_of, slot_at}
use Rattle.records.specs.declared.inner.slots.Slot.{Slot}
use Rattle.records.specs.declared.inner.slots.Tint.{Tint}
use Rattle.records.proofs.Edges.{child_within, child_edge}
use Rattle.records.proofs.SlotLaws.{slot_colour, whole_list}
use Rattle.emit.specs.Inner.{Ready, fresh}
use Rattle.emit.specs.declared.inner.Emitter.{Emitter}
use Rattle.emit.proofs.Runs.{ready_none}
use Rattle.turns.specs.Inner.{source_label, relabel, source_of, turned, Turning, KidsTurning}
use Rattle.turns.specs.declared.inner.Target.{Target}
use Rattle.turns.proofs.Labels.{source_lt}
use Rattle.turns.proofs.Relabels.{relabel_step, relabel_lt, relabel_within}

-- ---- a target cell

module _ {D : ℕ} {l : List ℕ} {c : Target} {s : Slot} {e : Emitter} (x : Turning D l c s e) where
  -- its source
  abbrev source : ℕ
  source = source_of c.turns (D - c.k) x.cell

  pub turning_slot : OfCell D l c.k s
  turning_slot = record { source = x.source; level = x.level; cell = source; part = x.slot }

  -- the source of each of its voxels lies there
  in_source : (v : ℕ) → c.from ≤ v → v < c.from + 8 ^ c.k → (source * 8 ^ c.k ≤ source_of c.turns D v) × (source_of c.turns D v < source * 8 ^ c.k + 8 ^ c.k)
  in_source v lo hi =
      let f = source_label c.turns in
      let w : ℕ = v - c.from in
      let deep : D - c.k + c.k ≡ D = omega (arith, x.level) in
      let place : x.cell * 8 ^ c.k + w ≡ v = omega (arith, x.place) in
      let e : relabel f D v ≡ source * 8 ^ c.k + relabel f c.k w = rw (deep, place) at (relabel_within f (D - c.k) c.k x.cell w (omega arith)) in
      let h = relabel_lt f (source_lt c.turns) c.k w in
      (omega arith, omega arith)

  -- one colour
  pub turning_colour : {tint : Tint} → SlotTint D l (8 ^ c.k) s tint → (b : Bool) → tint ≡ tint_of b → (v : ℕ) → c.from ≤ v → v < c.from + 8 ^ c.k → turned D l c.turns v ≡ b
  turning_colour told b e v lo hi = let (low, high) = in_source v lo hi in slot_colour x.slot x.source b (subst (SlotTint D l (8 ^ c.k) s) e told) (source_of c.turns D v) low high

  -- its children, with j levels below each
  pub turning_children : (j : ℕ) → suc j ≡ c.k → (p : List Slot) → ((b : ℕ) → Of D l (suc j) b s → (m : ℕ) → m < 8 → Of D l j (8 * b + m) (slot_at p m))
      → KidsTurning D l (record { from = c.from; k = j; turns = c.turns }) p e
  turning_children j level p cut = record {
    source = x.source;
    level = omega (arith, x.level);
    root = rw level x.root;
    cell = x.cell;
    place = rw level x.place;
    parts = cut (source_of c.turns (D - suc j) x.cell) (rw level x.slot);
    depth = x.depth;
    ready = x.ready;
  }

-- child m, with the part whose label a is turned into m
pub child_turning : {D : ℕ} {l : List ℕ} {c : Target} {p : List Slot} {e n : Emitter} (x : KidsTurning D l c p e) (m a v : ℕ) → m < 8 → a ≡ source_label c.turns m → v ≡ c.from + m * 8 ^ c.k → n.depth ≡ e.depth → Ready D n.runs v
    → Turning D l (record { from = v; k = c.k; turns = c.turns }) (slot_at p a) n
child_turning {D} {l} {c} {p} x m a v h label place depth ready = record {
  source = x.source;
  level = omega (arith, x.level);
  root = omega (arith, child_within m (8 ^ c.k) h, pow8_suc c.k, x.root);
  cell = 8 * x.cell + m;
  place = omega (arith, child_edge x.cell m c.k, x.place);
  slot = rw (same, label) (x.parts (source_label c.turns m) (source_lt c.turns m h));
  depth = depth ∙ x.depth;
  ready = ready;
}
  where
    same : source_of c.turns (D - c.k) (8 * x.cell + m) ≡ 8 * source_of c.turns (D - suc c.k) x.cell + source_label c.turns m
    same =
        let e : D - c.k ≡ suc (D - suc c.k) = omega (arith, x.level) in
        rw e (relabel_step (source_label c.turns) (D - suc c.k) x.cell m h)

-- ---- the root: the whole list

pub root_turning : {D n : ℕ} {l : List ℕ} {m : Emitter} → Source D l → m.depth ≡ D → m.runs ≡ fresh 0 0 → Turning D l (record { from = 0; k = D; turns = n }) (record { lo = 0; hi = length l }) m
unfolding relabel
root_turning {D} {n} {l} o depth begun = record {
  source = o;
  level = omega arith;
  root = omega arith;
  cell = 0;
  place = sym (zero-mul (8 ^ D));
  slot = let e : D - D ≡ 0 = omega arith in rw e (whole_list o);
  depth = depth;
  ready = rw begun ready_none;
}
