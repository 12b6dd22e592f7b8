-- INNER: for the contracts of this crate. The descent: target cells with the slots of their source cells. Definitions only.
use Rattle.std.specs.Prelude.{◌≡◌, List, [], Bool, ℕ, suc, ◌+◌, ◌-◌, ◌*◌, ◌^◌, ◌<◌, ◌≤◌, get_or}
use Rattle.records.specs.Record.{black}
use Rattle.emit.specs.Inner.{Ready}
use Rattle.emit.specs.declared.inner.Emitter.{Emitter}
use Rattle.shifts.specs.LabelSums.{Uses}
use Rattle.shifts.specs.Shift.{need, cell_of}
use Rattle.records.specs.Slot.{Source, Of, OfCell, SlotTint, tint_of, slot_at}
use Rattle.shifts.specs.declared.inner.descent.Target.{Target}
use Rattle.records.specs.declared.inner.slots.Slot.{Slot}
use Rattle.records.specs.declared.inner.slots.Tint.{Tint}

-- ---- the eight slots of a target cell

-- the slots t of a target cell: S q is the source cell of slot q, f the axes that are needed
abbrev pub Slots : ℕ → List ℕ → ℕ → ℕ → (ℕ → ℕ) → List Slot → Type 0
Slots D l n f S t = (q : ℕ) → q < 8 → Uses f q → Of D l n (S q) (slot_at t q)

-- the part m of slot q
abbrev pub part_at : List (List Slot) → ℕ → ℕ → Slot
part_at p q m = slot_at (get_or p q []) m

-- the parts of the slots, one level down
abbrev pub Divided : ℕ → List ℕ → ℕ → ℕ → (ℕ → ℕ) → List (List Slot) → Type 0
Divided D l n f S p = (q m : ℕ) → q < 8 → Uses f q → m < 8 → Of D l n (8 * S q + m) (part_at p q m)

-- each needed slot is that of a cell with n levels left
abbrev pub OfCells : ℕ → List ℕ → ℕ → ℕ → List Slot → Type 0
OfCells D l n f t = (q : ℕ) → q < 8 → Uses f q → OfCell D l n (slot_at t q)

-- where r is the tint of one colour, each needed slot has it; Mixed says nothing
abbrev pub SlotsTint : ℕ → List ℕ → ℕ → ℕ → List Slot → Tint → Type 0
SlotsTint D l w f t r = (b : Bool) → r ≡ tint_of b → (q : ℕ) → q < 8 → Uses f q → SlotTint D l w (slot_at t q) r

-- ---- what the descent asks

-- the target cell c comes from one source cell, whose leaves slot s has; the emitter is ready for it
pub record Copying (D : ℕ) (l : List ℕ) (c : Target) (s : Slot) (e : Emitter) : Type 0 where
  pub held : OfCell D l c.k s
  pub root : c.from + 8 ^ c.k ≤ 8 ^ D
  pub depth : e.depth ≡ D
  pub ready : Ready D e.runs c.from

-- on the voxels of c, P is what l has on those of the source cell of number b
abbrev pub Copies : ℕ → List ℕ → ℕ → Target → (ℕ → Bool) → Type 0
Copies D l b c P = (v : ℕ) → c.from ≤ v → v < c.from + 8 ^ c.k → P v ≡ black D l (b * 8 ^ c.k + (v - c.from))

-- t are the slots of the target cell c for the shift w; the emitter is ready for it
pub record Aimed (D : ℕ) (l : List ℕ) (w : ℕ) (c : Target) (t : List Slot) (e : Emitter) : Type 0 where
  pub source : Source D l
  pub level : c.k ≤ D
  pub root : c.from + 8 ^ c.k ≤ 8 ^ D
  pub axes : c.axes ≡ need c.k w
  pub cell : ℕ
  pub place : c.from ≡ cell * 8 ^ c.k
  pub slots : Slots D l c.k c.axes (cell_of D w c.k cell) t
  pub depth : e.depth ≡ D
  pub ready : Ready D e.runs c.from

-- c is the first child of a target cell, whose slots have the parts p
pub record Divides (D : ℕ) (l : List ℕ) (w : ℕ) (c : Target) (p : List (List Slot)) (e : Emitter) : Type 0 where
  pub source : Source D l
  pub level : c.k < D
  pub root : c.from + 8 ^ suc c.k ≤ 8 ^ D
  pub axes : c.axes ≡ need c.k w
  pub cell : ℕ
  pub place : c.from ≡ cell * 8 ^ suc c.k
  pub parts : Divided D l c.k (need (suc c.k) w) (cell_of D w (suc c.k) cell) p
  pub depth : e.depth ≡ D
  pub ready : Ready D e.runs c.from
