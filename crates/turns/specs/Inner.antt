-- INNER: for the contracts of the descent. A label turned back, the source of a cell or voxel label by label, and what the descent asks. Definitions only.
use Rattle.std.specs.Prelude.{◌≡◌, Bool, List, ℕ, zero, suc, ◌+◌, ◌-◌, ◌*◌, ◌/◌, ◌%◌, ◌^◌, ◌<◌, ◌≤◌}
use Rattle.records.specs.Record.{black}
use Rattle.records.specs.Slot.{Source, Of, slot_at}
use Rattle.records.specs.declared.inner.slots.Slot.{Slot}
use Rattle.emit.specs.Inner.{Ready}
use Rattle.emit.specs.declared.inner.Emitter.{Emitter}
use Rattle.turns.specs.declared.inner.Target.{Target}

-- the label that has the halves x, y and z, each 0 or 1
abbrev pub label_of : ℕ → ℕ → ℕ → ℕ
label_of x y z = x + 2 * y + 4 * z

-- the label that one turn takes to m: its x is the y of m, its y is 1 less the x of m, its z that of m
unfoldable pub from_label : ℕ → ℕ
from_label m = label_of (m / 2 % 2) (1 - m % 2) (m / 4 % 2)

-- the label that n turns take to m
unfoldable pub source_label : ℕ → ℕ → ℕ
source_label zero m = m
source_label (suc n) m = source_label n (from_label m)

-- the k labels of v, each changed by f
unfoldable pub relabel : (ℕ → ℕ) → ℕ → ℕ → ℕ
relabel f zero v = 0
relabel f (suc k) v = 8 * relabel f k (v / 8) + f (v % 8)

-- of the cells of level k, the number of the one that n turns take to that of number v
abbrev pub source_of : ℕ → ℕ → ℕ → ℕ
source_of n k v = relabel (source_label n) k v

-- the black voxels after n turns
abbrev pub turned : ℕ → List ℕ → ℕ → ℕ → Bool
turned D l n v = black D l (source_of n D v)

-- slot s has the leaves of the source cell of the target cell c; the emitter is ready for it
pub record Turning (D : ℕ) (l : List ℕ) (c : Target) (s : Slot) (m : Emitter) : Type 0 where
  pub source : Source D l
  pub level : c.k ≤ D
  pub root : c.from + 8 ^ c.k ≤ 8 ^ D
  pub cell : ℕ
  pub place : c.from ≡ cell * 8 ^ c.k
  pub slot : Of D l c.k (source_of c.turns (D - c.k) cell) s
  pub depth : m.depth ≡ D
  pub ready : Ready D m.runs c.from

-- c is the first child of a target cell, and the slots p have the leaves of the children of its source cell
pub record KidsTurning (D : ℕ) (l : List ℕ) (c : Target) (p : List Slot) (m : Emitter) : Type 0 where
  pub source : Source D l
  pub level : c.k < D
  pub root : c.from + 8 ^ suc c.k ≤ 8 ^ D
  pub cell : ℕ
  pub place : c.from ≡ cell * 8 ^ suc c.k
  pub parts : (i : ℕ) → i < 8 → Of D l c.k (8 * source_of c.turns (D - suc c.k) cell + i) (slot_at p i)
  pub depth : m.depth ≡ D
  pub ready : Ready D m.runs c.from
