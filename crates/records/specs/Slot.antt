-- INNER: for the contracts of `slots` and of the descents above. Slots: the leaves of a list that meet one cell. Definitions only.
use Rattle.std.specs.Prelude.{Bool, true, false, List, ℕ, ◌+◌, ◌*◌, ◌^◌, ◌<◌, ◌≤◌, length, get_or}
use Rattle.cells.specs.Answer.{deepest}
use Rattle.cells.specs.Cell.{start, span, end}
use Rattle.records.specs.Record.{Ordered}
use Rattle.records.specs.declared.inner.slots.Slot.{Slot}
use Rattle.records.specs.declared.inner.slots.Tint.{Tint}
use Rattle.records.specs.declared.inner.slots.Tint.TheVariants.{White, Black, Mixed}

-- a list that can be searched
pub record Source (D : ℕ) (l : List ℕ) : Type 0 where
  pub deep : D ≤ deepest
  pub ordered : Ordered D 0 l

-- the leaves of l from place lo up to place hi are those that meet the voxels from a up to z
pub record PartOf (D : ℕ) (l : List ℕ) (a z lo hi : ℕ) : Type 0 where
  pub order : lo ≤ hi
  pub within : hi ≤ length l
  pub before : (i : ℕ) → i < lo → end D (get_or l i 0) ≤ a
  pub after : (i : ℕ) → hi ≤ i → i < length l → z ≤ start D (get_or l i 0)
  pub meets : (i : ℕ) → lo ≤ i → i < hi → (start D (get_or l i 0) < z) × (a < end D (get_or l i 0))

-- slot s has the leaves of l that meet the cell of number b with n levels left
pub record Of (D : ℕ) (l : List ℕ) (n b : ℕ) (s : Slot) : Type 0 where
  pub leaves : PartOf D l (b * 8 ^ n) (b * 8 ^ n + 8 ^ n) s.lo s.hi

-- the tint of a cell of one colour
abbrev pub tint_of : Bool → Tint
tint_of false = White
tint_of true = Black

-- what the first leaf of a slot says of its cell, of span w
abbrev pub SlotTint : ℕ → List ℕ → ℕ → Slot → Tint → Type 0
SlotTint D l w s White = s.hi ≤ s.lo
SlotTint D l w s Black = (s.lo < s.hi) × (w ≤ span D (get_or l s.lo 0))
SlotTint D l w s Mixed = (s.lo < s.hi) × (span D (get_or l s.lo 0) < w)

-- slot s is that of some cell with n levels left
pub record OfCell (D : ℕ) (l : List ℕ) (n : ℕ) (s : Slot) : Type 0 where
  pub source : Source D l
  pub level : n ≤ D
  pub cell : ℕ
  pub part : Of D l n cell s

-- the slot at place i
abbrev pub slot_at : List Slot → ℕ → Slot
slot_at t i = get_or t i (record { lo = 0; hi = 0 })
