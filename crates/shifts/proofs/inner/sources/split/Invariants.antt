-- The slots before q are split: row q has the parts of slot q, if that is needed, whatever cell it is of.
use Rattle.std.proofs.Common.{ℕ, suc, ◌+◌, ◌*◌, ◌<◌, List, []}
use Rattle.records.proofs.Arrays.{Prefix}
use Rattle.records.specs.Slot.{Of, slot_at}
use Rattle.records.specs.declared.inner.slots.Slot.{Slot}
use Rattle.shifts.specs.LabelSums.{Uses}
use Rattle.shifts.proofs.inner.sources.split.Given as goal

abbrev pub Parted : ℕ → List ℕ → ℕ → ℕ → List Slot → ℕ → List Slot → Type 0
Parted D l k f t q p = Uses f q → (b : ℕ) → Of D l (suc k) b (slot_at t q) → (m : ℕ) → m < 8 → Of D l k (8 * b + m) (slot_at p m)

abbrev pub invariant-loop-q : goal.invariant-loop-q
invariant-loop-q l = Prefix (Parted l.depth l.l l.k l.f l.t) [] 8 l.r l.q
