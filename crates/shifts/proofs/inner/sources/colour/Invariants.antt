-- The needed slots before q have the tint r.
use Rattle.std.proofs.Common.{ℕ, ◌<◌}
use Rattle.shifts.specs.LabelSums.{Uses}
use Rattle.records.specs.Slot.{SlotTint, slot_at}
use Rattle.shifts.proofs.inner.sources.colour.Given as goal

abbrev pub invariant-loop-q : goal.invariant-loop-q
invariant-loop-q l = (p : ℕ) → p < l.q → Uses l.f p → SlotTint l.depth l.l l.w (slot_at l.t p) l.r
