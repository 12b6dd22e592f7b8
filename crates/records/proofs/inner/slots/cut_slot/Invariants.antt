-- The parts of the children before this one are cut, and lo is the cut before it, whatever cell the slot is of.
use Rattle.std.proofs.Common.{◌≡◌, ℕ, List, suc, ◌+◌, ◌*◌, ◌^◌}
use Rattle.records.specs.Slot.{Of}
use Rattle.records.specs.declared.inner.slots.Slot.{Slot}
use Rattle.records.proofs.Arrays.{Prefix}
use Rattle.records.proofs.SlotLaws.{Cut}
use Rattle.records.proofs.inner.slots.cut_slot.Given as goal

pub record Cutting (D : ℕ) (l : List ℕ) (k b : ℕ) (s : Slot) (v i : ℕ) (r : List Slot) (m : ℕ) : Type 0 where
  pub place : v ≡ (8 * b + m) * 8 ^ k
  pub cut : Cut D l b k s.lo s.hi m i
  pub filled : Prefix (λ j. Of D l k (8 * b + j)) (record { lo = 0; hi = 0 }) 8 r m

abbrev pub invariant-loop-part : goal.invariant-loop-part
invariant-loop-part l = (b : ℕ) → Of l.depth l.l (suc l.k) b l.s → Cutting l.depth l.l l.k b l.s l.v l.lo l.part-items l.part-index
