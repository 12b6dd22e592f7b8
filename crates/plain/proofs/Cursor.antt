-- How many leaves of a list start before a voxel, and before the next one: at most one leaf starts at a voxel. Assumes nothing.
use mathlib.Core.Logic.{⊎_elim}
use mathlib.Core.List.{List}
use mathlib.Core.Path.{◌≡◌}
use Prim.Native.Nat.{ℕ, ◌+◌, ◌<◌, ◌≤◌, zero-le}
use native.Mathlib.Nat.{eq-or-lt_of_le}
use native.Mathlib.Omega.{arith}
use lib.ListN.{length, get_or}
use Rattle.cells.specs.Cell.{start}
use Rattle.cells.proofs.Cells.{span_pos}
use Rattle.records.specs.Record.{Ordered}
use Rattle.records.specs.Inner.{Starts}
use Rattle.records.proofs.Fault.{in_order}
use Rattle.records.proofs.Part.{starts_rise}

module _ (D : ℕ) (l : List ℕ) (o : Ordered D 0 l) (v at : ℕ) (s : Starts D l v 0 (length l) at) where
  -- those before stay before
  before : (i : ℕ) → 0 ≤ i → i < at → start D (get_or l i 0) < v + 1
  before i a h = omega (arith, s.below i a h)

  -- the next one starts later
  pub started_later : v < start D (get_or l at 0) → Starts D l (v + 1) 0 (length l) at
  started_later h = record { low = zero-le; high = s.high; below = before; above = λ i a b. omega (arith, starts_rise D l o at i a b) }

  -- the next one starts here, and those after it later
  pub started_here : at < length l → start D (get_or l at 0) ≤ v → Starts D l (v + 1) 0 (length l) (at + 1)
  started_here k h = record {
    low = zero-le;
    high = omega arith;
    below = λ i a b. ⊎_elim (λ (e : i ≡ at). rw e (omega arith)) (λ (l : i < at). before i a l) (eq-or-lt_of_le (omega arith));
    above = λ i a b. omega (arith, in_order D 0 l o at i (omega arith) b, span_pos D (get_or l at 0), s.above at (omega arith) k);
  }
