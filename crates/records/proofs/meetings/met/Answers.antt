-- The part that is returned lies in the caller's own list.
use Rattle.std.proofs.Common.{◌≡◌, List, ℕ, ◌+◌, ◌-◌, ◌*◌, ◌≤◌, ℤ, Result, Ok, Err, IfOk, refl, ap, ap₂, ◌∙◌, arith, length, take, drop}
use Rattle.std.specs.Result.{result_unwrap_or}
use Rattle.std.specs.declared.ops.Range.{Range}
use native.Mathlib.Nat.{add_comm}
use Prim.Native.Nat.{zero-le}
use Rattle.cells.specs.Place.{axes}
use Rattle.cells.specs.declared.refusals.Refusal.{Refusal}
use Rattle.records.specs.Met.{Meeting, meeting_of, MeetingOf}
use Rattle.records.proofs.MetLaws.{within_list, directed}
use Rattle.records.proofs.meetings.met.Goals as goal

-- what was found, where a refusal is the empty part at the list's beginning
record Found (l : List ℕ) (m : Meeting) (s : Range ℕ) : Type 0 where
  rises : s.start ≤ s.end
  within : s.end ≤ length l
  at : s.start ≡ m.at
  n : s.end - s.start ≡ m.n

found : (D : ℕ) (l : List ℕ) (code : ℕ) (d : ℕ → ℤ) (r : Result (Range ℕ) Refusal) (s : Range ℕ)
    → IfOk r (λ t. t.start ≤ t.end) → MeetingOf D l code d (meeting_of r) → s ≡ result_unwrap_or r (record { start = 0; end = 0 }) → Found l (meeting_of r) s
found D l code d (Ok t) s rises met e = let w = within_list D l code d (meeting_of (Ok t)) met in
    rw e (record { rises = rises; within = omega arith; at = refl; n = refl })
found D l code d (Err a) s rises met e = rw e (record { rises = zero-le; within = zero-le; at = refl; n = refl })

pub slice_bounds-result-count : goal.slice_bounds-result-count
slice_bounds-result-count c =
    omega (
      arith,
      (found c.args.depth c.args.list.now c.args.code (axes c.args.dx c.args.dy c.args.dz) c.find.result c.unwrap_or-found.result c.find.ensures.rises
          (directed c.args.depth c.args.list.now c.args.code c.args.dx c.args.dy c.args.dz c.ranges.dx c.ranges.dy c.ranges.dz (meeting_of c.find.result) c.find.ensures.meeting)
          c.unwrap_or-found.ensures).rises,
    )

pub slice_bounds-result-start : goal.slice_bounds-result-start
slice_bounds-result-start c =
    let f = found c.args.depth c.args.list.now c.args.code (axes c.args.dx c.args.dy c.args.dz) c.find.result c.unwrap_or-found.result c.find.ensures.rises
    (directed c.args.depth c.args.list.now c.args.code c.args.dx c.args.dy c.args.dz c.ranges.dx c.ranges.dy c.ranges.dz (meeting_of c.find.result) c.find.ensures.meeting)
    c.unwrap_or-found.ensures in
    omega (arith, f.rises, f.within)

pub returns : goal.returns
returns c =
    let m = directed c.args.depth c.args.list.now c.args.code c.args.dx c.args.dy c.args.dz c.ranges.dx c.ranges.dy c.ranges.dz (meeting_of c.find.result) c.find.ensures.meeting in
    let f = found c.args.depth c.args.list.now c.args.code (axes c.args.dx c.args.dy c.args.dz) c.find.result c.unwrap_or-found.result c.find.ensures.rises m c.unwrap_or-found.ensures in
    record {
      meeting = meeting_of c.find.result;
      found = m;
      codes = ap₂ (λ (n at : ℕ). take n (drop at c.args.list.now)) f.n f.at;
      begins =
          ap (λ (k : ℕ). (c.args.list.ref_ptr.0, k)) (add_comm (c.unwrap_or-found.result.start * 4) c.args.list.ref_ptr.1 ∙ ap (λ (at : ℕ). c.args.list.ref_ptr.1 + at * 4) f.at);
    }
