-- The list's tests, then the neighbour's.
use Rattle.std.proofs.lemmas.Result.{err_from_is_err_and}
use Rattle.std.proofs.Common.{◌≡◌, List, [], ◌∷◌, ℕ, ◌-◌, ℤ, refl, w32, SFits, to_z, of_z, rules}
use Rattle.cells.specs.Answer.{given, Test, Decided, alone, deepest, TooDeep}
use Rattle.cells.specs.Refusals.{refused}
use Rattle.cells.specs.Place.{axes}
use Rattle.cells.specs.Corners.{NoCell}
use Rattle.cells.specs.Neighbour.{NoDirection, Neighbour, Outside, NeighbourOf}
use Rattle.cells.specs.declared.Answer.{Answer}
use Rattle.cells.proofs.Decisions.{passes, deep_enough, decided_past, opening_refuses, opening_passes, opening_known}
use Rattle.cells.proofs.NeighbourLaws.{neighbours}
use Rattle.cells.proofs.Refused.{refused_numbered}
use Rattle.cells.proofs.Words.{signed_axes}
use Rattle.records.specs.Calls.{CheckOf}
use Rattle.records.specs.Met.{Meeting, MetPart, unmet, MeetingOf}
use Rattle.records.proofs.CallLaws.{Checked, checks}
use Rattle.records.proofs.MetLaws.{Met}
use Rattle.records.proofs.meetings.find.Goals as goal

-- ---- what `check` told

module _ (D : ℕ) (l : List ℕ) (code : ℕ) (d : ℕ → ℤ) (listed : Answer) (checked : CheckOf D l listed) where
  -- the neighbour's tests past the depth's
  abbrev left : List Test
  left = NoCell D code ∷ NoDirection d ∷ Outside D code d ∷ []

  unlisted : (listed.number ≡ 0 → ⊥) → MeetingOf D l code d (unmet listed)
  unlisted some = opening_refuses (checks D l) listed checked unmet left (Met D l code d) some

  module _ (good : listed.number ≡ 0) (next : Answer) (answered : NeighbourOf D code d next) where
    known : Checked D l listed.place
    known = opening_known (checks D l) listed checked good

    passed : (r : Meeting) → Decided unmet left (Met D l code d) r → MeetingOf D l code d r
    passed r x = opening_passes (checks D l) listed checked unmet left (Met D l code d) r good x

    -- ---- what `neighbour` told

    abbrev Given : Answer → Type 0
    Given r = (m : ℕ) × Neighbour D code d m × (r ≡ given m)

    decided : Decided alone left Given next
    decided = decided_past alone (TooDeep deepest D) left Given next (passes (deep_enough known.shallow)) answered

    outside : (next.number ≡ 0 → ⊥) → MeetingOf D l code d (unmet next)
    outside some = passed (unmet next) (opening_refuses (neighbours D code d) next decided unmet [] (Met D l code d) some)

    -- where its number is 0, its place is the neighbour
    module _ (inside : next.number ≡ 0) where
      is_next : Neighbour D code d next.place
      is_next = opening_known (neighbours D code d) next decided inside

      meets : (at n : ℕ) → MetPart D l next.place at n → MeetingOf D l code d (record { answer = given at; at = at; n = n })
      meets at n part = passed _ (opening_passes (neighbours D code d) next decided unmet [] (Met D l code d) _ inside (_, is_next, part, refl))

-- `neighbour` reads the direction back from the bits
directed : (D code : ℕ) (x y z : ℤ) → SFits w32 x → SFits w32 y → SFits w32 z → (r : Answer)
    → NeighbourOf D code (axes (to_z w32 (of_z w32 x)) (to_z w32 (of_z w32 y)) (to_z w32 (of_z w32 z))) r → NeighbourOf D code (axes x y z) r
directed D code x y z fx fy fz r = signed_axes (λ d. NeighbourOf D code d r) x y z fx fy fz

pub part-requires : goal.part-requires
part-requires c =
    let a = c.args in
    let d = axes a.dx a.dy a.dz in
    let next = directed a.depth a.code a.dx a.dy a.dz c.ranges.dx c.ranges.dy c.ranges.dz (given c.in-Ok.next) c.in-Ok.ensures in
    let k = known a.depth a.list.now a.code d (given c.in_ok-check.field-0) c.in_ok-check.ensures refl (given c.in-Ok.next) next in
    let m = is_next a.depth a.list.now a.code d (given c.in_ok-check.field-0) c.in_ok-check.ensures refl (given c.in-Ok.next) next refl in
    (k.shallow, k.good.ordered, m.is_proper)

pub returns-in_err-check : goal.returns-in_err-check
returns-in_err-check c =
    let a = c.args in
    let e = c.in_err-check.field-0.0 in
    let p = err_from_is_err_and c.from_residual.result c.from_residual.ensures.1 in
    rw (p.1, p.2) (record { rises = tt; meeting = unlisted a.depth a.list.now a.code (axes a.dx a.dy a.dz) (refused e) c.in_err-check.ensures (refused_numbered e) })

pub returns-in-Err : goal.returns-in-Err
returns-in-Err c =
    let a = c.args in
    let e = c.in-Err.refusal in
    let next = directed a.depth a.code a.dx a.dy a.dz c.ranges.dx c.ranges.dy c.ranges.dz (refused e) c.in-Err.ensures in
    record { rises = search rules; meeting = outside a.depth a.list.now a.code (axes a.dx a.dy a.dz) (given c.in_ok-check.field-0) c.in_ok-check.ensures refl (refused e) next (refused_numbered e) }

pub returns-in-Ok : goal.returns-in-Ok
returns-in-Ok c =
    let a = c.args in
    let next = directed a.depth a.code a.dx a.dy a.dz c.ranges.dx c.ranges.dy c.ranges.dz (given c.in-Ok.next) c.in-Ok.ensures in
    record {
      rises = c.part.ensures.0;
      meeting = meets a.depth a.list.now a.code (axes a.dx a.dy a.dz) (given c.in_ok-check.field-0) c.in_ok-check.ensures refl (given c.in-Ok.next) next refl
          c.part.result.start (c.part.result.end - c.part.result.start) c.part.ensures.1;
    }
