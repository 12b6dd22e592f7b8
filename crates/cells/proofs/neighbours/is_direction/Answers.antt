-- The tests are those of `IsDirection`.
use Rattle.std.proofs.Common.{◌≡◌, ℕ, ◌<◌, Bool, true, false, ◌&&◌, not, ◌↔◌, ℤ, pos, refl, sym, ◌∙◌, arith, w32, SFits, to_z, of_z, int_eq}
use Rattle.std.proofs.lemmas.Bool.Decides.{Decides-int_eq}
use mir.ValLaws.{to_z-of_z}
use Rattle.cells.specs.Inner.{IsStep}
use Rattle.cells.specs.Neighbour.{IsDirection}
use Rattle.cells.specs.Place.{axes}
use Rattle.cells.proofs.Bools.{both_true, clash}
use Rattle.cells.proofs.Places.{each_axis}
use Rattle.cells.proofs.neighbours.is_direction.Goals as goal
use Rattle.cells.proofs.neighbours.is_direction.Goals.{then-is_step, else-is_step, then-is_step-2, else-is_step-2}

-- what `is_step` tells of its argument, which it reads back from the bits
told : {r : Bool} (z : ℤ) → SFits w32 z → (r ≡ true) ↔ IsStep (to_z w32 (of_z w32 z)) → (r ≡ true) ↔ IsStep z
told z f e = rw (to_z-of_z w32 z f) at e

-- one of three numbers by axis is no step: no direction
no_step : (d : ℕ → ℤ) (a : ℕ) → a < 3 → {r t : Bool} → (r ≡ true) ↔ IsStep (d a) → r ≡ false → t ≡ false → (t ≡ true) ↔ IsDirection d
no_step d a h e f g = ((λ t. absurd (clash t g)), λ is. absurd (clash (e.1 (is.steps a h)) f))

-- whether one of three numbers is not 0
abbrev some : ℤ → ℤ → ℤ → Bool
some x y z = not ((int_eq x (pos 0) && int_eq y (pos 0)) && int_eq z (pos 0))

-- the test reads them back from the bits too
read : (x y z : ℤ) → SFits w32 x → SFits w32 y → SFits w32 z → (t : Bool) → t ≡ some (to_z w32 (of_z w32 x)) (to_z w32 (of_z w32 y)) (to_z w32 (of_z w32 z)) → t ≡ some x y z
read x y z fx fy fz t e = rw (to_z-of_z w32 x fx, to_z-of_z w32 y fy, to_z-of_z w32 z fz) at e

-- three steps: a direction where not all are 0
three_steps : (x y z : ℤ) → IsStep x → IsStep y → IsStep z → (t : Bool) → t ≡ some x y z → (t ≡ true) ↔ IsDirection (axes x y z)
three_steps x y z p q r t e = (
  (λ told. record {
    steps = each_axis _ p q r;
    some = λ none.
        clash told
        (e ∙ rw ((Decides-int_eq x (pos 0)).1 (none 0 (omega arith)), (Decides-int_eq y (pos 0)).1 (none 1 (omega arith)), (Decides-int_eq z (pos 0)).1 (none 2 (omega arith))));
  }),
  λ is. go ((int_eq x (pos 0) && int_eq y (pos 0)) && int_eq z (pos 0)) refl e is,
)
  where
    go : (b : Bool) → ((int_eq x (pos 0) && int_eq y (pos 0)) && int_eq z (pos 0)) ≡ b → t ≡ not b → IsDirection (axes x y z) → t ≡ true
    go false _ e is = e
    go true f _ is =
        let (xy, of_z) = both_true _ _ f in
        let (of_x, of_y) = both_true _ _ xy in
        absurd (is.some (each_axis _ ((Decides-int_eq x (pos 0)).0 of_x) ((Decides-int_eq y (pos 0)).0 of_y) ((Decides-int_eq z (pos 0)).0 of_z)))

pub returns-then-is_step-3 : goal.returns-then-is_step-3
returns-then-is_step-3 c =
    elim c.if-is_step-2.branch [
      | then-is_step-2 w ↦ elim c.if-is_step.branch [
        | then-is_step v ↦ three_steps c.args.dx c.args.dy c.args.dz
            ((told c.args.dx c.ranges.dx c.is_step.ensures).0 v.if-is_step.true)
            ((told c.args.dy c.ranges.dy v.is_step-then-is_step.ensures).0 (sym v.value-is ∙ w.if-is_step-2.true))
            ((told c.args.dz c.ranges.dz w.is_step-then-is_step-2.ensures).0 (sym w.value-is ∙ c.if-is_step-3.true))
            c.ne.result
            (read c.args.dx c.args.dy c.args.dz c.ranges.dx c.ranges.dy c.ranges.dz c.ne.result c.ne.ensures)
        | else-is_step v ↦ absurd (clash w.if-is_step-2.true (v.value-is ∙ v.if-is_step.false))
      ]
      | else-is_step-2 w ↦ absurd (clash c.if-is_step-3.true (w.value-is ∙ w.if-is_step-2.false))
    ]

pub returns-else-is_step-3 : goal.returns-else-is_step-3
returns-else-is_step-3 c =
    elim c.if-is_step-2.branch [
      | then-is_step-2 w ↦ no_step (axes c.args.dx c.args.dy c.args.dz) 2 (omega arith) (told c.args.dz c.ranges.dz w.is_step-then-is_step-2.ensures) (sym w.value-is ∙ c.if-is_step-3.false) c.if-is_step-3.false
      | else-is_step-2 w ↦ elim c.if-is_step.branch [
        | then-is_step v ↦ no_step (axes c.args.dx c.args.dy c.args.dz) 1 (omega arith) (told c.args.dy c.ranges.dy v.is_step-then-is_step.ensures) (sym v.value-is ∙ w.if-is_step-2.false) c.if-is_step-3.false
        | else-is_step v ↦ no_step (axes c.args.dx c.args.dy c.args.dz) 0 (omega arith) (told c.args.dx c.ranges.dx c.is_step.ensures) v.if-is_step.false c.if-is_step-3.false
      ]
    ]
