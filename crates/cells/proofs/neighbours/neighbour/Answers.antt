-- Three steps, one along each axis, displace the cell among those of its level (AxisSteps), and that is the neighbour (NeighbourLaws).
use Rattle.std.proofs.Common.{◌≡◌, ℕ, ◌+◌, ◌-◌, ◌*◌, ◌/◌, ◌^◌, ◌<◌, ◌≤◌, true, ◌↔◌, [], ◌∷◌, Option, None, Some, ℤ, sym, refl, ap, ◌∙◌, inl, inr, arith, w32, SFits, to_z, of_z}
use mir.ValLaws.{to_z-of_z}
use Rattle.cells.specs.Cell.{level, proper, index}
use Rattle.cells.specs.Place.{axes, EachAxis, Came}
use Rattle.cells.specs.Answer.{answer, given, Decided, alone, deepest}
use Rattle.cells.specs.Neighbour.{IsDirection, NoDirection, Neighbour, Outside, NeighbourOf}
use Rattle.cells.specs.declared.Answer.{Answer}
use Rattle.cells.specs.Inner.{IsStep, in_each, OnAxis, only, OneStep}
use Rattle.cells.proofs.Bools.{clash}
use Rattle.cells.proofs.Cells.{level_le}
use Rattle.cells.proofs.CornerLaws.{code_is, index_lt}
use Rattle.cells.proofs.Decisions.{passes, deep_enough}
use Rattle.cells.proofs.Displacements.{blocked, still_y, still_z, walked}
use Rattle.cells.proofs.Dilated.{each_one, each_times}
use Rattle.cells.proofs.NeighbourLaws.{found, beside}
use Rattle.cells.proofs.Places.{each_axis}
use Rattle.cells.proofs.Power.{pow8_pos}
use Rattle.cells.proofs.Words.{signed_axes}
use Rattle.cells.proofs.neighbours.neighbour.Goals as goal
use Rattle.cells.proofs.neighbours.neighbour.Goals.{After-is_direction, After-pow8}

-- ---- past the tests of the depth and the code

past : (D code : ℕ) (d : ℕ → ℤ) → D ≤ deepest → proper D code ≡ true → (r : Answer)
    → Decided alone (NoDirection d ∷ Outside D code d ∷ []) (λ r. (m : ℕ) × Neighbour D code d m × (r ≡ given m)) r → NeighbourOf D code d r
past D code d deep is r x = inr (passes (deep_enough deep), inr (passes (clash is), x))

-- ---- past the direction's

-- what `step` tells of the code m and the step z, which it reads back from the bits
abbrev Reads : ℕ → ℕ → ℤ → Option ℕ → Type 0
Reads m mask z r = (b n v : ℕ) → OnAxis b n v m mask → IsStep (to_z w32 (of_z w32 z)) → OneStep b n v (to_z w32 (of_z w32 z)) r

module _ (D code p : ℕ) (d : ℕ → ℤ) (deep : D ≤ deepest) (is : proper D code ≡ true) (fits : EachAxis (λ a. SFits w32 (d a))) (good : IsDirection d) (power : p ≡ 8 ^ level D code) where
  abbrev k : ℕ
  k = level D code

  abbrev i : ℕ
  i = index D code

  abbrev ones : ℕ
  ones = (p - 1) / 7

  -- a cell of the level stands where the steps lead
  stands : (j : ℕ) → Came k d i j → (r : Answer) → r ≡ given (8 ^ k + j) → NeighbourOf D code d r
  stands j came r e = let next = found D code d j came in past D code d deep is r (inr (passes (λ none. none good), inr (passes (λ none. none _ next), (_, next, e))))

  -- none does
  leaves : ((j : ℕ) → Came k d i j → ⊥) → (r : Answer) → r ≡ answer 7 0 0 → NeighbourOf D code d r
  leaves none r e = past D code d deep is r (inr (passes (λ n. n good), inl (_, ((λ m next. none (index D m) (beside D code d m next)), refl), e)))

  -- a step along axis a from the cell j of the level, with the mask of that axis
  took : (a : ℕ) → a < 3 → (j m mask : ℕ) (r : Option ℕ) → j < 8 ^ k → m ≡ 8 ^ k + j → mask ≡ 2 ^ a * ones → Reads m mask (d a) r → OneStep a k j (d a) r
  took a h j m mask r low is-m is-mask ensures =
      let of-ones : ones ≡ in_each 1 k = omega (arith, each_one k, power) in
      let on : OnAxis a k j m mask = record { axis = h; labels = low; is_code = is-m; is_mask = is-mask ∙ ap (λ (n : ℕ). 2 ^ a * n) of-ones ∙ sym (each_times (2 ^ a) k) } in
      (rw (to_z-of_z w32 (d a) (fits a h)) at ensures) a k j on (good.steps a h)

  step_x : (r : Option ℕ) → Reads code ones (d 0) r → OneStep 0 k i (d 0) r
  step_x r reads = took 0 (omega arith) i code ones r (index_lt D code is) (code_is D code is) (omega arith) reads

  leaves_x : Reads code ones (d 0) None → (r : Answer) → r ≡ answer 7 0 0 → NeighbourOf D code d r
  leaves_x reads = leaves (blocked k d 0 i i (omega arith) refl ((step_x None reads).leaves refl))

  module _ (x : ℕ) (reads_x : Reads code ones (d 0) (Some x)) where
    -- where it stands past the step along x
    past_x : (j : ℕ) × (x ≡ 8 ^ k + j) × Came k (only 0 (d 0)) i j
    past_x = (step_x (Some x) reads_x).stays x refl

    step_y : (r : Option ℕ) → Reads x (2 * ones) (d 1) r → OneStep 1 k past_x.0 (d 1) r
    step_y r reads = took 1 (omega arith) past_x.0 x (2 * ones) r past_x.2.root past_x.1 refl reads

    leaves_y : Reads x (2 * ones) (d 1) None → (r : Answer) → r ≡ answer 7 0 0 → NeighbourOf D code d r
    leaves_y reads = leaves (blocked k d 1 i past_x.0 (omega arith) (still_y k d i past_x.0 past_x.2) ((step_y None reads).leaves refl))

    module _ (y : ℕ) (reads_y : Reads x (2 * ones) (d 1) (Some y)) where
      -- and past that along y
      past_y : (j : ℕ) × (y ≡ 8 ^ k + j) × Came k (only 1 (d 1)) past_x.0 j
      past_y = (step_y (Some y) reads_y).stays y refl

      step_z : (r : Option ℕ) → Reads y (4 * ones) (d 2) r → OneStep 2 k past_y.0 (d 2) r
      step_z r reads = took 2 (omega arith) past_y.0 y (4 * ones) r past_y.2.root past_y.1 refl reads

      leaves_z : Reads y (4 * ones) (d 2) None → (r : Answer) → r ≡ answer 7 0 0 → NeighbourOf D code d r
      leaves_z reads = leaves (blocked k d 2 i past_y.0 (omega arith) (still_z k d i past_x.0 past_x.2 past_y.0 past_y.2) ((step_z None reads).leaves refl))

      stands_z : (z : ℕ) → Reads y (4 * ones) (d 2) (Some z) → (r : Answer) → r ≡ given z → NeighbourOf D code d r
      stands_z z reads r e =
          let (j, is-z, third) = (step_z (Some z) reads).stays z refl in
          stands j (walked k d i past_x.0 past_x.2 past_y.0 past_y.2 j third) r (e ∙ ap given is-z)

-- ---- the code's way

module _ (c : After-is_direction) where
  abbrev steps : ℕ → ℤ
  steps = axes c.args.dx c.args.dy c.args.dz

  proper_code : proper c.args.depth c.args.code ≡ true
  proper_code = sym c.is_proper.ensures ∙ c.if-not-is_proper.false

  directed : (c.is_direction.result ≡ true) ↔ IsDirection steps
  directed = signed_axes (λ x. (c.is_direction.result ≡ true) ↔ IsDirection x) _ _ _ c.ranges.dx c.ranges.dy c.ranges.dz c.is_direction.ensures

pub returns-then-not-is_direction : goal.returns-then-not-is_direction
returns-then-not-is_direction c =
    let at = c.before in
    past c.args.depth c.args.code (steps at) c.if-depth-gt-DEEPEST.false (proper_code at) _ (inl (_, ((λ is. clash ((directed at).1 is) c.if-not-is_direction.true), refl), refl))

pub pow8-requires : goal.pow8-requires
pow8-requires c = omega (arith, level_le c.args.depth c.args.code)

pub overflow_sub-ones : goal.overflow_sub-ones
overflow_sub-ones c = omega (arith, c.pow8.ensures, pow8_pos c.level_of.result)

-- ---- past the masks

module _ (c : After-pow8) where
  abbrev at : After-is_direction
  at = c.before.before.before

  fits : EachAxis (λ a. SFits w32 (steps at a))
  fits = each_axis _ c.ranges.dx c.ranges.dy c.ranges.dz

  good : IsDirection (steps at)
  good = (directed at).0 c.if-not-is_direction.false

  power : c.pow8.result ≡ 8 ^ level c.args.depth c.args.code
  power = c.pow8.ensures ∙ ap (λ (n : ℕ). 8 ^ n) c.level_of.ensures

pub returns-in_default : goal.returns-in_default
returns-in_default c =
    let s = c.before.before in
    leaves_x c.args.depth c.args.code c.pow8.result (steps (at s)) c.if-depth-gt-DEEPEST.false (proper_code (at s)) (fits s) (good s) (power s) c.in_default.ensures _ refl

pub returns-in_default-step : goal.returns-in_default-step
returns-in_default-step c =
    let s = c.before.before.before.before in
    leaves_y c.args.depth c.args.code c.pow8.result (steps (at s)) c.if-depth-gt-DEEPEST.false (proper_code (at s)) (fits s) (good s) (power s)
    c.in-Some.x c.in-Some.ensures c.in_default-step.ensures _ refl

pub returns-in_default-step-2 : goal.returns-in_default-step-2
returns-in_default-step-2 c =
    let s = c.before.before.before.before.before.before in
    leaves_z c.args.depth c.args.code c.pow8.result (steps (at s)) c.if-depth-gt-DEEPEST.false (proper_code (at s)) (fits s) (good s) (power s)
    c.in-Some.x c.in-Some.ensures c.in-Some-step.y c.in-Some-step.ensures c.in_default-step-2.ensures _ refl

pub returns : goal.returns
returns c =
    let s = c.before.before.before.before.before.before in
    stands_z c.args.depth c.args.code c.pow8.result (steps (at s)) c.if-depth-gt-DEEPEST.false (proper_code (at s)) (fits s) (good s) (power s)
    c.in-Some.x c.in-Some.ensures c.in-Some-step.y c.in-Some-step.ensures c.in-Some-step-2.z c.in-Some-step-2.ensures _ refl
