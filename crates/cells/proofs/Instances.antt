-- For each public call of this crate an answer that fits its definition at a named input, and one that does not: no definition is empty or says nothing.
-- Assumes nothing.
use Rattle.std.proofs.Common.{◌≡◌, ℕ, ℤ, pos, negsuc, refl, ap, inr, arith}
use Rattle.cells.specs.Cell.{level, proper, index, side}
use Rattle.cells.specs.Place.{axes, along, corner}
use Rattle.cells.specs.Answer.{answer, given}
use Rattle.cells.specs.Corners.{PlaceAnswer, is_corner, PlaceOf, CodeOf}
use Rattle.cells.specs.Neighbour.{IsDirection, Neighbour, NeighbourOf}
use Rattle.cells.specs.Payeur.{digit_of, under, rule, carried}
use Rattle.cells.specs.declared.Answer.{Answer}
use Rattle.cells.proofs.Bools.{clash}
use Rattle.cells.proofs.Decisions.{passes}
use Rattle.cells.proofs.CornerLaws.{one_place, one_code}
use Rattle.cells.proofs.ByTables.{told_by_tables}
use Rattle.cells.proofs.Directions.{directed}
use Rattle.cells.proofs.Places.{each_axis}
use Rattle.cells.proofs.NeighbourLaws.{one_neighbour_of}

-- r057 at depth 3 stands at 3, 1, 3
pub place_holds : PlaceOf 3 559 (record { answer = given 0; x = 3; y = 1; z = 3; level = 3 })
unfolding level proper along index side corner
place_holds = inr (passes (λ h. omega arith), inr (passes (clash refl), refl))

pub place_fails : PlaceOf 3 559 (record { answer = given 0; x = 1; y = 3; z = 3; level = 3 }) → ⊥
place_fails h = let e : ◌≡◌ {A = ℕ} 1 3 = ap (λ (r : PlaceAnswer). r.x) (one_place 3 559 _ _ h place_holds) in omega arith

pub code_holds : CodeOf 3 (axes 3 1 3) 3 (given 559)
unfolding level proper along index side corner is_corner
code_holds = inr (passes (λ h. omega arith), inr (passes (clash refl), (559, record { is_proper = refl; is_level = refl; each = each_axis _ refl refl refl }, refl)))

pub code_fails : CodeOf 3 (axes 3 1 3) 3 (answer 6 0 0) → ⊥
code_fails h = let e : ◌≡◌ {A = ℕ} 6 0 = ap (λ (r : Answer). r.number) (one_code 3 (axes 3 1 3) 3 _ _ h code_holds) in omega arith

-- r742 with steps (-1, +1, +1), FNW, gives r675: 001's own example
pub neighbour_holds : NeighbourOf 3 994 (axes (negsuc 0) (pos 1) (pos 1)) (given 957)
unfolding level proper along index side corner digit_of
neighbour_holds =
    let n : Neighbour 3 994 (axes (negsuc 0) (pos 1) (pos 1)) 957 = record { is_proper = refl; same_level = refl; each = each_axis _ refl refl refl } in
    let d = directed (axes (negsuc 0) (pos 1) (pos 1)) (each_axis _ (omega arith) (omega arith) (omega arith)) (λ e. omega arith) in
    inr (passes (λ h. omega arith), inr (passes (clash refl), inr (passes (λ none. none d), inr (passes (λ none. none 957 n), (957, n, refl)))))

-- r0 with x - 1 is outside the root
abbrev pub west : ℕ → ℤ
west = axes (negsuc 0) (pos 0) (pos 0)

pub westward : IsDirection west
unfolding digit_of
westward = directed west (each_axis _ (omega arith) (omega arith) (omega arith)) (λ e. omega arith)

pub neighbour_refuses : NeighbourOf 1 8 west (answer 7 0 0)
unfolding level proper index digit_of under rule carried
neighbour_refuses = told_by_tables 1 8 west westward (omega arith) refl

pub neighbour_fails : NeighbourOf 1 8 west (given 9) → ⊥
neighbour_fails h = let e : ◌≡◌ {A = ℕ} 0 7 = ap (λ (r : Answer). r.number) (one_neighbour_of 1 8 west _ _ h neighbour_refuses) in omega arith
