-- The impostors of document 01, "How tight the statements are": what each would leave at a named input does not fit the call's definition.
-- Each follows from one right answer and the law that no second answer fits. Assumes nothing.
use mathlib.Core.Path.{◌≡◌, sym, ap, ap₂, ◌∙◌}
use mathlib.Core.List.{List, [], ◌∷◌}
use Prim.Native.Nat.{ℕ, ◌+◌, ◌^◌, ◌≤◌}
use native.Mathlib.Omega.{arith}
use lib.IntN.{pos, negsuc}
use lib.ListN.{length, get_or}
use Rattle.cells.specs.Answer.{answer, given}
use Rattle.cells.specs.Corners.{PlaceAnswer, PlaceOf, CodeOf}
use Rattle.cells.specs.Neighbour.{NeighbourOf}
use Rattle.cells.specs.Place.{axes}
use Rattle.cells.specs.declared.Answer.{Answer}
use Rattle.cells.proofs.CornerLaws.{one_place, one_code}
use Rattle.cells.proofs.NeighbourLaws.{one_neighbour_of}
use Rattle.cells.proofs.Instances.{place_holds, code_holds, neighbour_holds}
use Rattle.records.specs.Calls.{CheckOf, VolumeOf}
use Rattle.records.specs.Lookups.{LookupAnswer, LookupOf}
use Rattle.records.specs.Writing.{stands}
use Rattle.records.specs.Met.{MetOf, MetAtOf}
use Rattle.records.proofs.CallLaws.{one_check, one_lookup, one_volume}
use Rattle.records.proofs.MetLaws.{one_met_at}
use Rattle.records.proofs.Instances.{lookup_holds, met_at_holds, met_fails}
use Rattle.records.proofs.OneList.{one_list, list_of_itself}
use Rattle.records.proofs.Volumes.{blacks}
use Rattle.sets.specs.declared.Op.{Op}
use Rattle.sets.specs.declared.Op.TheVariants.{Join, Intersect, Subtract}
use Rattle.sets.specs.Sets.{SetOf}
use Rattle.sets.proofs.SetLaws.{one_set}
use Rattle.moves.specs.Moves.{MoveOf}
use Rattle.moves.proofs.MoveLaws.{one_move}
use Rattle.cab.specs.Packed.{Packed}
use Rattle.cab.proofs.Unique.{one_cab_neighbour, cab_neighbour_holds}
use Rattle.demands.specs.Laws.{move, Succeeds, wrote, TwoMoves, Distributes, KeepsVolume, VolumesAddUp}
use Rattle.demands.specs.Examples.{r057, r0, east, north}
use Rattle.demands.specs.Impostors.{first_list, second_list, along_x}
use Rattle.demands.proofs.Outcomes.{Left, number_of, place_of, front_of, combine_succeeds}
use Rattle.demands.proofs.Moves.{two_moves}
use Rattle.demands.proofs.Distributes.{distributes}
use Rattle.demands.proofs.Volumes.{keeps_volume, add_up}
use Rattle.demands.proofs.Named.{a, b, made, twice, room, seven, right_made, right_twice, right_crowded, right_far, right_near, right_still, right_seven, right_check_lem, right_check_none, right_volume, right_volume_none}

-- the list of r0 and r2
abbrev r0_r2 : List ℕ
r0_r2 = 8 ∷ 10 ∷ []

-- ---- one that rejects everything

pub rejects_set : (op : Op) (r : Answer) (o : List ℕ) → (Succeeds r → ⊥) → SetOf op 1 a b room r o → ⊥
rejects_set op r o refused h = refused (ap number_of (one_set op 1 a b room (r, o) _ h (right_made op)))

pub rejects_move : (r : Answer) (o : List ℕ) → (Succeeds r → ⊥) → MoveOf 3 r057 (north (pos 5)) room r o → ⊥
rejects_move r o refused h = refused (ap number_of (one_move 3 r057 (north (pos 5)) room (r, o) _ h right_far))

pub rejects_volume : (r : Answer) → (Succeeds r → ⊥) → VolumeOf 3 r057 r → ⊥
rejects_volume r refused h = refused (ap (λ (s : Answer). s.number) (one_volume 3 r057 r _ h right_volume))

pub rejects_check : (r : Answer) → (Succeeds r → ⊥) → CheckOf 3 r057 r → ⊥
rejects_check r refused h = refused (ap (λ (s : Answer). s.number) (one_check 3 r057 r _ h right_check_lem))

pub rejects_place : (r : PlaceAnswer) → (Succeeds r.answer → ⊥) → PlaceOf 3 559 r → ⊥
rejects_place r refused h = refused (ap (λ (s : PlaceAnswer). s.answer.number) (one_place 3 559 r _ h place_holds))

pub rejects_code : (r : Answer) → (Succeeds r → ⊥) → CodeOf 3 (axes 3 1 3) 3 r → ⊥
rejects_code r refused h = refused (ap (λ (s : Answer). s.number) (one_code 3 (axes 3 1 3) 3 r _ h code_holds))

pub rejects_neighbour : (r : Answer) → (Succeeds r → ⊥) → NeighbourOf 3 994 (axes (negsuc 0) (pos 1) (pos 1)) r → ⊥
rejects_neighbour r refused h = refused (ap (λ (s : Answer). s.number) (one_neighbour_of 3 994 (axes (negsuc 0) (pos 1) (pos 1)) r _ h neighbour_holds))

-- for C a refusal is a number of 2^32 or more
pub rejects_cab_neighbour : (w : ℕ) → 2 ^ 32 ≤ w → Packed (NeighbourOf 3 994 (axes (negsuc 0) (pos 1) (pos 1))) w → ⊥
rejects_cab_neighbour w refused h = let e : w ≡ 957 = one_cab_neighbour 3 994 (axes (negsuc 0) (pos 1) (pos 1)) w 957 h cab_neighbour_holds in omega arith

pub rejects_lookup : (r : LookupAnswer) → (Succeeds r.answer → ⊥) → LookupOf 3 r057 3 1 3 r → ⊥
rejects_lookup r refused h = refused (ap (λ (s : LookupAnswer). s.answer.number) (one_lookup 3 r057 3 1 3 r _ h lookup_holds))

pub rejects_met_at : (r : Answer) → (Succeeds r → ⊥) → MetAtOf 2 r0_r2 67 (axes (pos 0) (pos 1) (pos 0)) r → ⊥
rejects_met_at r refused h = refused (ap (λ (s : Answer). s.number) (one_met_at 2 r0_r2 67 (axes (pos 0) (pos 1) (pos 0)) r _ h met_at_holds))

-- the empty part at the list's beginning, as where `met` is refused
pub rejects_met : MetOf 2 r0_r2 (5, 0) 67 (axes (pos 0) (pos 1) (pos 0)) [] (5, 0) → ⊥
rejects_met = met_fails

-- ---- one that hands out a fixed list, or a fixed answer: no one answer fits two inputs

pub fixed_set : (op : Op) (r : Answer) (o : List ℕ) → SetOf op 1 a b room r o → SetOf op 1 b b room r o → ⊥
fixed_set op r o h k = differ op (ap place_of (sym (one_set op 1 a b room (r, o) _ h (right_made op)) ∙ one_set op 1 b b room (r, o) _ k (right_twice op)))
  where
    differ : (op : Op) → length (made op) ≡ length (twice op) → ⊥
    differ Join e = omega arith
    differ Intersect e = omega arith
    differ Subtract e = omega arith

pub fixed_move : (r : Answer) (o : List ℕ) → MoveOf 3 r057 (north (pos 5)) room r o → MoveOf 3 r057 (north (pos 1)) room r o → ⊥
fixed_move r o h k =
    let e : ◌≡◌ {A = ℕ} 701 573 = ap front_of (sym (one_move 3 r057 (north (pos 5)) room (r, o) _ h right_far) ∙ one_move 3 r057 (north (pos 1)) room (r, o) _ k right_near) in
    omega arith

pub fixed_volume : (r : Answer) → VolumeOf 3 r057 r → VolumeOf 3 [] r → ⊥
fixed_volume r h k = let e : ◌≡◌ {A = ℕ} 1 0 = ap (λ (s : Answer). s.place) (sym (one_volume 3 r057 r _ h right_volume) ∙ one_volume 3 [] r _ k right_volume_none) in omega arith

pub fixed_check : (r : Answer) → CheckOf 3 r057 r → CheckOf 3 [] r → ⊥
fixed_check r h k = let e : ◌≡◌ {A = ℕ} 1 0 = ap (λ (s : Answer). s.place) (sym (one_check 3 r057 r _ h right_check_lem) ∙ one_check 3 [] r _ k right_check_none) in omega arith

-- ---- one that writes nothing, whatever it reports

pub silent_set : (op : Op) (r : Answer) → SetOf op 1 a b room r room → ⊥
silent_set op r h = differ op (ap front_of (one_set op 1 a b room (r, room) _ h (right_made op)))
  where
    differ : (op : Op) → 5 ≡ get_or (stands (made op) room) 0 0 → ⊥
    differ Join e = omega arith
    differ Intersect e = omega arith
    differ Subtract e = omega arith

pub silent_move : (r : Answer) → MoveOf 3 r057 (north (pos 5)) room r room → ⊥
silent_move r h = let e : ◌≡◌ {A = ℕ} 5 701 = ap front_of (one_move 3 r057 (north (pos 5)) room (r, room) _ h right_far) in omega arith

-- ---- an invented volume, leaf count or needed room

pub invented_volume : (n : ℕ) → (n ≡ 1 → ⊥) → VolumeOf 3 r057 (given n) → ⊥
invented_volume n other h = other (ap (λ (s : Answer). s.place) (one_volume 3 r057 _ _ h right_volume))

pub invented_count : (n : ℕ) → (n ≡ 1 → ⊥) → CheckOf 3 r057 (given n) → ⊥
invented_count n other h = other (ap (λ (s : Answer). s.place) (one_check 3 r057 _ _ h right_check_lem))

pub invented_count_set : (op : Op) (n : ℕ) (o : List ℕ) → (n ≡ length (made op) → ⊥) → SetOf op 1 a b room (given n) o → ⊥
invented_count_set op n o other h = other (ap place_of (one_set op 1 a b room (given n, o) _ h (right_made op)))

pub invented_count_move : (n : ℕ) (o : List ℕ) → (n ≡ 1 → ⊥) → MoveOf 3 r057 (north (pos 5)) room (given n) o → ⊥
invented_count_move n o other h = other (ap place_of (one_move 3 r057 (north (pos 5)) room (given n, o) _ h right_far))

pub invented_room_set : (op : Op) (n : ℕ) (o : List ℕ) → (n ≡ length (made op) → ⊥) → SetOf op 1 a b [] (answer 8 n 0) o → ⊥
invented_room_set op n o other h = other (ap place_of (one_set op 1 a b [] (answer 8 n 0, o) _ h (right_crowded op)))

pub invented_room_move : (n : ℕ) (o : List ℕ) → (n ≡ 8 → ⊥) → MoveOf 2 r0 (east (pos 1)) seven (answer 8 n 0) o → ⊥
invented_room_move n o other h = other (ap place_of (one_move 2 r0 (east (pos 1)) seven (answer 8 n 0, o) _ h right_seven))

-- ---- one that moves along x and skips y and z: it keeps the laws of demand 3, and what it leaves does not fit the move

pub along_x_lem : TwoMoves along_x × ((op : Op) → Distributes along_x (SetOf op)) × KeepsVolume along_x
    × ((r : Answer) (o : List ℕ) → along_x 3 r057 (axes (pos 0) (pos 5) (pos 0)) room r o → move 3 r057 (axes (pos 0) (pos 5) (pos 0)) room r o → ⊥)
along_x_lem = (
  λ D l d e. two_moves D l (axes (d 0) (pos 0) (pos 0)) (axes (e 0) (pos 0) (pos 0)),
  λ op D l m d. distributes op D l m (axes (d 0) (pos 0) (pos 0)),
  λ D l d. keeps_volume D l (axes (d 0) (pos 0) (pos 0)),
  λ r o h k.
      let e : ◌≡◌ {A = ℕ} 559 701 = ap front_of (sym (one_move 3 r057 (north (pos 0)) room (r, o) _ h right_still) ∙ one_move 3 r057 (north (pos 5)) room (r, o) _ k right_far) in
      omega arith,
)

-- ---- one whose join is its first list and whose intersection is its second: volumes add up, and what it leaves does not fit join and intersection

pub first_and_second : VolumesAddUp first_list second_list
    × ((r : Answer) (o : List ℕ) → first_list 1 a b room r o → SetOf Join 1 a b room r o → ⊥)
    × ((r : Answer) (o : List ℕ) → second_list 1 a b room r o → SetOf Intersect 1 a b room r o → ⊥)
first_and_second = (
  add_up (λ A B. A) (λ A B. B)
      (λ D l m j i gl gm x y.
      ap₂ (λ (s t : List ℕ). blacks D s + blacks D t) (one_list D _ j l x (list_of_itself D l gl)) (one_list D _ i m y (list_of_itself D m gm))),
  λ r o h k.
      let e = one_set Join 1 a b room (r, o) _ k (right_made Join) in
      let x = combine_succeeds (λ A B. A) 1 a b room o r h (ap number_of e) in
      let same : wrote r o ≡ a = one_list 1 _ _ a x.gives.list (list_of_itself 1 a x.good_first) in
      let f : ◌≡◌ {A = ℕ} 3 2 = ap length (sym (ap (λ (t : Left). wrote t.0 t.1) e) ∙ same) in
      omega arith,
  λ r o h k.
      let e = one_set Intersect 1 a b room (r, o) _ k (right_made Intersect) in
      let x = combine_succeeds (λ A B. B) 1 a b room o r h (ap number_of e) in
      let same : wrote r o ≡ b = one_list 1 _ _ b x.gives.list (list_of_itself 1 b x.good_second) in
      let f : ◌≡◌ {A = ℕ} 1 2 = ap length (sym (ap (λ (t : Left). wrote t.0 t.1) e) ∙ same) in
      omega arith,
)
