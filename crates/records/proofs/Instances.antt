-- For each public call of this crate an answer that fits its definition at a named input, and one that does not: no definition is empty or says nothing.
-- Assumes nothing.
use mathlib.Core.Path.{◌≡◌, refl, ap}
use mathlib.Core.Logic.{inl, inr}
use mathlib.Core.Bool.{true, false, not}
use mathlib.Core.List.Memᴰ
use mathlib.Core.List.{List, [], ◌∷◌, Memᴰ}
use Prim.Native.Nat.{ℕ, zero, suc, ◌/◌, ◌^◌, ◌≤◌, ◌<◌}
use native.Mathlib.Omega.{arith}
use lib.Dec.{lit<, lit≤, eqb, eqb→eq}
use lib.IntN.{pos}
use lib.ListN.{length, get_or}
use Rattle.cells.specs.Answer.{answer, given}
use Rattle.cells.specs.Cell.{level, proper, index, side, start, span, holds, end}
use Rattle.cells.specs.Place.{axes, along, corner, number}
use Rattle.cells.specs.Neighbour.{Neighbour, NeighbourOf}
use Rattle.cells.specs.Payeur.{digit_of}
use Rattle.cells.specs.declared.Answer.{Answer}
use Rattle.cells.proofs.Bools.{clash}
use Rattle.cells.proofs.Decisions.{passes, passes_first}
use Rattle.cells.proofs.Places.{each_axis}
use Rattle.cells.proofs.Directions.{directed}
use Rattle.cells.proofs.Table.{at}
use Rattle.cells.proofs.NeighbourLaws.{one_neighbour_of}
use Rattle.cells.proofs.Instances.{west, westward, neighbour_refuses}
use Rattle.records.specs.Record.{black}
use Rattle.records.specs.Count.{count}
use Rattle.records.specs.Fault.{all_from, early, eight_at, fault, Faulty}
use Rattle.records.specs.Calls.{CheckOf, VolumeOf}
use Rattle.records.specs.Lookups.{LookupAnswer, Largest, unseen, seen, LookupOf}
use Rattle.records.specs.Gap.{Free}
use Rattle.records.specs.Met.{MetPart, unmet, MeetingOf, MetOf, MetAtOf}
use Rattle.records.proofs.Lists.{holds_true}
use Rattle.records.proofs.Leaves.{leaf_of}
use Rattle.records.proofs.First.{not_faulty}
use Rattle.records.proofs.Part.{part_made}
use Rattle.records.proofs.Sizes.{free_largest, leaf_largest}
use Rattle.records.proofs.CallLaws.{one_check, one_lookup, one_volume}
use Rattle.records.proofs.MetLaws.{one_met_at, one_met}

-- ---- depth 3, [r057]

abbrev one : List ℕ
one = 559 ∷ []

-- a leaf alone has no fault
alone_good : (D c : ℕ) → fault D (c ∷ []) 0 ≡ 0 → (k : ℕ) (a : Answer) → Faulty D (c ∷ []) k a → ⊥
alone_good D c e k a (zero, f, _) = f.here e
alone_good D c e k a (suc i, f, _) = absurd (omega (arith, f.below))

none_faulty : (a : Answer) → Faulty 3 one 1 a → ⊥
unfolding level proper early fault
none_faulty = alone_good 3 559 refl 1

pub check_holds : CheckOf 3 one (given 1)
check_holds = inr (passes (λ h. omega arith), inr (none_faulty, refl))

pub check_fails : CheckOf 3 one (given 2) → ⊥
check_fails h = let e : ◌≡◌ {A = ℕ} 2 1 = ap (λ (r : Answer). r.place) (one_check 3 one _ _ h check_holds) in omega arith

-- r057 stands at 3, 1, 3: black, and the leaf is a voxel
r057_largest : Largest 3 (black 3 one) 47 3
unfolding level index span start holds
r057_largest = leaf_largest 3 one (not_faulty 3 one 1 none_faulty) 47 559 (Memᴰ.head refl) refl

pub lookup_holds : LookupOf 3 one 3 1 3 (seen true 3)
unfolding number level index span start holds black
lookup_holds = inr (passes (λ h. omega arith), inr (none_faulty, inr (passes (clash refl), (3, r057_largest, refl))))

pub lookup_fails : (k : ℕ) → LookupOf 3 one 3 1 3 (seen false k) → ⊥
lookup_fails k h = let e : ◌≡◌ {A = ℕ} 0 1 = ap (λ (r : LookupAnswer). r.answer.place) (one_lookup 3 one 3 1 3 _ _ h lookup_holds) in omega arith

-- it is the one black voxel
only_black : (u : ℕ) → black 3 one u ≡ true → u ≡ 47
unfolding level index span start
only_black u dark = go (leaf_of 3 one u dark)
  where
    go : (c : ℕ) × Memᴰ c one × (holds 3 c u ≡ true) → u ≡ 47
    go (c, Memᴰ.head e, h) = let (lo, hi) = holds_true 3 559 u (rw e at h) in omega arith
    go (c, Memᴰ.tail m, h) = absurd (Memᴰ.not-nil m)

-- so at 0, 0, 0 the largest white cell is r00: r0 has r057
r00_free : Free 3 0 1 (λ u. black 3 one u ≡ not (black 3 one 0))
unfolding level index span start holds black
r00_free = record { levels = lit≤ tt; none = none; some = λ h. (47, refl, refl) }
  where
    none : (u : ℕ) → u / 8 ^ 1 ≡ 0 / 8 ^ 1 → black 3 one u ≡ true → ⊥
    none u e dark = let is = only_black u dark in omega arith

pub lookup_white : LookupOf 3 one 0 0 0 (seen false 2)
unfolding number level index span start holds black
lookup_white = inr (passes (λ h. omega arith), inr (none_faulty, inr (passes (clash refl), (2, free_largest 3 (black 3 one) 0 1 (lit< tt) r00_free, refl))))

pub lookup_white_fails : (k : ℕ) → (k ≡ 2 → ⊥) → LookupOf 3 one 0 0 0 (seen false k) → ⊥
lookup_white_fails k other h = other (ap (λ (r : LookupAnswer). r.level) (one_lookup 3 one 0 0 0 _ _ h lookup_white))

-- the empty list: the root
pub lookup_empty : LookupOf 1 [] 0 0 0 (seen false 0)
unfolding number black
lookup_empty =
    inr (passes (λ h. omega arith), inr (passes_first (λ i h. absurd (omega arith)), inr (passes (clash refl), (0, free_largest 1 (black 1 []) 0 1 (lit< tt) (record { levels = lit≤ tt; none = λ u e dark. clash dark refl; some = λ h. absurd (omega arith) }), refl))))

-- outside the root: no level
pub lookup_refuses : LookupOf 3 one 8 0 0 (unseen (answer 6 0 0))
lookup_refuses = inr (passes (λ h. omega arith), inr (none_faulty, inl (answer 6 0 0, (refl, refl), refl)))

pub volume_holds : VolumeOf 3 one (given 1)
unfolding level index span start holds black count
volume_holds = inr (passes (λ h. omega arith), inr (none_faulty, refl))

pub volume_fails : VolumeOf 3 one (given 47) → ⊥
volume_fails h = let e : ◌≡◌ {A = ℕ} 47 1 = ap (λ (r : Answer). r.place) (one_volume 3 one _ _ h volume_holds) in omega arith

-- ---- depth 1, codes 8 to 15: eight siblings, told at the last

abbrev eight : List ℕ
eight = 8 ∷ 9 ∷ 10 ∷ 11 ∷ 12 ∷ 13 ∷ 14 ∷ 15 ∷ []

pub check_refuses : CheckOf 1 eight (answer 4 7 1)
unfolding level proper index span start early all_from eight_at fault
check_refuses = inr (passes (λ h. omega arith), inl (_, (7, record { below = lit< tt; here = λ e. omega arith; before = before }, refl), refl))
  where
    before : (j : ℕ) → j < 7 → (fault 1 eight j ≡ 0 → ⊥) → ⊥
    before j h bad = bad (eqb→eq _ _ (at (λ i. eqb (fault 1 eight i) 0) 7 tt j h))

pub check_takes_none : CheckOf 1 eight (given 8) → ⊥
check_takes_none h = let e : ◌≡◌ {A = ℕ} 0 4 = ap (λ (r : Answer). r.number) (one_check 1 eight _ _ h check_refuses) in omega arith

-- ---- depth 2, [r0, r2], north of r03: r21 lies in the bigger leaf r2, at index 1, 4 bytes on

abbrev two : List ℕ
two = 8 ∷ 10 ∷ []

two_faultless : (a : Answer) → Faulty 2 two 1 a → ⊥
unfolding level proper index span start early fault
two_faultless a (zero, f, _) = f.here refl
two_faultless a (suc zero, f, _) = f.here refl
two_faultless a (suc (suc i), f, _) = absurd (omega (arith, f.below))

north_of : Neighbour 2 67 (axes (pos 0) (pos 1) (pos 0)) 81
unfolding level proper along index side corner
north_of = record { is_proper = refl; same_level = refl; each = each_axis _ refl refl refl }

r0_before : end 2 8 ≤ start 2 81
unfolding level index span start
r0_before = lit≤ tt

r2_meets : (start 2 10 < end 2 81) × (start 2 81 < end 2 10)
unfolding level index span start
r2_meets = (lit< tt, lit< tt)

bigger : MetPart 2 two 81 1 1
bigger =
    part_made 2 two 81 1 1 (record { order = lit≤ tt; within = lit≤ tt; before = before; after = λ i a b. absurd (omega arith); meets = inside }) (λ z. absurd (omega arith))
  where
    before : (i : ℕ) → i < 1 → end 2 (get_or two i 0) ≤ start 2 81
    before zero h = r0_before
    before (suc i) h = absurd (omega arith)

    inside : (i : ℕ) → 1 ≤ i → i < 2 → (start 2 (get_or two i 0) < end 2 81) × (start 2 81 < end 2 (get_or two i 0))
    inside zero a b = absurd (omega arith)
    inside (suc zero) a b = r2_meets
    inside (suc (suc i)) a b = absurd (omega arith)

meeting : MeetingOf 2 two 67 (axes (pos 0) (pos 1) (pos 0)) (record { answer = given 1; at = 1; n = 1 })
unfolding level proper digit_of
meeting =
    let d = directed (axes (pos 0) (pos 1) (pos 0)) (each_axis _ (omega arith) (omega arith) (omega arith)) (λ e. omega arith) in
    inr (passes (λ h. omega arith), inr (two_faultless, inr (passes (clash refl), inr (passes (λ none. none d), inr (passes (λ none. none 81 north_of), (81, north_of, bigger, refl))))))

pub met_holds : MetOf 2 two (5, 0) 67 (axes (pos 0) (pos 1) (pos 0)) (10 ∷ []) (5, 4)
met_holds = record { meeting = _; found = meeting; codes = refl; begins = refl }

pub met_fails : MetOf 2 two (5, 0) 67 (axes (pos 0) (pos 1) (pos 0)) [] (5, 0) → ⊥
met_fails h = let e : ◌≡◌ {A = ℕ} 0 1 = ap (λ (t : List ℕ × (ℕ × ℕ)). length t.0) (one_met 2 two 67 (axes (pos 0) (pos 1) (pos 0)) (5, 0) ([], (5, 0)) (10 ∷ [], (5, 4)) h met_holds) in omega arith

pub met_at_holds : MetAtOf 2 two 67 (axes (pos 0) (pos 1) (pos 0)) (given 1)
met_at_holds = (_, meeting, refl)

pub met_at_fails : MetAtOf 2 two 67 (axes (pos 0) (pos 1) (pos 0)) (given 0) → ⊥
met_at_fails h = let e : ◌≡◌ {A = ℕ} 0 1 = ap (λ (r : Answer). r.place) (one_met_at 2 two 67 (axes (pos 0) (pos 1) (pos 0)) _ _ h met_at_holds) in omega arith

-- ---- depth 1, [r1], west of r0 is outside the root: the empty part at the list's beginning

abbrev r1 : List ℕ
r1 = 9 ∷ []

outside : (m : ℕ) → Neighbour 1 8 west m → ⊥
unfolding level proper
outside m n =
    let given-m : NeighbourOf 1 8 west (given m) = inr (passes (λ h. omega arith), inr (passes (clash refl), inr (passes (λ none. none westward), inr (passes (λ none. none m n), (m, n, refl))))) in
    let e : ◌≡◌ {A = ℕ} 0 7 = ap (λ (r : Answer). r.number) (one_neighbour_of 1 8 west _ _ given-m neighbour_refuses) in
    omega arith

pub met_refuses : MetOf 1 r1 (5, 8) 8 west [] (5, 8)
unfolding level proper early fault
met_refuses = record { meeting = unmet (answer 7 0 0); found = refused; codes = refl; begins = refl }
  where
    refused : MeetingOf 1 r1 8 west (unmet (answer 7 0 0))
    refused = inr (passes (λ h. omega arith), inr (alone_good 1 9 refl 1, inr (passes (clash refl), inr (passes (λ none. none westward), inl (_, (outside, refl), refl)))))
