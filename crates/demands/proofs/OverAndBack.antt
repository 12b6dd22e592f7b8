-- Ticket 3: a record moved over by metres and moved back by the negated metres is the record itself. The metres become opposite whole voxels, whose sum is no move
-- at all, so that demand 3's law of two moves says it. Assumes nothing.
use mathlib.Core.Path.{◌≡◌, refl, sym, ap, ◌∙◌, subst}
use mathlib.Core.Logic.{◌⊎◌, inl, inr}
use mathlib.Core.Bool.{true}
use mathlib.Core.List.{List, [], ◌∷◌}
use Prim.Native.Nat.{ℕ, ◌^◌, ◌<◌, ◌≤◌}
use native.Mathlib.Nat.{le_refl}
use native.Mathlib.Omega.{arith}
use lib.IntN.{ℤ, pos, ◌+ℤ◌, +ℤ_invr}
use lib.ListN.{length, get_or}
use lib.Pow.{pow_mono}
use Rattle.cells.specs.Answer.{given, deepest}
use Rattle.cells.specs.Cell.{start}
use Rattle.cells.specs.Place.{axes, EachAxis, along, Displaced, Came}
use Rattle.cells.specs.declared.Answer.{Answer}
use Rattle.cells.proofs.Cells.{span_pos}
use Rattle.cells.proofs.Decisions.{passes}
use Rattle.cells.proofs.Displacements.{displaced_parts, one_came}
use Rattle.cells.proofs.Places.{each_axis, along_lt}
use Rattle.records.specs.Record.{black, Good, ListOf}
use Rattle.records.specs.Carried.{FromBlack}
use Rattle.records.specs.Writing.{stands}
use Rattle.records.proofs.Fault.{member_at}
use Rattle.records.proofs.First.{good_passes}
use Rattle.records.proofs.Fronts.{stands_front}
use Rattle.records.proofs.Leaves.{member_black}
use Rattle.records.proofs.Lists.{black_in_root, holds_between}
use Rattle.records.proofs.OneList.{list_of_itself, list_same}
use Rattle.metres.specs.Metres.{finest, Whole, coordinates, Becomes}
use Rattle.metres.specs.Opposite.{lowest, opposite}
use Rattle.metres.specs.declared.Metres.{Metres}
use Rattle.metres.specs.declared.Move.TheVariants as MoveV
use Rattle.metres.proofs.Opposites.{opposite_becomes, becomes_back}
use Rattle.moves.proofs.MoveLaws.{move_of, room_told, move_success}
use Rattle.demands.specs.Laws.{move, Succeeds, Unaccepted, wrote}
use Rattle.demands.specs.OverAndBack.{move_metres, Unmeasured, Returns, OverAndBack}
use Rattle.demands.proofs.Moves.{two_moves}
use Rattle.demands.proofs.Outcomes.{number_of, not_deep, Moved, move_carries}

-- ---- no move at all

abbrev no_move : ℕ → ℤ
no_move = axes (pos 0) (pos 0) (pos 0)

module _ (D : ℕ) (l : List ℕ) where
  came_itself : (u : ℕ) → u < 8 ^ D → Came D no_move u u
  came_itself u h = record { root = h; each = each_axis (λ a. Displaced (no_move a) (along (2 ^ a) D u) (along (2 ^ a) D u)) (here 0) (here 1) (here 2) }
    where
      here : (a : ℕ) → Displaced (pos 0) (along (2 ^ a) D u) (along (2 ^ a) D u)
      here a = (displaced_parts (pos 0) _ _).1 refl

  -- a good list that goes nowhere is written as it is
  still : D ≤ deepest → Good D l → move D l no_move l (given (length l)) (stands l l)
  still h g =
      move_of D l (MoveV.Voxels (pos 0) (pos 0) (pos 0)) l _ _ h g
      (pos 0, pos 0, pos 0, each_axis _ refl refl refl, room_told D l no_move l _ (λ u b. (u, came_itself u (inside u b))) (l, itself, inr (passes (λ short. omega arith), refl)))
    where
      inside : (u : ℕ) → black D l u ≡ true → u < 8 ^ D
      inside = black_in_root D 0 l g.ordered

      itself : ListOf D (FromBlack (Came D no_move) (black D l)) l
      itself = list_same D (λ v. black D l v ≡ true) (FromBlack (Came D no_move) (black D l)) l
          (λ v h. (λ b. (v, b, came_itself v h), λ (u, b, c). subst (λ (w : ℕ). black D l w ≡ true) (one_came D no_move u u v (came_itself u (inside u b)) c) b)) (list_of_itself D l g)

-- ---- a move by metres: they are no whole move, or it is the move by the whole voxels that they become

abbrev Refused : Metres → Type 0
Refused m = (finest < m.s) ⊎ ((a : ℕ) × (a < 3) × ((n : ℤ) → Whole m.s (coordinates m a) n → ⊥))

record AsVoxels (D : ℕ) (l : List ℕ) (m : Metres) (o o' : List ℕ) (r : Answer) : Type 0 where
  edge : finest < m.s → ⊥
  i : ℤ
  j : ℤ
  k : ℤ
  becomes : Becomes (MoveV.Metres m) (axes i j k)
  moves : move D l (axes i j k) o r o'

as_voxels : (D : ℕ) (l : List ℕ) (m : Metres) (o o' : List ℕ) (r : Answer) → D ≤ deepest → Good D l → move_metres D l m o r o' → (Unmeasured r × Refused m) ⊎ AsVoxels D l m o o' r
as_voxels D l m o o' r h g (inl (a, t, _)) = absurd (not_deep D h a t)
as_voxels D l m o o' r h g (inr (_, inl (a, t, _))) = absurd (good_passes D l 1 g a t)
as_voxels D l m o o' r h g (inr (_, inr (_, inl (a, (fine, e), f)))) = inl (ap number_of f ∙ ap (λ (t : Answer). t.number) e, inl fine)
as_voxels D l m o o' r h g (inr (_, inr (_, inr (_, inl (a, (b, F, e), f))))) = inl (ap number_of f ∙ ap (λ (t : Answer). t.number) e, inr (b, F.below, F.here))
as_voxels D l m o o' r h g (inr (_, inr (_, inr (coarse, inr (_, (i, j, k, b, t)))))) =
    inr (record { edge = λ fine. coarse _ (fine, refl); i = i; j = j; k = k; becomes = b; moves = move_of D l (MoveV.Voxels i j k) o r o' h g (i, j, k, each_axis _ refl refl refl, t) })

-- ---- a record with a black voxel goes no -2^31 voxels, which is farther than any root is wide

some_black : (D : ℕ) (l : List ℕ) → 0 < length l → (u : ℕ) × (black D l u ≡ true)
some_black D l h =
    let c = get_or l 0 0 in
    let s = span_pos D c in
    (start D c, member_black D c l (start D c) (member_at l 0 h) (holds_between D c (start D c) (le_refl _) (omega arith)))

within_root : (D : ℕ) (d : ℕ → ℤ) (u v : ℕ) → D ≤ deepest → Came D d u v → EachAxis (λ a. d a ≡ lowest → ⊥)
within_root D d u v h c a k e =
    let x = (displaced_parts lowest (along (2 ^ a) D u) (along (2 ^ a) D v)).0 (rw e at (c.each a k)) in
    let side : 2 ^ D ≤ 2 ^ deepest = pow_mono h in
    omega (arith, along_lt (2 ^ a) D u)

if_none : (l : List ℕ) → (0 < length l → ⊥) → l ≡ []
if_none [] f = refl
if_none (c ∷ l) f = absurd (f (omega arith))

-- ---- the way back

module _ (D : ℕ) (l : List ℕ) (m : Metres) (o o' : List ℕ) (r : Answer) (z : Succeeds r) (h : D ≤ deepest) (g : Good D l) (over : AsVoxels D l m o o' r) where
  abbrev by_over : ℕ → ℤ
  by_over = axes over.i over.j over.k

  moved : Moved D l (Came D by_over) o o' r
  moved = move_carries.moved D l by_over o o' r over.moves z

  refused_back : Refused (opposite m) → 0 < length l → ⊥
  refused_back (inl fine) n = over.edge fine
  refused_back (inr (a, k, none)) n =
      let (u, b) = some_black D l n in
      let (v, c) = moved.accepted u b in
      let (e, q) = (becomes_back m by_over over.becomes).1 (within_root D by_over u v h c) in
      none (e a) (q a k)

  module _ (p p' : List ℕ) (s : Answer) where
    taken_back : AsVoxels D (wrote r o') (opposite m) p p' s → Returns l s p'
    taken_back back =
        let by-back = axes back.i back.j back.k in
        let opposed = opposite_becomes m by_over by-back over.becomes back.becomes in
        let sum : move D l (λ a. by_over a +ℤ by-back a) l (given (length l)) (stands l l)
        = rw (opposed 0 (omega arith), opposed 1 (omega arith), opposed 2 (omega arith), +ℤ_invr over.i, +ℤ_invr over.j, +ℤ_invr over.k) (still D l h g) in
        let (same, alike) = two_moves D l by_over by-back o o' r over.moves z p p' s back.moves l (stands l l) (given (length l)) sum in
        let accepted : Unaccepted s → ⊥ = λ n. let f : ◌≡◌ {A = ℕ} 0 7 = same.0 n in omega arith in
        (accepted, λ roomy. let a = alike accepted roomy (λ f. omega arith) in (a.same_answer, a.same_list ∙ (stands_front l l (length l) (stands l l) refl refl).is_front))

    went_back : (Unmeasured s × Refused (opposite m)) ⊎ AsVoxels D (wrote r o') (opposite m) p p' s → ((l ≡ []) × Unmeasured s) ⊎ Returns l s p'
    went_back (inl (five, refused)) = inl (if_none l (refused_back refused), five)
    went_back (inr back) = inr (taken_back back)

pub over_and_back : OverAndBack move_metres
over_and_back D l m o o' r first z p p' s second = go (as_voxels D l m o o' r h g first)
  where
    h : D ≤ deepest
    h = (move_success D l (MoveV.Metres m) o r o' first z).shallow

    g : Good D l
    g = (move_success D l (MoveV.Metres m) o r o' first z).good

    go : (Unmeasured r × Refused m) ⊎ AsVoxels D l m o o' r → ((l ≡ []) × Unmeasured s) ⊎ Returns l s p'
    go (inl (five, _)) = let f : ◌≡◌ {A = ℕ} 0 5 = sym z ∙ five in absurd (omega arith)
    go (inr over) = went_back D l m o o' r z h g over p p' s (as_voxels D (wrote r o') (opposite m) p p' s h (moved D l m o o' r z h g over).gives.list.good second)
