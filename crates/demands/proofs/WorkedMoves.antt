-- Moves worked out: a test that antt computes, and the law that what passes it fits the move call's definition. Assumes nothing.
use mathlib.Core.Path.{◌≡◌, refl, ap, subst, subst⁻¹}
use mathlib.Core.Logic.{◌⊎◌, inl, inr}
use mathlib.Core.Bool.{Bool, true, false, not, ◌&&◌}
use mathlib.Core.List.{List, []}
use Prim.Native.Nat.{ℕ}
use lib.Dec.{leb, ltb, eqb}
use lib.IntN.{ℤ, pos, negsuc}
use Rattle.std.specs.Prelude.{Result, Ok, Err}
use lib.ListN.{length, get_or}
use borrow.Author.Tests.{leb-true, leb-false, ltb-true, eqb-true, not-true}
use Rattle.cells.specs.Answer.{answer, Decided, keeping}
use Rattle.cells.specs.Place.{axes}
use Rattle.cells.specs.declared.Answer.{Answer}
use Rattle.cells.proofs.Bools.{both_true, clash}
use Rattle.cells.proofs.Decisions.{decided_all}
use Rattle.records.specs.Record.{Good}
use Rattle.records.specs.Writing.{stands}
use Rattle.records.proofs.Fill.{good_list}
use Rattle.metres.specs.Inner.{together}
use Rattle.metres.specs.Metres.{finest, move_tests, Becomes}
use Rattle.metres.specs.Taken.{told, TakenOf}
use Rattle.metres.specs.declared.Metres.{Metres}
use Rattle.metres.specs.declared.Move.{Move}
use Rattle.metres.specs.declared.Move.TheVariants as MoveV
use Rattle.metres.specs.declared.inner.Steps.{Steps}
use Rattle.cells.specs.declared.refusals.NoWholeMove.{NoWholeMove}
use Rattle.cells.specs.declared.refusals.NoWholeMove.TheVariants.{EdgeNumber}
use Rattle.metres.proofs.Rounding.{rounded, rounded_exists}
use Rattle.metres.proofs.TakenLaws.{together_taken, edge_taken, voxels_taken, bad_decides, whole_decides}
use Rattle.shifts.specs.Shift.{shifted}
use Rattle.moves.specs.Inner.{leaf_keeps, back}
use Rattle.moves.specs.Moves.{ShiftOf, ByVoxels, MoveOf}
use Rattle.moves.proofs.Acceptance.{split_of}
use Rattle.moves.proofs.MoveLaws.{move_of, stay, stays_accepted, moved_list, strays_told, room_told}
use Rattle.demands.proofs.Outcomes.{Left}
use Rattle.demands.proofs.Agreement.{agrees, agrees_is, leaving, good_at, good_at_is, roomed, told_roomed}

-- ---- the whole voxels that a move becomes

abbrev pub edged : Bool → Metres → Result Steps NoWholeMove
edged true d = together (rounded d.s d.x) (rounded d.s d.y) (rounded d.s d.z)
edged false d = Err EdgeNumber

abbrev pub in_voxels : Move → Result Steps NoWholeMove
in_voxels (MoveV.Voxels i j k) = Ok (record { x = i; y = j; z = k })
in_voxels (MoveV.Metres d) = edged (leb d.s finest) d

taken : (m : Move) → TakenOf m (in_voxels m)
taken (MoveV.Voxels i j k) = voxels_taken i j k
taken (MoveV.Metres d) = go (leb d.s finest) refl
  where
    go : (t : Bool) → leb d.s finest ≡ t → TakenOf (MoveV.Metres d) (edged t d)
    go true h = together_taken d (leb-true _ _ h) _ _ _ (rounded_exists d.s d.x) (rounded_exists d.s d.y) (rounded_exists d.s d.z)
    go false h = edge_taken d (leb-false _ _ h)

-- ---- moves

module _ (D : ℕ) (l : List ℕ) (d : ℕ → ℤ) where
  -- by whether all leaves stay: the list of the displaced voxels, or the first leaf that strays
  abbrev pub shifts_well : Bool → ℕ → Answer → List ℕ → Bool
  shifts_well true n r w = agrees (roomed n (good_list D (shifted D l (back D (split_of d))))) r w
  shifts_well false n r w =
      ltb r.place (length l)
      && (stay D l d r.place && (not (leaf_keeps D (split_of d) (get_or l r.place 0)) && agrees (answer 7 r.place 1, []) r w))

  shifts_fits : Good D l → (o : List ℕ) (r : Answer) (w : List ℕ) (t : Bool) → stay D l d (length l) ≡ t → shifts_well t (length o) r w ≡ true → ShiftOf D l d o (leaving o (r, w))
  shifts_fits g o r w true s e =
      let ok = stays_accepted D l d g.ordered s in
      room_told D l d o _ ok (told_roomed D _ o _ (moved_list D l d g.ordered ok) r w e)
  shifts_fits g o r w false s e =
      let keeps : Bool = leaf_keeps D (split_of d) (get_or l r.place 0) in
      let (a, f) = both_true (ltb r.place (length l)) (stay D l d r.place && (not keeps && agrees (answer 7 r.place 1, []) r w)) e in
      let (q, f') = both_true (stay D l d r.place) (not keeps && agrees (answer 7 r.place 1, []) r w) f in
      let (u, b) = both_true (not keeps) (agrees (answer 7 r.place 1, []) r w) f' in
      subst (λ (t : Left). ShiftOf D l d o (leaving o t)) (agrees_is (answer 7 r.place 1, []) r w b) (strays_told D l d g.ordered o r.place (ltb-true _ _ a) q (not-true keeps u))

abbrev pub moves_well : Result Steps NoWholeMove → ℕ → List ℕ → ℕ → Answer → List ℕ → Bool
moves_well (Err e) D l n r w = agrees (told e, []) r w
moves_well (Ok v) D l n r w = shifts_well D l (axes v.x v.y v.z) (stay D l (axes v.x v.y v.z) (length l)) n r w

-- the tests of the move and then the shift
abbrev Past : ℕ → List ℕ → Move → List ℕ → Left → Type 0
Past D l m o = Decided (keeping o) (move_tests m) (ByVoxels m (λ d. ShiftOf D l d o))

past_fits : (D : ℕ) (l : List ℕ) (m : Move) (o : List ℕ) (r : Answer) (w : List ℕ) → Good D l → (t : Result Steps NoWholeMove) → TakenOf m t → moves_well t D l (length o) r w ≡ true → Past D l m o (leaving o (r, w))
past_fits D l m o r w g (Err p) x e = subst (λ (t : Left). Past D l m o (leaving o t)) (agrees_is (told p, []) r w e) (bad_decides (keeping o) (ByVoxels m (λ x. ShiftOf D l x o)) m p x)
past_fits D l m o r w g (Ok v) x e =
    let d = axes v.x v.y v.z in
    whole_decides (keeping o) (ByVoxels m (λ x. ShiftOf D l x o)) m v (leaving o (r, w)) x (λ b. (v.x, v.y, v.z, b, shifts_fits D l d g o r w (stay D l d (length l)) refl e))

pub moves_fits : (D : ℕ) (l : List ℕ) (m : Move) (o : List ℕ) (r : Answer) (w : List ℕ) → (good_at D l && moves_well (in_voxels m) D l (length o) r w) ≡ true → MoveOf D l m o r (stands w o)
moves_fits D l m o r w e =
    let (p, f) = both_true (good_at D l) (moves_well (in_voxels m) D l (length o) r w) e in
    let (h, g) = good_at_is D l p in
    move_of D l m o r (stands w o) h g (past_fits D l m o r w g (in_voxels m) (taken m) f)

-- ---- the whole voxels of a move, as a test

abbrev pub is_whole : ℤ → ℤ → Bool
is_whole (pos a) (pos b) = eqb a b
is_whole (pos a) (negsuc b) = false
is_whole (negsuc a) (pos b) = false
is_whole (negsuc a) (negsuc b) = eqb a b

whole_same : (x y : ℤ) → is_whole x y ≡ true → x ≡ y
whole_same (pos a) (pos b) e = ap pos (eqb-true a b e)
whole_same (pos a) (negsuc b) e = absurd (clash e refl)
whole_same (negsuc a) (pos b) e = absurd (clash e refl)
whole_same (negsuc a) (negsuc b) e = ap negsuc (eqb-true a b e)

abbrev pub is_taken : Result Steps NoWholeMove → ℤ → ℤ → ℤ → Bool
is_taken (Err e) i j k = false
is_taken (Ok v) i j k = is_whole v.x i && (is_whole v.y j && is_whole v.z k)

-- what is not refused is what the move becomes
abbrev unrefused : Move → Answer ⊎ (ℤ × ℤ × ℤ) → Type 0
unrefused m (inl a) = Unit {0}
unrefused m (inr v) = Becomes m (axes v.0 v.1 v.2)

taken_becomes : (m : Move) (v : Steps) → TakenOf m (Ok v) → Becomes m (axes v.x v.y v.z)
taken_becomes m v x =
    decided_all inl (move_tests m) (λ r. (a : ℤ) × (b : ℤ) × (c : ℤ) × Becomes m (axes a b c) × (r ≡ inr (a, b, c))) (unrefused m) (inr (v.x, v.y, v.z)) (λ a. tt) (λ (a, b, c, h, e). subst⁻¹ (unrefused m) e h) x

whole_becomes : (m : Move) (i j k : ℤ) (t : Result Steps NoWholeMove) → TakenOf m t → is_taken t i j k ≡ true → Becomes m (axes i j k)
whole_becomes m i j k (Err p) x e = absurd (clash e refl)
whole_becomes m i j k (Ok v) x e =
    let (p, f) = both_true (is_whole v.x i) (is_whole v.y j && is_whole v.z k) e in
    let (q, r) = both_true (is_whole v.y j) (is_whole v.z k) f in
    rw (← whole_same v.x i p, ← whole_same v.y j q, ← whole_same v.z k r) (taken_becomes m v x)

pub becomes_fits : (m : Move) (i j k : ℤ) → is_taken (in_voxels m) i j k ≡ true → Becomes m (axes i j k)
becomes_fits m i j k e = whole_becomes m i j k (in_voxels m) (taken m) e
