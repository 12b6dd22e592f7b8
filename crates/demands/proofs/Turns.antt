-- Ticket 4: a turn is refused for want of room alone, and keeps the leaf count and the volume; turns add up modulo four; turning carries through join, intersection
-- and difference; and a move, turned, is the move by the turned displacement. Assumes nothing.
use mathlib.Core.Path.{◌≡◌, refl, sym, ap, ◌∙◌, subst, subst₂}
use mathlib.Core.Logic.{◌⊎◌, ◌↔◌, inl, inr}
use mathlib.Core.Bool.{true}
use mathlib.Core.List.{List}
use Prim.Native.Nat.{ℕ, ◌+◌, ◌*◌, ◌%◌, ◌^◌, ◌<◌, ◌≤◌}
use native.Mathlib.Omega.{arith}
use lib.IntN.{ℤ, neg_ℤ}
use lib.ListN.{length}
use Rattle.cells.specs.Answer.{answer, given, deepest}
use Rattle.cells.specs.Place.{along, Displaced, Came}
use Rattle.cells.specs.declared.Answer.{Answer}
use Rattle.cells.proofs.Decisions.{passes, deep_enough}
use Rattle.cells.proofs.Displacements.{displaced_parts, one_came}
use Rattle.cells.proofs.Integers.{above_negated, below_negated}
use Rattle.cells.proofs.Places.{each_axis}
use Rattle.records.specs.Record.{black, Good}
use Rattle.records.specs.Carried.{FromBlack}
use Rattle.records.specs.Writing.{WritesListOf}
use Rattle.records.proofs.Carrying.{Accepted, Then, accepted_then, carried_then}
use Rattle.records.proofs.First.{good_passes}
use Rattle.records.proofs.Lists.{black_in_root}
use Rattle.records.proofs.OneList.{one_list, list_of_itself, list_same}
use Rattle.sets.specs.declared.Op.{Op}
use Rattle.sets.specs.Sets.{SetOf}
use Rattle.turns.specs.Turns.{Quarter, Turned, most_turns}
use Rattle.turns.specs.Inner.{source_of}
use Rattle.turns.proofs.Sources.{source_in, turning, turned_from, turned_source, turned_target, turned_sum, turned_rest}
use Rattle.turns.proofs.TurnLaws.{turned_length, turn_success}
use Rattle.demands.specs.Laws.{move, Unaccepted, Roomy, Succeeds, wrote, Alike, Distributes, KeepsVolume}
use Rattle.demands.specs.Turns.{turn, KeepsLeaves, NoneIsItself, TurnsAddUp, quarter, TurnsMoves}
use Rattle.demands.proofs.Distributes.{carrier_distributes}
use Rattle.demands.proofs.Outcomes.{not_deep, success_gives, told_gives, told_accepted, same_set_alike, Outcome, Moved, Carries, displacement, move_carries}
use Rattle.demands.proofs.Volumes.{carrier_keeps_volume}

-- ---- a turn carries a list

-- a turn leaves no voxel behind
every_turned : (D : ℕ) (l : List ℕ) (n : ℕ) → Good D l → Accepted D (Turned D n) l
every_turned D l n g u b = (source_of (3 * n) D u, turned_target D n u (black_in_root D 0 l g.ordered u b))

module _ (D : ℕ) (l : List ℕ) (n : ℕ) (o o' : List ℕ) (r : Answer) where
  -- past the tests, the room decides
  turn_told : D ≤ deepest → Good D l → n ≤ most_turns → turn D l n o r o' → WritesListOf D (FromBlack (Turned D n) (black D l)) o (r, o')
  turn_told h g k (inl (a, t, _)) = absurd (not_deep D h a t)
  turn_told h g k (inr (_, inl (a, t, _))) = absurd (good_passes D l 1 g a t)
  turn_told h g k (inr (_, inr (_, inl (a, t, _)))) = absurd (passes (deep_enough k) a t)
  turn_told h g k (inr (_, inr (_, inr (_, t)))) = t

  turn_moved : turn D l n o r o' → Succeeds r → Moved D l (Turned D n) o o' r
  turn_moved t z =
      let k = turn_success D l n o r o' t z in
      record { depth = k.shallow; good = k.good; accepted = every_turned D l n k.good; gives = success_gives D (FromBlack (Turned D n) (black D l)) o o' r k.result }

-- by each turn number up to 3
pub turn_carries : Carries turn Turned (λ n. n ≤ most_turns)
turn_carries = record {
  carrying = turning;
  outcome = λ D l n o o' r h g k t. inr (every_turned D l n g, turn_told D l n o o' r h g k t);
  taken = λ D l n o o' r t z. (turn_success D l n o r o' t z).few;
  moved = turn_moved;
}

pub turn_distributes : (op : Op) → Distributes turn (SetOf op)
turn_distributes = carrier_distributes turn_carries

pub turn_keeps_volume : KeepsVolume turn
turn_keeps_volume = carrier_keeps_volume turn_carries

-- ---- the leaf count

pub keeps_leaves : KeepsLeaves turn
keeps_leaves D l n h g k o o' r t = go (turn_told D l n o o' r h g k t)
  where
    go : WritesListOf D (FromBlack (Turned D n) (black D l)) o (r, o') → ((length l ≤ length o) × (r ≡ given (length l))) ⊎ ((length o < length l) × (r ≡ answer 8 (length l) 0))
    go (m, x, inl (a, (short, e), f)) =
        let same = turned_length D l n g m x in
        inr (omega arith, ap (λ (s : Answer × List ℕ). s.0) f ∙ e ∙ ap (λ (i : ℕ). answer 8 i 0) same)
    go (m, x, inr (fits, e)) =
        let same = turned_length D l n g m x in
        let room : length o < length m → ⊥ = λ short. fits _ (short, refl) in
        inl (omega arith, ap (λ (s : Answer × List ℕ). s.0) e ∙ ap given same)

-- ---- turns one after the other

pub none_is_itself : NoneIsItself turn
unfolding Turned
none_is_itself D l o o' r t z =
    let m = turn_moved D l 0 o o' r t z in
    one_list D (λ v. black D l v ≡ true) (wrote r o') l
    (list_same D _ _ (wrote r o') (λ v h. (λ (u, b, (_, e)). ap (black D l) (sym e) ∙ b, λ b. (v, b, (h, refl)))) m.gives.list)
    (list_of_itself D l m.good)

turns_then : (D m n : ℕ) → Then D (Turned D m) (Turned D n) (Turned D ((m + n) % 4))
turns_then D m n = record { root = λ u v t. (turned_from D m u v t).0; both = turned_sum D m n; rest = turned_rest D m n }

pub turns_add_up : TurnsAddUp turn
turns_add_up D l m n k o o' r first z p p' s second q q' t single roomy roomy' =
    let f = turn_moved D l m o o' r first z in
    same_set_alike D _ _ s p' t q' (λ w _. carried_then (turns_then D m n) l (wrote r o') f.accepted f.gives.list w)
    (told_gives D _ p p' s (turn_told D (wrote r o') n p p' s f.depth f.gives.list.good k second) roomy)
    (told_gives D _ q q' t (turn_told D l ((m + n) % 4) q q' t f.depth f.good (omega arith) single) roomy')

-- ---- a move and a turn

module _ (D : ℕ) (d : ℕ → ℤ) where
  abbrev by_move : ℕ → ℕ → Type 0
  by_move = Came D (displacement d)

  abbrev by_turned_move : ℕ → ℕ → Type 0
  by_turned_move = Came D (displacement (quarter d))

  -- u and u' are turned to v and v'; the move takes u to u' exactly when the turned move takes v to v'
  module _ (u v u' v' : ℕ) (q : Quarter D u v) (q' : Quarter D u' v') (inside : u' < 8 ^ D) where
    quarter_came : by_move u u' → by_turned_move v v'
    quarter_came c = record {
      root = q'.root;
      each = each_axis (λ a. Displaced (displacement (quarter d) a) (along (2 ^ a) D v) (along (2 ^ a) D v'))
          ((displaced_parts (neg_ℤ (d 1)) (along 1 D v) (along 1 D v')).1 (rw (above_negated, below_negated) (omega (arith, q.x, q'.x, (displaced_parts (d 1) (along 2 D u) (along 2 D u')).0 (c.each 1 (omega arith))))))
          (subst₂ (Displaced (d 0)) (sym q.y) (sym q'.y) (c.each 0 (omega arith)))
          (subst₂ (Displaced (d 2)) (sym q.z) (sym q'.z) (c.each 2 (omega arith)));
    }

    came_quarter : by_turned_move v v' → by_move u u'
    came_quarter c = record {
      root = inside;
      each = each_axis (λ a. Displaced (displacement d a) (along (2 ^ a) D u) (along (2 ^ a) D u'))
          (subst₂ (Displaced (d 0)) q.y q'.y (c.each 1 (omega arith)))
          ((displaced_parts (d 1) (along 2 D u) (along 2 D u')).1 (omega (arith, q.x, q'.x, rw (above_negated, below_negated) at ((displaced_parts (neg_ℤ (d 1)) (along 1 D v) (along 1 D v')).0 (c.each 0 (omega arith))))))
          (subst₂ (Displaced (d 2)) q.z q'.z (c.each 2 (omega arith)));
    }

  -- one turn
  once : (u v : ℕ) → Turned D 1 u v → Quarter D u v
  unfolding Turned
  once u v (w, (_, e), q) = subst (λ (x : ℕ). Quarter D x v) (sym e) q

  -- moved and then turned
  abbrev moved_turned : ℕ → ℕ → Type 0
  moved_turned u w = (v : ℕ) × by_move u v × Turned D 1 v w

  move_then_turn : Then D by_move (Turned D 1) moved_turned
  move_then_turn = record { root = λ u v c. c.root; both = λ u v w c t. (v, c, t); rest = λ u v w (v', c', t) c. subst (λ (x : ℕ). Turned D 1 x w) (one_came D (displacement d) u v' v c' c) t }

  turn_then_move : Then D (Turned D 1) by_turned_move moved_turned
  turn_then_move = record {
    root = λ u v t. (turned_from D 1 u v t).0;
    both = λ u v w t c.
        let source = turned_source D 1 w c.root in
        let inside : source_of 1 D w < 8 ^ D = source_in D 1 w in
        (source_of 1 D w, came_quarter u v (source_of 1 D w) w (once u v t) (once _ w source) inside c, source);
    rest = λ u v w (u', c, t') t. quarter_came u v u' w (once u v t) (once u' w t') c.root c;
  }

pub turns_moves : TurnsMoves move turn
turns_moves D l d o o' r turned z p p' s second q q' t first =
    go (move_carries.outcome D (wrote r o') (quarter d) p p' s f.depth f.gives.list.good tt second) (move_carries.outcome D l d q q' t f.depth f.good tt first)
  where
    f : Moved D l (Turned D 1) o o' r
    f = turn_moved D l 1 o o' r turned z

    accepts : Accepted D (by_turned_move D d) (wrote r o') ↔ Accepted D (moved_turned D d) l
    accepts = accepted_then (turn_then_move D d) l (wrote r o') f.accepted f.gives.list

    accepts_move : Accepted D (by_move D d) l ↔ Accepted D (moved_turned D d) l
    accepts_move = (λ ok u b. let (v, c) = ok u b in (source_of 3 D v, (v, c, turned_target D 1 v c.root)), λ all u b. let (w, (v, c, _)) = all u b in (v, c))

    go : Outcome D (wrote r o') (by_turned_move D d) p p' s → Outcome D l (by_move D d) q q' t
        → (Unaccepted t ↔ Unaccepted s) × (Succeeds t → (g g' : List ℕ) (u : Answer) → turn D (wrote t q') 1 g u g' → Roomy u → Roomy s → Alike u g' s p')
    go (inl (a, _)) (inl (b, _)) = ((λ _. a, λ _. b), λ z'. let e : ◌≡◌ {A = ℕ} 0 7 = sym z' ∙ b in absurd (omega arith))
    go (inl (_, none)) (inr (ok, _)) = absurd (none (accepts.1 (accepts_move.0 ok)))
    go (inr (ok, _)) (inl (_, none)) = absurd (none (accepts_move.1 (accepts.0 ok)))
    go (inr (_, a)) (inr (_, b)) = (
      (λ n. absurd (told_accepted D _ q q' t b n), λ n. absurd (told_accepted D _ p p' s a n)),
      λ z' g g' u last roomy roomy'.
          let m = move_carries.moved D l d q q' t first z' in
          let same : (w : ℕ) → FromBlack (Turned D 1) (black D (wrote t q')) w ↔ FromBlack (by_turned_move D d) (black D (wrote r o')) w =
          λ w.
          let x = carried_then (move_then_turn D d) l (wrote t q') m.accepted m.gives.list w in
          let y = carried_then (turn_then_move D d) l (wrote r o') f.accepted f.gives.list w in
          (λ b. y.1 (x.0 b), λ b. x.1 (y.0 b)) in
          same_set_alike D _ _ u g' s p' (λ w _. same w)
          (told_gives D _ g g' u (turn_told D (wrote t q') 1 g g' u m.depth m.gives.list.good (omega arith) last) roomy)
          (told_gives D _ p p' s a roomy'),
    )
