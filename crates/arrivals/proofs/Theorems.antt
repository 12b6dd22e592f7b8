-- What follows of the two calls: no second answer fits; what success says; and what is stored when both succeed. Assumes nothing.
use mathlib.Core.Path.{◌≡◌, refl, sym, ap₂, subst, ◌∙◌}
use mathlib.Core.Bool.{true}
use mathlib.Core.Logic.{◌⊎◌, ◌↔◌, inl, inr}
use mathlib.Core.List.{List, [], ◌∷◌}
use Prim.Native.Nat.{ℕ, ◌^◌, ◌<◌}
use native.Mathlib.Omega.{arith}
use lib.IntN.{ℤ}
use lib.ListN.{length, take}
use Rattle.cells.specs.Place.{Came}
use Rattle.cells.specs.declared.Answer.{Answer}
use Rattle.cells.proofs.Decisions.{One, one_refuses, one_refuses_first, one_decided, refuses_numbered, decided_passed}
use Rattle.records.specs.Record.{black, ListOf}
use Rattle.records.specs.Carried.{FromBlack}
use Rattle.records.specs.Writing.{stands, TooShort}
use Rattle.records.proofs.OneList.{one_list, list_same}
use Rattle.records.proofs.Writing.{one_writes}
use Rattle.records.proofs.Fronts.{Front, left_front, writes_success}
use Rattle.sets.specs.Sets.{InResult}
use Rattle.sets.specs.declared.Op.TheVariants.{Join}
use Rattle.metres.specs.Metres.{Becomes}
use Rattle.metres.specs.declared.Move.{Move}
use Rattle.moves.proofs.MoveLaws.{one_move, MoveSuccess, move_success}
use Rattle.blocks.specs.Block.{depth_of, codes}
use Rattle.blocks.specs.File.{file_of}
use Rattle.blocks.proofs.Sound.{one_unsound}
use Rattle.arrivals.specs.Arrivals.{Step, leaving, OtherDepth, ArriveOf, MergeOf}
use Rattle.arrivals.proofs.Steps.{of_read, MovedFrom, Arrived, read_numbered, of_join, StoredAs, JoinedTo, join_numbered}

-- what a step leaves, from its answer with the result's buffer, and the buffer for work
abbrev as_step : Answer × List ℕ → List ℕ → Step
as_step t w = (t.0, w, t.1)

-- ---- arrive

module _ (D : ℕ) (f : List ℕ) (m : Move) (w o : List ℕ) where
  one_moved : One (MovedFrom D f m w o)
  one_moved r s (p, e) (q, g) = ap₂ as_step (one_move D (codes f) m o (r.0, r.2) (s.0, s.2) p q) (e ∙ sym g)

  pub one_arrive : One (ArriveOf D f m w o)
  one_arrive =
      one_decided (leaving w o) (of_read D f m w o) _ (one_unsound f, (one_refuses_first, (one_refuses, tt)))
      (one_decided (leaving (stands (codes f) w) o) (OtherDepth D f ∷ []) (MovedFrom D f m w o) (one_refuses, tt) one_moved)

  -- the file is of our depth, and its list was moved
  pub record ArriveSuccess (r : Answer) (w' o' : List ℕ) : Type 0 where
    pub same_depth : depth_of f ≡ D
    pub work : w' ≡ stands (codes f) w
    pub move : MoveSuccess D (codes f) m o r o'

  pub arrive_success : (r : Answer) (w' o' : List ℕ) → ArriveOf D f m w o (r, w', o') → r.number ≡ 0 → ArriveSuccess r w' o'
  arrive_success r w' o' d z =
      let (_, rest) = decided_passed (λ t. t.0.number) (leaving w o) (λ a. refl) (of_read D f m w o) (Arrived D f m w o) (r, w', o') (read_numbered D f m w o) z d in
      let ((same, _), (moved, work)) = decided_passed (λ t. t.0.number) (leaving (stands (codes f) w) o) (λ a. refl) (OtherDepth D f ∷ []) (MovedFrom D f m w o) (r, w', o') (refuses_numbered (λ e. omega arith), tt) z rest in
      let not-less : depth_of f < D → ⊥ = λ h. same _ ((λ e. omega arith), refl) in
      let not_more : D < depth_of f → ⊥ = λ h. same _ ((λ e. omega arith), refl) in
      record { same_depth = omega arith; work = work; move = move_success D (codes f) m o r o' moved z }

-- ---- merge

module _ (D : ℕ) (a b w o : List ℕ) where
  one_stored : (l : List ℕ) → One (StoredAs D a b w o l)
  one_stored l r s (p, e) (q, g) = ap₂ as_step (one_writes (file_of D l) o (r.0, r.2) (s.0, s.2) p q) (e ∙ sym g)

  one_joined : One (JoinedTo D a b w o)
  one_joined r s (l, x, p) (k, y, q) =
      one_decided (leaving w o) (TooShort (length l) w ∷ []) (StoredAs D a b w o l) (one_refuses, tt) (one_stored l) r s p (rw (one_list D (InResult Join D a b) l k x y) q)

  pub one_merge : One (MergeOf D a b w o)
  one_merge = one_decided (leaving w o) (of_join D a b w o) (JoinedTo D a b w o) (one_refuses, (one_refuses_first, (one_refuses_first, tt))) one_joined

  -- the joined list, and its file
  pub record MergeSuccess (r : Answer) (w' o' : List ℕ) : Type 0 where
    pub joined : List ℕ
    pub is_list : ListOf D (InResult Join D a b) joined
    pub work : w' ≡ stands joined w
    pub front : Front (file_of D joined) r.place o'

  pub merge_success : (r : Answer) (w' o' : List ℕ) → MergeOf D a b w o (r, w', o') → r.number ≡ 0 → MergeSuccess r w' o'
  merge_success r w' o' d z =
      let (_, (l, x, p)) = decided_passed (λ t. t.0.number) (leaving w o) (λ c. refl) (of_join D a b w o) (JoinedTo D a b w o) (r, w', o') (join_numbered D a b w o) z d in
      let (_, (stored, work)) = decided_passed (λ t. t.0.number) (leaving w o) (λ c. refl) (TooShort (length l) w ∷ []) (StoredAs D a b w o l) (r, w', o') (refuses_numbered (λ e. omega arith), tt) z p in
      record { joined = l; is_list = x; work = work; front = left_front (file_of D l) o r o' (writes_success (file_of D l) o r o' stored z) }

-- ---- both: a file f arrives by the move m, and is merged with our list a

-- the bytes stored are the file of the one good list that is black where ours is, or where a black voxel of theirs came to
pub record TakenIn (D : ℕ) (a f : List ℕ) (m : Move) (r : Answer) (o' : List ℕ) : Type 0 where
  pub by : ℕ → ℤ
  pub becomes : Becomes m by
  pub joined : List ℕ
  pub is_list : ListOf D (λ v. (black D a v ≡ true) ⊎ FromBlack (Came D by) (black D (codes f)) v) joined
  pub front : Front (file_of D joined) r.place o'

pub taken_in : (D : ℕ) (f : List ℕ) (m : Move) (w o : List ℕ) (r : Answer) (w' o' : List ℕ) → ArriveOf D f m w o (r, w', o') → r.number ≡ 0
    → (a v p : List ℕ) (s : Answer) (v' p' : List ℕ) → MergeOf D a (take r.place o') v p (s, v', p') → s.number ≡ 0 → TakenIn D a f m s p'
taken_in D f m w o r w' o' d z a v p s v' p' e y =
    let came = (arrive_success D f m w o r w' o' d z).move in
    let moved = came.result.made in
    let x = merge_success D a moved v p s v' p' (subst (λ (b : List ℕ). MergeOf D a b v p (s, v', p')) came.result.front.is_front e) y in
    let Theirs = FromBlack (Came D came.by) (black D (codes f)) in
    let same : (u : ℕ) → u < 8 ^ D → InResult Join D a moved u ↔ ((black D a u ≡ true) ⊎ Theirs u) = λ u h. (elim [ inl t ↦ inl t | inr t ↦ inr ((came.result.is_list.exactly u h).0 t) ], elim [ inl t ↦ inl t | inr t ↦ inr ((came.result.is_list.exactly u h).1 t) ]) in
    record { by = came.by; becomes = came.becomes; joined = x.joined; is_list = list_same D (InResult Join D a moved) _ x.joined same x.is_list; front = x.front }
