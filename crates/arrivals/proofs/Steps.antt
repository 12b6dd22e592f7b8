-- How the two calls are met: from what the first of the layer's calls left, and what the second left of the front of its buffer. Assumes nothing.
use mathlib.Core.Path.{◌≡◌, refl, ap, sym, subst, ◌∙◌}
use mathlib.Core.Logic.{inl, inr}
use mathlib.Core.List.{List, [], ◌∷◌}
use Prim.Native.Nat.{ℕ}
use native.Mathlib.Omega.{arith}
use lib.ListN.{length, take}
use Rattle.cells.specs.Answer.{answer, given, Test, Decided, keeping, deepest, TooDeep}
use Rattle.cells.specs.declared.Answer.{Answer}
use Rattle.cells.proofs.Decisions.{Numbered, Passed, passes, refuses_numbered, decided_passed, decided_next, decided_past}
use Rattle.records.specs.Record.{ListOf}
use Rattle.records.specs.Fault.{Faulty}
use Rattle.records.specs.Writing.{stands, TooShort, WritesOf, WritesListOf}
use Rattle.records.proofs.First.{good_passes, faulty_numbered}
use Rattle.records.proofs.Fronts.{left_front}
use Rattle.sets.specs.Sets.{InResult, SetOf}
use Rattle.sets.specs.declared.Op.TheVariants.{Join}
use Rattle.metres.specs.declared.Move.{Move}
use Rattle.moves.specs.Moves.{MoveOf}
use Rattle.blocks.specs.Block.{depth_of, codes}
use Rattle.blocks.specs.File.{file_of}
use Rattle.blocks.specs.Calls.{ReadAnswer, Unsound, unread, ReadOf, WriteOf}
use Rattle.blocks.proofs.Sound.{unsound_numbered}
use Rattle.blocks.proofs.Theorems.{ReadSuccess, read_success}
use Rattle.arrivals.specs.Arrivals.{Step, leaving, OtherDepth, ArriveOf, MergeOf}

-- ---- the parts of the two definitions: their tests, and what holds past them

module _ (D : ℕ) (f : List ℕ) (m : Move) (w o : List ℕ) where
  abbrev pub of_read : List Test
  of_read = Unsound f ∷ Faulty (depth_of f) (codes f) 1 ∷ TooShort (length (codes f)) w ∷ []

  abbrev pub MovedFrom : Step → Type 0
  MovedFrom t = MoveOf D (codes f) m o t.0 t.2 × (t.1 ≡ stands (codes f) w)

  abbrev pub Arrived : Step → Type 0
  Arrived = Decided (leaving (stands (codes f) w) o) (OtherDepth D f ∷ []) MovedFrom

  pub read_numbered : Numbered of_read
  read_numbered = (unsound_numbered f, (faulty_numbered (depth_of f) (codes f) 1, (refuses_numbered (λ e. omega arith), tt)))

module _ (D : ℕ) (a b w o : List ℕ) where
  abbrev pub of_join : List Test
  of_join = TooDeep deepest D ∷ Faulty D a 1 ∷ Faulty D b 2 ∷ []

  -- where l is the joined list
  abbrev pub StoredAs : List ℕ → Step → Type 0
  StoredAs l t = WritesOf (file_of D l) o (t.0, t.2) × (t.1 ≡ stands l w)

  abbrev pub JoinedTo : Step → Type 0
  JoinedTo s = (l : List ℕ) × ListOf D (InResult Join D a b) l × Decided (leaving w o) (TooShort (length l) w ∷ []) (StoredAs l) s

  pub join_numbered : Numbered of_join
  join_numbered = (refuses_numbered (λ e. omega arith), (faulty_numbered D a 1, (faulty_numbered D b 2, tt)))

-- ---- a file that arrives: `read` left x and the buffer w'

module _ (D : ℕ) (f : List ℕ) (m : Move) (w o : List ℕ) (x : ReadAnswer) (w' : List ℕ) (d : ReadOf f w x w') where
  abbrev tests : List Test
  tests = of_read D f m w o

  abbrev left : ReadAnswer × List ℕ → Type 0
  left t = t ≡ (record { answer = given (length (codes f)); depth = depth_of f }, stands (codes f) w)

  module _ (z : x.answer.number ≡ 0) where
    pub arrive_file : ReadSuccess f w x w'
    arrive_file = read_success f w x w' d z

    stood : w' ≡ stands (codes f) w
    stood = ap (λ (t : Answer × List ℕ). t.1) arrive_file.is_left

    goes_on : (s : Step) → Arrived D f m w o s → ArriveOf D f m w o s
    goes_on s rest =
        let passed : Passed tests = (decided_passed (λ t. t.0.answer.number) (unread w) (λ a. refl) tests left (x, w') (read_numbered D f m w o) z d).0 in
        decided_next (leaving w o) tests [] (Arrived D f m w o) s passed rest

    pub arrive_other : (x.depth ≡ D → ⊥) → ArriveOf D f m w o (answer 1 0 0, w', o)
    arrive_other some = goes_on _ (inl (answer 1 0 0, (λ e. some (arrive_file.is_depth ∙ e), refl), ap (λ (v : List ℕ). (answer 1 0 0, v, o)) stood))

    -- the front of the buffer was moved
    pub arrive_moved : x.depth ≡ D → (r : Answer) (o' : List ℕ) → MoveOf D (take x.answer.place w') m o r o' → ArriveOf D f m w o (r, w', o')
    arrive_moved same r o' q =
        goes_on _ (inr (passes (λ some. some (sym arrive_file.is_depth ∙ same)), (subst (λ (l : List ℕ). MoveOf D l m o r o') arrive_file.front.is_front q, stood)))

-- ---- two lists: `join` left r and the buffer w'

module _ (D : ℕ) (a b w o : List ℕ) (r : Answer) (w' : List ℕ) where
  abbrev its_tests : List Test
  its_tests = of_join D a b w o

  abbrev wide : Answer × List ℕ → Step
  wide t = (t.0, t.1, o)

  -- the front of the buffer was written
  pub merge_written : SetOf Join D a b w r w' → r.number ≡ 0 → (s : Answer) (o' : List ℕ) → WriteOf D (take r.place w') o s o' → MergeOf D a b w o (s, w', o')
  merge_written d z s o' q =
      let (clean, (l, x, made)) = decided_passed (λ t. t.0.number) (keeping w) (λ c. refl) its_tests (WritesListOf D (InResult Join D a b) w) (r, w') (join_numbered D a b w o) z d in
      let (fits, e) = decided_passed (λ t. t.0.number) (keeping w) (λ c. refl) (TooShort (length l) w ∷ []) (λ t. t ≡ (given (length l), stands l w)) (r, w') (refuses_numbered (λ n. omega arith), tt) z made in
      let of_list : WriteOf D l o s o' = subst (λ (k : List ℕ). WriteOf D k o s o') (left_front l w r w' e).is_front q in
      let put : WritesOf (file_of D l) o (s, o') =
      decided_past (keeping o) (Faulty D l 1) [] (WritesOf (file_of D l) o) (s, o') (good_passes D l 1 x.good)
      (decided_past (keeping o) (TooDeep deepest D) (Faulty D l 1 ∷ []) (WritesOf (file_of D l) o) (s, o') clean.0 of_list) in
      decided_next (leaving w o) its_tests [] (JoinedTo D a b w o) (s, w', o') clean (l, x, decided_next (leaving w o) (TooShort (length l) w ∷ []) [] (StoredAs D a b w o l) (s, w', o') fits (put, ap (λ (t : Answer × List ℕ). t.1) e))
