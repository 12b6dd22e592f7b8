-- The laws of `TakenOf`, what a move becomes.
--     together_taken     three coordinates' outcomes, put together, are those of the metres
--     edge_taken, voxels_taken     an edge number above the greatest, and whole voxels
--     one_move_tests, move_tests_five, move_tests_numbered     each test of a move refuses with one answer at most, whose number is 5
--     one_becomes, one_taken     no second outcome fits a move
--     bad_decides, whole_decides     how the outcome decides the same tests in a call above
-- Assumes nothing.
use Rattle.std.proofs.Common.{◌≡◌, ℕ, zero, suc, ◌<◌, ◌≤◌, ◌⊎◌, List, [], ◌∷◌, ℤ, sym, refl, ap, ◌∙◌, inl, inr, arith, below_none, below_more, Option, Some, None, Result, Ok, Err}
use Rattle.cells.specs.Answer.{Test, Decided}
use Rattle.cells.specs.declared.Answer.{Answer}
use Rattle.cells.specs.Place.{axes, EachAxis}
use Rattle.cells.proofs.Decisions.{One, Ones, Telling, Numbered, one_decided, one_refuses, one_refuses_first, passes, refuses_numbered, refuses_first_numbered}
use Rattle.cells.proofs.Places.{each_axis}
use Rattle.metres.specs.declared.Metres.{Metres}
use Rattle.metres.specs.declared.Move.{Move}
use Rattle.metres.specs.declared.Move.TheVariants as MoveV
use Rattle.metres.specs.declared.inner.Steps.{Steps}
use Rattle.cells.specs.declared.refusals.NoWholeMove.{NoWholeMove}
use Rattle.cells.specs.declared.refusals.NoWholeMove.TheVariants.{X, Y, Z, EdgeNumber}
use Rattle.metres.specs.Metres.{Whole, finest, coordinates, move_tests, Becomes}
use Rattle.cells.specs.Refusals.{no_move_place}
use Rattle.metres.specs.Taken.{told, outcome, TakenOf}
use Rattle.metres.specs.Inner.{Rounded, together}
use Rattle.metres.proofs.Rounding.{one_whole}

-- ---- the outcome of metres with an edge number in range

module _ (m : Metres) (low : m.s ≤ finest) where
  -- the coordinate of axis a has an outcome that is a whole number
  abbrev Good : ℕ → Type 0
  Good a = (n : ℤ) × Whole m.s (coordinates m a) n

  -- the first bad coordinate, where those before it are good
  first_bad : (e : NoWholeMove) → no_move_place e < 3 → ((n : ℤ) → Whole m.s (coordinates m (no_move_place e)) n → ⊥) → ((b : ℕ) → b < no_move_place e → Good b) → TakenOf (MoveV.Metres m) (Err e)
  first_bad e h none good = inr (passes (λ h. omega arith), inl (_, (no_move_place e, record { below = h; here = none; before = λ b l bad. bad (good b l).0 (good b l).1 }, refl), refl))

  pub together_taken : (a b c : Option ℤ) → Rounded m.s m.x a → Rounded m.s m.y b → Rounded m.s m.z c → TakenOf (MoveV.Metres m) (together a b c)
  unfolding Rounded
  together_taken None b c x y z = first_bad X (omega arith) x (below_none Good)
  together_taken (Some i) None c x y z = first_bad Y (omega arith) y (below_more Good 0 (below_none Good) (i, x))
  together_taken (Some i) (Some j) None x y z = first_bad Z (omega arith) z (below_more Good 1 (below_more Good 0 (below_none Good) (i, x)) (j, y))
  together_taken (Some i) (Some j) (Some k) x y z =
      let all : EachAxis (λ a. Whole m.s (coordinates m a) (axes i j k a)) = each_axis _ x y z in
      inr (passes (λ h. omega arith), inr (λ a (b, f, e). f.here (axes i j k b) (all b f.below), (i, j, k, all, refl)))

pub edge_taken : (m : Metres) → finest < m.s → TakenOf (MoveV.Metres m) (Err EdgeNumber)
edge_taken m high = inl (_, (high, refl), refl)

pub voxels_taken : (i j k : ℤ) → TakenOf (MoveV.Voxels i j k) (Ok (record { x = i; y = j; z = k }))
voxels_taken i j k = (i, j, k, each_axis _ refl refl refl, refl)

-- ---- a move's own tests

pub one_move_tests : (m : Move) → Ones (move_tests m)
one_move_tests (MoveV.Voxels i j k) = tt
one_move_tests (MoveV.Metres d) = (one_refuses, (one_refuses_first, tt))

pub move_tests_five : (m : Move) → Telling (λ a. a.number ≡ 5) (move_tests m)
move_tests_five (MoveV.Voxels i j k) = tt
move_tests_five (MoveV.Metres d) = (λ a (_, e). ap (λ (t : Answer). t.number) e, (λ a (_, _, e). ap (λ (t : Answer). t.number) e, tt))

pub move_tests_numbered : (m : Move) → Numbered (move_tests m)
move_tests_numbered (MoveV.Voxels i j k) = tt
move_tests_numbered (MoveV.Metres d) = (refuses_numbered (λ x. omega arith), (refuses_first_numbered (λ i x e. omega arith), tt))

-- ---- no second outcome

pub one_becomes : (m : Move) (d e : ℕ → ℤ) → Becomes m d → Becomes m e → EachAxis (λ a. d a ≡ e a)
one_becomes (MoveV.Voxels x y z) d e p q a h = p a h ∙ sym (q a h)
one_becomes (MoveV.Metres m) d e p q a h = one_whole m.s (coordinates m a) (d a) (e a) (p a h) (q a h)

abbrev Voxelled : Move → Answer ⊎ (ℤ × ℤ × ℤ) → Type 0
Voxelled m r = (i : ℤ) × (j : ℤ) × (k : ℤ) × Becomes m (axes i j k) × (r ≡ inr (i, j, k))

one_row : (m : Move) → One (Voxelled m)
one_row m r s (i, j, k, b, e) (i', j', k', b', e') =
    let same = one_becomes m (axes i j k) (axes i' j' k') b b' in
    e ∙ rw (same 0 (omega arith), same 1 (omega arith), same 2 (omega arith)) (sym e')

one_outcome : (m : Move) → One (Decided inl (move_tests m) (Voxelled m))
one_outcome m = one_decided inl (move_tests m) (Voxelled m) (one_move_tests m) (one_row m)

same_three : (i j k i' j' k' : ℤ) → ◌≡◌ {A = Answer ⊎ (ℤ × ℤ × ℤ)} (inr (i, j, k)) (inr (i', j', k')) → (i ≡ i') × (j ≡ j') × (k ≡ k')
same_three i j k i' j' k' e =
    let t : ◌≡◌ {A = ℤ × ℤ × ℤ} (i, j, k) (i', j', k') = cc in
    (ap (λ (v : ℤ × ℤ × ℤ). v.0) t, ap (λ (v : ℤ × ℤ × ℤ). v.1) t, ap (λ (v : ℤ × ℤ × ℤ). v.2) t)

-- what is not whole is known by its place
abbrev named : ℕ → NoWholeMove
named zero = X
named (suc zero) = Y
named (suc (suc zero)) = Z
named (suc (suc (suc n))) = EdgeNumber

named_place : (e : NoWholeMove) → named (no_move_place e) ≡ e
named_place X = refl
named_place Y = refl
named_place Z = refl
named_place EdgeNumber = refl

one_told : (t t' : Result Steps NoWholeMove) → outcome t ≡ outcome t' → t ≡ t'
one_told (Err p) (Err q) e = let f : told p ≡ told q = cc in ap Err (sym (named_place p) ∙ ap (λ (a : Answer). named a.place) f ∙ named_place q)
one_told (Err p) (Ok v) e = let z : ◌≡◌ {A = ℕ} 0 1 = cc in absurd (omega arith)
one_told (Ok v) (Err q) e = let z : ◌≡◌ {A = ℕ} 0 1 = cc in absurd (omega arith)
one_told (Ok v) (Ok w) e =
    let (x, y, z) = same_three v.x v.y v.z w.x w.y w.z e in
    rw (x, y, z)

pub one_taken : (m : Move) → One (TakenOf m)
one_taken m t t' h h' = one_told t t' (one_outcome m (outcome t) (outcome t') h h')

-- ---- the same tests in a call above, which leaves `refuse a` where one refuses with a

module _ (W R : Type 0) (refuse : Answer → R) (Q : Answer ⊎ W → Type 0) (P : R → Type 0) where
  row : (Fs : List Test) (x : Answer ⊎ W) (r : R) → ((a : Answer) → x ≡ inl a → r ≡ refuse a) → (Q x → P r) → Decided inl Fs Q x → Decided refuse Fs P r
  row [] x r refused f q = f q
  row (F ∷ Fs) x r refused f (inl (b, g, e)) = inl (b, g, refused b e)
  row (F ∷ Fs) x r refused f (inr (n, d)) = inr (n, row Fs x r refused f d)

module _ {R : Type 0} (refuse : Answer → R) (P : R → Type 0) (m : Move) where
  decides : (x : Answer ⊎ (ℤ × ℤ × ℤ)) (r : R) → ((a : Answer) → x ≡ inl a → r ≡ refuse a) → (Voxelled m x → P r) → Decided inl (move_tests m) (Voxelled m) x → Decided refuse (move_tests m) P r
  decides = row (ℤ × ℤ × ℤ) R refuse (Voxelled m) P (move_tests m)

  pub bad_decides : (e : NoWholeMove) → TakenOf m (Err e) → Decided refuse (move_tests m) P (refuse (told e))
  bad_decides e = decides (inl (told e)) _ (λ a f. let same : told e ≡ a = cc in ap refuse same) (λ q. absurd (let e = q.4 in let z : ◌≡◌ {A = ℕ} 0 1 = cc in omega arith))

  pub whole_decides : (v : Steps) (r : R) → TakenOf m (Ok v) → (Becomes m (axes v.x v.y v.z) → P r) → Decided refuse (move_tests m) P r
  whole_decides v r h f = decides (inr (v.x, v.y, v.z)) r (λ a e. absurd (let z : ◌≡◌ {A = ℕ} 0 1 = cc in omega arith)) same h
    where
      same : Voxelled m (inr (v.x, v.y, v.z)) → P r
      same (i, j, k, b, e) =
          let (x, y, z) = same_three v.x v.y v.z i j k e in
          f (rw (← x, ← y, ← z) at b)
