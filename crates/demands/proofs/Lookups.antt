-- Ticket 6: the lookup tells the level of the black leaf or of the largest all-white cell, and of each voxel of that cell it tells the same, in lists and in bits.
-- Assumes nothing.
use mathlib.Core.Path.{◌≡◌, refl, sym, ap, ◌∙◌}
use mathlib.Core.Logic.{inr}
use mathlib.Core.Bool.{Bool, true, false, not-eq-not}
use mathlib.Core.List.{List, [], ◌∷◌, Memᴰ}
use Prim.Native.Nat.{ℕ, ◌-◌, ◌/◌, ◌^◌, ◌<◌, ◌≤◌}
use native.Mathlib.Nat.{div-lt_iff_lt-mul}
use native.Mathlib.Omega.{arith}
use borrow.Author.Tests.{ltb-true, lt-ltb}
use lib.Dec.{ltb}
use Rattle.cells.specs.Answer.{answer, given, deepest, TooDeep}
use Rattle.cells.specs.Cell.{level, side, holds}
use Rattle.cells.specs.Place.{axes, EachAxis, along, number}
use Rattle.cells.specs.declared.Answer.{Answer}
use Rattle.cells.proofs.Bools.{clash, refuted}
use Rattle.cells.proofs.Cells.{level_le}
use Rattle.cells.proofs.Decisions.{passes, Passed, refuses_numbered, decided_passed}
use Rattle.cells.proofs.Places.{each_true, some_false, along_axes, number_lt}
use Rattle.cells.proofs.Power.{pow2_pos, pow_split}
use Rattle.cells.proofs.Views.{cube, from_cube}
use Rattle.records.specs.Record.{black}
use Rattle.records.specs.Count.{bit}
use Rattle.records.specs.Fault.{Faulty}
use Rattle.records.specs.Lookups.{LookupAnswer, NoVoxel, Largest, unseen, seen, SeenIn, LookupOf}
use Rattle.records.proofs.CallLaws.{one_lookup}
use Rattle.records.proofs.First.{faulty_numbered, not_faulty}
use Rattle.records.proofs.Leaves.{leaf_of}
use Rattle.records.proofs.Sizes.{one_largest, leaf_largest, colour_with, largest_with}
use Rattle.plain.specs.Bits.{black_in}
use Rattle.plain.specs.Calls.{deepest_plain, BitsShort, LookupBitsOf}
use Rattle.plain.proofs.BitLaws.{bit_black}
use Rattle.plain.proofs.PlainLaws.{one_lookup_bits}
use Rattle.demands.specs.Laws.{Succeeds}
use Rattle.demands.specs.Lookups.{TellsLeaf, WhiteCell, TellsWhite, OneCell, TellsCell}

-- ---- the test of the voxel

root_each : (D : ℕ) (x : ℕ → ℕ) → ((a : Answer) → NoVoxel D x a → ⊥) → EachAxis (λ a. x a < 2 ^ D)
root_each D x none a h = ltb-true (x a) (2 ^ D) (each_true (λ a. ltb (x a) (2 ^ D)) (not-eq-not.0 (λ out. none (answer 6 0 0) (out, refl))) a h)

root_passes : (D : ℕ) (x : ℕ → ℕ) → EachAxis (λ a. x a < 2 ^ D) → (a : Answer) → NoVoxel D x a → ⊥
root_passes D x root = passes (λ out. let (a, h, f) = some_false (λ a. ltb (x a) (2 ^ D)) out in clash (lt-ltb (x a) (2 ^ D) (root a h)) f)

-- ---- the other voxels of the cell

module _ (D : ℕ) (P : ℕ → Bool) (x x' : ℕ → ℕ) (k : ℕ) (t : Largest D P (number D (x 0) (x 1) (x 2)) k) (root : EachAxis (λ a. x a < 2 ^ D)) (near : OneCell D k x x') where
  levels : k ≤ D
  levels = omega (arith, level_le D t.cell, t.is_level)

  pub other_root : EachAxis (λ a. x' a < 2 ^ D)
  other_root a h =
      let whole = pow_split 2 levels in
      let below : x a / 2 ^ (D - k) < 2 ^ k = (div-lt_iff_lt-mul (pow2_pos (D - k))).1 (omega (arith, root a h)) in
      omega (arith, (div-lt_iff_lt-mul {k = 2 ^ (D - k)} {x = x' a} {y = 2 ^ k} (pow2_pos (D - k))).0 (omega (arith, near a h)))

  other_held : holds D t.cell (number D (x' 0) (x' 1) (x' 2)) ≡ true
  unfolding side
  other_held =
      let own = t.one_colour in
      from_cube D t.cell own.is_proper _ (number_lt D (x' 0) (x' 1) (x' 2))
      (λ a h.
      let e : along (2 ^ a) D (number D (x' 0) (x' 1) (x' 2)) / 2 ^ (D - k) ≡ along (2 ^ a) D (number D (x 0) (x 1) (x 2)) / 2 ^ (D - k) = rw (along_axes D x' other_root a h, along_axes D x root a h) (near a h) in
      rw (← t.is_level) at e ∙ cube D t.cell own.is_proper (2 ^ a) _ own.held)

  -- the same is told of them
  pub other_seen : (r : LookupAnswer) → r ≡ seen (P (number D (x 0) (x 1) (x 2))) k → SeenIn D P (number D (x' 0) (x' 1) (x' 2)) r
  other_seen r is = (k, largest_with t _ other_held, is ∙ ap (λ (b : Bool). seen b k) (sym (colour_with t _ other_held)))

-- ---- lists

-- a lookup that succeeded has passed its tests
module _ (D : ℕ) (l : List ℕ) (x y z : ℕ) (r : LookupAnswer) (told : LookupOf D l x y z r) (ok : Succeeds r.answer) where
  abbrev v : ℕ
  v = number D x y z

  pub past : Passed (TooDeep deepest D ∷ Faulty D l 1 ∷ NoVoxel D (axes x y z) ∷ []) × SeenIn D (black D l) v r
  past =
      decided_passed (λ f. f.answer.number) unseen (λ a. refl) (TooDeep deepest D ∷ Faulty D l 1 ∷ NoVoxel D (axes x y z) ∷ []) (SeenIn D (black D l) v) r
      (refuses_numbered (λ e. omega arith), (faulty_numbered D l 1, (refuses_numbered (λ e. omega arith), tt))) ok told

  level_told : (k : ℕ) → r ≡ seen (black D l v) k → r.level ≡ k
  level_told k is = ap (λ (f : LookupAnswer). f.level) is

  colour_told : (k n : ℕ) → r ≡ seen (black D l v) k → r.answer ≡ given n → bit (black D l v) ≡ n
  colour_told k n is given-n = ap (λ (f : LookupAnswer). f.answer.place) (sym is) ∙ ap (λ (a : Answer). a.place) given-n

  leaf_told : r.answer ≡ given 1 → (c : ℕ) × Memᴰ c l × (holds D c v ≡ true) × (r.level ≡ level D c)
  leaf_told one =
      let ((_, (clean, _)), (k, largest, is)) = past in
      let (c, m, h) = leaf_of D l v ((bit_black (black D l v)).0 (colour_told k 1 is one)) in
      (c, m, h, level_told k is ∙ one_largest k (level D c) largest (leaf_largest D l (not_faulty D l 1 clean) v c m h))

  white_told : r.answer ≡ given 0 → ((c : ℕ) × WhiteCell D l v c × (r.level ≡ level D c)) × ((c : ℕ) → WhiteCell D l v c → r.level ≤ level D c)
  white_told none =
      let (_, (k, largest, is)) = past in
      let white : black D l v ≡ false = refuted (black D l v) (λ dark. let e = (bit_black (black D l v)).1 dark in omega (arith, colour_told k 0 is none)) in
      let own = largest.one_colour in (
        (largest.cell, record { is_proper = own.is_proper; held = own.held; white = λ u h. own.colour u h ∙ white }, level_told k is ∙ sym largest.is_level),
        λ c w. omega (arith, level_told k is, largest.none_larger c (record { is_proper = w.is_proper; held = w.held; colour = λ u h. w.white u h ∙ sym white })),
      )

pub tells_leaf : TellsLeaf LookupOf
tells_leaf D l x y z r told one = leaf_told D l x y z r told (ap (λ (a : Answer). a.number) one) one

pub tells_white : TellsWhite LookupOf
tells_white D l x y z r told none = white_told D l x y z r told (ap (λ (a : Answer). a.number) none) none

pub tells_cell : TellsCell LookupOf
tells_cell D l x y z r told ok x' y' z' near s told' =
    let ((deep, (clean, (inside, _))), (k, largest, is)) = past D l x y z r told ok in
    let root = root_each D (axes x y z) inside in
    let near' : OneCell D k (axes x y z) (axes x' y' z') = rw (level_told D l x y z r told ok k is) at near in
    one_lookup D l x' y' z' s r told'
    (inr (deep, inr (clean, inr (root_passes D (axes x' y' z') (other_root D (black D l) (axes x y z) (axes x' y' z') k largest root near'), other_seen D (black D l) (axes x y z) (axes x' y' z') k largest root near' r is))))

-- ---- bits

pub tells_cell_bits : TellsCell LookupBitsOf
tells_cell_bits D b x y z r told ok x' y' z' near s told' =
    let ((deep, (inside, (long, _))), (k, largest, is)) = decided_passed (λ f. f.answer.number) unseen (λ a. refl) (TooDeep deepest_plain D ∷ NoVoxel D (axes x y z) ∷ BitsShort D b ∷ []) (SeenIn D (black_in D b) (number D x y z)) r (refuses_numbered (λ e. omega arith), (refuses_numbered (λ e. omega arith), (refuses_numbered (λ e. omega arith), tt))) ok told in
    let root = root_each D (axes x y z) inside in
    let near' : OneCell D k (axes x y z) (axes x' y' z') = rw (ap (λ (f : LookupAnswer). f.level) is) at near in
    one_lookup_bits D b x' y' z' s r told'
    (inr (deep, inr (root_passes D (axes x' y' z') (other_root D (black_in D b) (axes x y z) (axes x' y' z') k largest root near'), inr (long, other_seen D (black_in D b) (axes x y z) (axes x' y' z') k largest root near' r is))))
