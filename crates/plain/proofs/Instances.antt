-- Answers of the plain engine's calls that fit their definitions at named inputs, and answers that do not. Assumes nothing.
use mathlib.Core.Path.{◌≡◌, refl, sym, ap, ◌∙◌, subst}
use mathlib.Core.Logic.{◌↔◌, inl, inr}
use mathlib.Core.Bool.{Bool, true, false, not, ◌&&◌}
use mathlib.Core.List.{List, [], ◌∷◌}
use Prim.Native.Nat.{ℕ, zero, suc, ◌*◌, ◌/◌, ◌^◌, ◌<◌, ◌≤◌, zero-le}
use native.Mathlib.Omega.{arith}
use borrow.Author.Tests.{ltb-true, eqb-true, lt-ltb, le-ltb}
use lib.Dec.{lit<, lit≤, ltb, eqb}
use lib.IntN.{ℤ, pos, neg_ℤ}
use lib.ListN.{length, get_or, take}
use lib.Seq.{take-length}
use Rattle.cells.specs.Answer.{answer, given}
use Rattle.cells.specs.Cell.{level, index, span, start, holds}
use Rattle.cells.specs.Place.{axes, along, number, Came}
use Rattle.cells.specs.declared.Answer.{Answer}
use Rattle.cells.proofs.Bools.{both_true, clash}
use Rattle.cells.proofs.Decisions.{passes, passes_first, deep_enough}
use Rattle.cells.proofs.Places.{each_axis}
use Rattle.records.specs.Record.{black, Good, ListOf}
use Rattle.records.specs.Carried.{FromBlack}
use Rattle.records.specs.Count.{bit}
use Rattle.records.specs.Fault.{all_from}
use Rattle.records.specs.Gap.{Free}
use Rattle.records.specs.Lookups.{LookupAnswer, unseen, seen}
use Rattle.records.specs.Writing.{stands}
use Rattle.records.proofs.Fill.{all_true, upto, leaves, good_list, is_good}
use Rattle.records.proofs.First.{good_passes}
use Rattle.records.proofs.OneList.{good_list_lem}
use Rattle.records.proofs.Sizes.{free_largest}
use Rattle.records.proofs.Writing.{writes_fitting, too_short}
use Rattle.sets.specs.Inner.{chosen}
use Rattle.sets.specs.declared.Op.{Op}
use Rattle.sets.specs.declared.Op.TheVariants.{Join, Intersect, Subtract}
use Rattle.sets.proofs.Pieces.{chosen_exactly}
use Rattle.metres.specs.declared.Move.TheVariants.{Voxels}
use Rattle.plain.specs.Bits.{bytes_for, bit_at, black_in, BitsOf}
use Rattle.plain.specs.Calls.{deepest_plain, ToBitsOf, ToListOf, SetBitsOf, Leaves, MoveBitsOf, LookupBitsOf}
use Rattle.plain.proofs.BitLaws.{bytes_enough, bit_black, front_bits}
use Rattle.plain.proofs.Voxels.{black_in_lem, comes_to_of, comes_to, colour_from, moved_exactly}
use Rattle.plain.proofs.PlainLaws.{one_to_bits, one_to_list, one_set_bits, one_move_bits, one_lookup_bits}

-- ---- bits computed: Q is the voxels' colours

-- whether t has the bytes of depth D, and the colours in its bits
unfoldable right : ℕ → (ℕ → Bool) → List ℕ → Bool
right D Q t =
    eqb (length t) (bytes_for D)
    && (all_from (λ i. ltb (get_or t i 0) 256) 0 (bytes_for D) && all_from (λ u. eqb (bit_at t u) (bit (ltb u (8 ^ D) && Q u))) 0 (8 * bytes_for D))

module _ (D : ℕ) (Q : ℕ → Bool) (P : ℕ → Type 0) (exactly : (v : ℕ) → v < 8 ^ D → (Q v ≡ true) ↔ P v) (t : List ℕ) (is : right D Q t ≡ true) where
  size : length t ≡ bytes_for D
  unfolding right
  size = eqb-true (length t) (bytes_for D) (both_true (eqb (length t) (bytes_for D)) _ is).0

  small : (i : ℕ) → i < bytes_for D → get_or t i 0 < 256
  unfolding right
  small i h =
      let (a, _) = both_true (all_from (λ i. ltb (get_or t i 0) 256) 0 (bytes_for D)) _ (both_true (eqb (length t) (bytes_for D)) _ is).1 in
      ltb-true (get_or t i 0) 256 (all_true (λ i. ltb (get_or t i 0) 256) 0 (bytes_for D) a i zero-le (omega arith))

  colour : (u : ℕ) → u < 8 * bytes_for D → bit_at t u ≡ bit (ltb u (8 ^ D) && Q u)
  unfolding right
  colour u h =
      let (_, b) = both_true (all_from (λ i. ltb (get_or t i 0) 256) 0 (bytes_for D)) (all_from (λ u. eqb (bit_at t u) (bit (ltb u (8 ^ D) && Q u))) 0 (8 * bytes_for D)) (both_true (eqb (length t) (bytes_for D)) _ is).1 in
      eqb-true (bit_at t u) _ (all_true (λ u. eqb (bit_at t u) (bit (ltb u (8 ^ D) && Q u))) 0 (8 * bytes_for D) b u zero-le (omega arith))

  bits_computed : BitsOf D P t
  bits_computed =
      subst (BitsOf D P) (ap (λ (n : ℕ). take n t) (sym size) ∙ take-length t)
      (front_bits D P t (omega (arith, size)) (λ i h. small i (omega (arith, bytes_enough D)))
      (λ u h.
      let e : bit_at t u ≡ bit (Q u) = colour u (omega (arith, bytes_enough D)) ∙ ap (λ (c : Bool). bit (c && Q u)) (lt-ltb u (8 ^ D) h) in
      (λ k. (exactly u h).0 ((bit_black (Q u)).0 (sym e ∙ k)), λ p. e ∙ (bit_black (Q u)).1 ((exactly u h).1 p)))
      (λ u h k. colour u (omega (arith, bytes_enough D)) ∙ ap (λ (c : Bool). bit (c && Q u)) (le-ltb u (8 ^ D) h)))

-- where P is the colours themselves
own_bits : (D : ℕ) (Q : ℕ → Bool) (t : List ℕ) → right D Q t ≡ true → BitsOf D (λ v. Q v ≡ true) t
own_bits D Q = bits_computed D Q (λ v. Q v ≡ true) (λ v h. (λ e. e, λ e. e))

-- the first byte of what is left
abbrev front_byte : Answer × List ℕ → ℕ
front_byte t = get_or t.1 0 0

-- ---- to_bits: at depth 1 the list r0, r3 is the byte 1 + 8; the second byte stays as it was

good_r0_r3 : Good 1 (8 ∷ 11 ∷ [])
unfolding level index span start holds black all_from upto leaves good_list
good_r0_r3 = subst (Good 1) {y = 8 ∷ 11 ∷ []} refl (is_good 1 (black 1 (8 ∷ 11 ∷ [])))

bits_r0_r3 : BitsOf 1 (λ v. black 1 (8 ∷ 11 ∷ []) v ≡ true) (9 ∷ [])
unfolding level index span start holds black all_from right bytes_for bit_at
bits_r0_r3 = own_bits 1 (black 1 (8 ∷ 11 ∷ [])) (9 ∷ []) refl

pub to_bits_holds : ToBitsOf 1 (8 ∷ 11 ∷ []) (255 ∷ 7 ∷ []) (given 1) (9 ∷ 7 ∷ [])
unfolding bytes_for
to_bits_holds = inr (passes (deep_enough (omega arith)), inr (good_passes 1 (8 ∷ 11 ∷ []) 1 good_r0_r3, inr (passes (λ short. omega arith), (9 ∷ [], bits_r0_r3, refl))))

-- not with the highest bit first: 128 + 16
pub to_bits_fails : ToBitsOf 1 (8 ∷ 11 ∷ []) (255 ∷ 7 ∷ []) (given 1) (144 ∷ 7 ∷ []) → ⊥
to_bits_fails h = let e : ◌≡◌ {A = ℕ} 144 9 = ap front_byte (one_to_bits 1 (8 ∷ 11 ∷ []) (255 ∷ 7 ∷ []) _ _ h to_bits_holds) in omega arith

-- at depth 0 the spare bits are written 0
good_root : Good 0 (1 ∷ [])
unfolding level index span start holds black all_from upto leaves good_list
good_root = subst (Good 0) {y = 1 ∷ []} refl (is_good 0 (black 0 (1 ∷ [])))

bits_root : BitsOf 0 (λ v. black 0 (1 ∷ []) v ≡ true) (1 ∷ [])
unfolding level index span start holds black all_from right bytes_for bit_at
bits_root = own_bits 0 (black 0 (1 ∷ [])) (1 ∷ []) refl

pub to_bits_spare : ToBitsOf 0 (1 ∷ []) (255 ∷ []) (given 1) (1 ∷ [])
unfolding bytes_for
to_bits_spare = inr (passes (deep_enough (omega arith)), inr (good_passes 0 (1 ∷ []) 1 good_root, inr (passes (λ short. omega arith), (1 ∷ [], bits_root, refl))))

-- no byte: 8, with the byte needed
pub to_bits_crowded : ToBitsOf 1 (8 ∷ 11 ∷ []) [] (answer 8 1 0) []
unfolding bytes_for
to_bits_crowded = inr (passes (deep_enough (omega arith)), inr (good_passes 1 (8 ∷ 11 ∷ []) 1 good_r0_r3, inl (answer 8 1 0, (omega arith, refl), refl)))

-- depth 7 is refused
pub to_bits_refuses : (l o : List ℕ) → ToBitsOf 7 l o (answer 1 0 0) o
to_bits_refuses l o = inl (answer 1 0 0, (omega arith, refl), refl)

-- ---- to_list: the byte 9 is r0, r3 again; at depth 0 the spare bits are not read, so 254 is white

listed : (D : ℕ) (b l o : List ℕ) → D ≤ deepest_plain → bytes_for D ≤ length b → good_list D (black_in D b) ≡ l → length l ≤ length o → ToListOf D b o (given (length l)) (stands l o)
listed D b l o h long is room =
    inr (passes (deep_enough h), inr (passes (λ short. omega arith), (l, subst (ListOf D (λ v. black_in D b v ≡ true)) is (good_list_lem D (black_in D b)), writes_fitting l o room)))

pub to_list_holds : ToListOf 1 (9 ∷ []) (7 ∷ 7 ∷ 7 ∷ []) (given 2) (8 ∷ 11 ∷ 7 ∷ [])
unfolding level index span start holds black all_from upto leaves good_list bytes_for bit_at black_in
to_list_holds = listed 1 (9 ∷ []) (8 ∷ 11 ∷ []) (7 ∷ 7 ∷ 7 ∷ []) (omega arith) (omega arith) refl (omega arith)

pub to_list_spare : ToListOf 0 (254 ∷ []) (7 ∷ []) (given 0) (7 ∷ [])
unfolding level index span start holds black all_from upto leaves good_list bytes_for bit_at black_in
to_list_spare = listed 0 (254 ∷ []) [] (7 ∷ []) (omega arith) (omega arith) refl (omega arith)

-- no place for a leaf: 8, with the leaves needed; no bits: 8, with the byte needed
pub to_list_crowded : ToListOf 1 (9 ∷ []) [] (answer 8 2 0) []
unfolding level index span start holds black all_from upto leaves good_list bytes_for bit_at black_in
to_list_crowded =
    inr (
      passes (deep_enough (omega arith)),
      inr (
        passes (λ short. omega arith),
        (8 ∷ 11 ∷ [], subst (ListOf 1 (λ v. black_in 1 (9 ∷ []) v ≡ true)) {y = 8 ∷ 11 ∷ []} refl (good_list_lem 1 (black_in 1 (9 ∷ []))), too_short (8 ∷ 11 ∷ []) [] 2 refl _ _ (omega arith) refl refl),
      ),
    )

pub to_list_short : (o : List ℕ) → ToListOf 1 [] o (answer 8 1 0) o
unfolding bytes_for
to_list_short o = inr (passes (deep_enough (omega arith)), inl (answer 8 1 0, (omega arith, refl), refl))

-- not the root, which a spare bit would give
pub to_list_fails : ToListOf 0 (254 ∷ []) (7 ∷ []) (given 1) (1 ∷ []) → ⊥
to_list_fails h = let e : ◌≡◌ {A = ℕ} 1 0 = ap (λ (t : Answer × List ℕ). t.0.place) (one_to_list 0 (254 ∷ []) (7 ∷ []) _ _ h to_list_spare) in omega arith

-- ---- join, intersection and difference at depth 1

made : (op : Op) (a b t o : List ℕ) → 1 ≤ length a → 1 ≤ length b → 1 ≤ length o → right 1 (λ v. chosen op (black_in 1 a v) (black_in 1 b v)) t ≡ true → SetBitsOf op 1 a b o (given (length t)) (stands t o)
unfolding bytes_for
made op a b t o k l m is =
    inr (
      passes (deep_enough (omega arith)),
      inr (
        passes (λ short. omega arith),
        inr (
          passes (λ short. omega arith),
          inr (
            passes (λ short. omega arith),
            (t, bits_computed 1 (λ v. chosen op (black_in 1 a v) (black_in 1 b v)) _ (λ v h. chosen_exactly op (black_in 1 a v) (black_in 1 b v)) t is, refl),
          ),
        ),
      ),
    )

pub join_bits_holds : SetBitsOf Join 1 (9 ∷ []) (3 ∷ []) (0 ∷ 7 ∷ []) (given 1) (11 ∷ 7 ∷ [])
unfolding all_from right bytes_for bit_at black_in
join_bits_holds = made Join (9 ∷ []) (3 ∷ []) (11 ∷ []) (0 ∷ 7 ∷ []) (omega arith) (omega arith) (omega arith) refl

pub subtract_bits_holds : SetBitsOf Subtract 1 (9 ∷ []) (3 ∷ []) (0 ∷ 7 ∷ []) (given 1) (8 ∷ 7 ∷ [])
unfolding all_from right bytes_for bit_at black_in
subtract_bits_holds = made Subtract (9 ∷ []) (3 ∷ []) (8 ∷ []) (0 ∷ 7 ∷ []) (omega arith) (omega arith) (omega arith) refl

pub intersect_bits_holds : SetBitsOf Intersect 1 (9 ∷ []) (3 ∷ []) (0 ∷ 7 ∷ []) (given 1) (1 ∷ 7 ∷ [])
unfolding all_from right bytes_for bit_at black_in
intersect_bits_holds = made Intersect (9 ∷ []) (3 ∷ []) (1 ∷ []) (0 ∷ 7 ∷ []) (omega arith) (omega arith) (omega arith) refl

-- the intersection is not the second, and the difference not that the other way round
pub intersect_bits_fails : SetBitsOf Intersect 1 (9 ∷ []) (3 ∷ []) (0 ∷ 7 ∷ []) (given 1) (3 ∷ 7 ∷ []) → ⊥
intersect_bits_fails h = let e : ◌≡◌ {A = ℕ} 3 1 = ap front_byte (one_set_bits Intersect 1 (9 ∷ []) (3 ∷ []) (0 ∷ 7 ∷ []) _ _ h intersect_bits_holds) in omega arith

pub subtract_bits_fails : SetBitsOf Subtract 1 (9 ∷ []) (3 ∷ []) (0 ∷ 7 ∷ []) (given 1) (2 ∷ 7 ∷ []) → ⊥
subtract_bits_fails h = let e : ◌≡◌ {A = ℕ} 2 8 = ap front_byte (one_set_bits Subtract 1 (9 ∷ []) (3 ∷ []) (0 ∷ 7 ∷ []) _ _ h subtract_bits_holds) in omega arith

-- no bits: 8, with the byte needed
pub set_bits_short : (op : Op) (b o : List ℕ) → SetBitsOf op 1 [] b o (answer 8 1 0) o
unfolding bytes_for
set_bits_short op b o = inr (passes (deep_enough (omega arith)), inl (answer 8 1 0, (omega arith, refl), refl))

-- ---- moves at depth 1: r0 by one along x is r1; of r1 and r2, r1 leaves

abbrev one_x : ℕ → ℤ
one_x = axes (pos 1) (pos 0) (pos 0)

moved_r0 : BitsOf 1 (FromBlack (Came 1 one_x) (black_in 1 (1 ∷ []))) (2 ∷ [])
unfolding along number all_from right bytes_for bit_at black_in comes_to_of
moved_r0 = bits_computed 1 (λ v. colour_from 1 (1 ∷ []) (comes_to_of 1 (λ a. neg_ℤ (one_x a)) v)) _ (moved_exactly 1 one_x (1 ∷ [])) (2 ∷ []) refl

-- r0 stays, and no other voxel is black
white_rest : (u : ℕ) → 1 ≤ u → u < 8 → bit_at (1 ∷ []) u ≡ 0
unfolding all_from bit_at
white_rest u h k = eqb-true (bit_at (1 ∷ []) u) 0 (all_true (λ v. eqb (bit_at (1 ∷ []) v) 0) 1 7 refl u h (omega arith))

stays_r0 : (u : ℕ) → u < 8 → Leaves (Came 1 one_x) (black_in 1 (1 ∷ [])) u → ⊥
unfolding along number bit_at black_in comes_to_of
stays_r0 zero h (dark, none) = none 1 (comes_to 1 one_x 0)
stays_r0 (suc u) h (dark, none) = let e : ◌≡◌ {A = ℕ} 1 0 = sym ((black_in_lem 1 (1 ∷ []) (suc u)).0 dark).1 ∙ white_rest (suc u) (omega arith) h in omega arith

pub move_bits_holds : MoveBitsOf 1 (1 ∷ []) (Voxels (pos 1) (pos 0) (pos 0)) (0 ∷ 7 ∷ []) (given 1) (2 ∷ 7 ∷ [])
unfolding bytes_for
move_bits_holds =
    inr (
      passes (deep_enough (omega arith)),
      (
        pos 1,
        pos 0,
        pos 0,
        each_axis _ refl refl refl,
        inr (passes (λ short. omega arith), inr (passes (λ short. omega arith), inr (passes_first stays_r0, (2 ∷ [], moved_r0, refl)))),
      ),
    )

-- not r4, where y and z would be exchanged with x
pub move_bits_fails : MoveBitsOf 1 (1 ∷ []) (Voxels (pos 1) (pos 0) (pos 0)) (0 ∷ 7 ∷ []) (given 1) (16 ∷ 7 ∷ []) → ⊥
move_bits_fails h = let e : ◌≡◌ {A = ℕ} 16 2 = ap front_byte (one_move_bits 1 (1 ∷ []) (Voxels (pos 1) (pos 0) (pos 0)) (0 ∷ 7 ∷ []) _ _ h move_bits_holds) in omega arith

-- the voxel 1 is the first that leaves
leaves_r1 : Leaves (Came 1 one_x) (black_in 1 (6 ∷ [])) 1
unfolding along number bit_at black_in comes_to_of
leaves_r1 = (refl, comes_to 1 one_x 1)

white_r0 : (j : ℕ) → j < 1 → Leaves (Came 1 one_x) (black_in 1 (6 ∷ [])) j → ⊥
unfolding bit_at black_in
white_r0 zero h (dark, _) = clash dark refl
white_r0 (suc j) h _ = absurd (omega arith)

pub move_bits_strays : (c : ℕ) (o : List ℕ) → MoveBitsOf 1 (6 ∷ []) (Voxels (pos 1) (pos 0) (pos 0)) (c ∷ o) (answer 7 1 1) (c ∷ o)
unfolding bytes_for
move_bits_strays c o =
    inr (
      passes (deep_enough (omega arith)),
      (
        pos 1,
        pos 0,
        pos 0,
        each_axis _ refl refl refl,
        inr (passes (λ short. omega arith), inr (passes (λ short. omega arith), inl (answer 7 1 1, (1, record { below = omega arith; here = leaves_r1; before = white_r0 }, refl), refl))),
      ),
    )

-- no bits: 8 before 7
pub move_bits_short : (o : List ℕ) → MoveBitsOf 1 [] (Voxels (pos 1) (pos 0) (pos 0)) o (answer 8 1 0) o
unfolding bytes_for
move_bits_short o =
    inr (passes (deep_enough (omega arith)), (pos 1, pos 0, pos 0, each_axis _ refl refl refl, inl (answer 8 1 0, (omega arith, refl), refl)))

-- ---- lookups in the byte 9: the voxel (1, 1, 0) is the number 3, black and alone in its colour but for the voxel 0

r3_free : Free 1 3 0 (λ u. black_in 1 (9 ∷ []) u ≡ not (black_in 1 (9 ∷ []) 3))
unfolding bit_at black_in
r3_free = record { levels = lit≤ tt; none = none; some = λ h. (1, refl, refl) }
  where
    none : (u : ℕ) → u / 8 ^ 0 ≡ 3 / 8 ^ 0 → black_in 1 (9 ∷ []) u ≡ false → ⊥
    none u e white = let is : u ≡ 3 = omega arith in clash refl (rw is at white)

pub lookup_bits_holds : LookupBitsOf 1 (9 ∷ []) 1 1 0 (seen true 1)
unfolding number bytes_for bit_at black_in
lookup_bits_holds =
    inr (passes (deep_enough (omega arith)), inr (passes (λ out. clash refl out), inr (passes (λ short. omega arith), (1, free_largest 1 (black_in 1 (9 ∷ [])) 3 0 (lit< tt) r3_free, refl))))

pub lookup_bits_fails : (k : ℕ) → LookupBitsOf 1 (9 ∷ []) 1 1 0 (seen false k) → ⊥
lookup_bits_fails k h = let e : ◌≡◌ {A = ℕ} 0 1 = ap (λ (r : LookupAnswer). r.answer.place) (one_lookup_bits 1 (9 ∷ []) 1 1 0 _ _ h lookup_bits_holds) in omega arith

-- the level of the root does not fit either
pub lookup_bits_level_fails : LookupBitsOf 1 (9 ∷ []) 1 1 0 (seen true 0) → ⊥
lookup_bits_level_fails h = let e : ◌≡◌ {A = ℕ} 0 1 = ap (λ (r : LookupAnswer). r.level) (one_lookup_bits 1 (9 ∷ []) 1 1 0 _ _ h lookup_bits_holds) in omega arith

-- outside the root, before the bits are looked at
pub lookup_bits_refuses : (b : List ℕ) → LookupBitsOf 1 b 2 0 0 (unseen (answer 6 0 0))
lookup_bits_refuses b = inr (passes (deep_enough (omega arith)), inl (answer 6 0 0, (refl, refl), refl))
