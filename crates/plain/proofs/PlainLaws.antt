-- What follows of the plain engine's calls: no second answer fits, and what success says. Assumes nothing.
use mathlib.Core.Path.{◌≡◌, refl, sym, ap, ap₂, ◌∙◌}
use mathlib.Core.Logic.{◌↔◌}
use mathlib.Core.Bool.{true}
use mathlib.Core.List.{List, [], ◌∷◌}
use Prim.Native.Nat.{ℕ, ◌/◌, ◌^◌, ◌<◌, ◌≤◌}
use native.Mathlib.Omega.{arith}
use lib.IntN.{ℤ}
use lib.ListN.{length, take}
use lib.Seq.{get_or-take}
use Rattle.cells.specs.Answer.{answer, given, Test, Decided, keeping, TooDeep}
use Rattle.cells.specs.Place.{axes, Came}
use Rattle.cells.specs.declared.Answer.{Answer}
use Rattle.cells.proofs.Decisions.{One, Numbered, one_refuses, one_refuses_first, one_decided, passes, shallow_enough, refuses_numbered, refuses_first_numbered, decided_passed}
use Rattle.records.specs.Record.{black, Good}
use Rattle.records.specs.Fault.{Faulty}
use Rattle.records.specs.Lookups.{NoVoxel, unseen}
use Rattle.records.specs.Carried.{FromBlack}
use Rattle.records.specs.Writing.{stands, TooShort, WritesListOf}
use Rattle.records.proofs.First.{not_faulty, faulty_numbered}
use Rattle.records.proofs.Sizes.{one_seen}
use Rattle.records.proofs.Fronts.{Front, Written, left_front, ListSuccess, list_success}
use Rattle.emit.proofs.Answers.{one_list_written}
use Rattle.sets.specs.Sets.{Chosen}
use Rattle.sets.specs.declared.Op.{Op}
use Rattle.metres.specs.Metres.{move_tests, Becomes}
use Rattle.metres.specs.declared.Move.{Move}
use Rattle.metres.proofs.TakenLaws.{one_move_tests, move_tests_numbered}
use Rattle.moves.specs.Moves.{ByVoxels}
use Rattle.moves.proofs.MoveLaws.{one_by_voxels}
use Rattle.plain.specs.Bits.{bytes_for, bit_at, black_in, BitsOf}
use Rattle.plain.specs.Calls.{deepest_plain, BitsShort, GivesBits, ToBitsOf, ToListOf, SetBitsOf, Leaving, ShiftBitsOf, MoveBitsOf, LookupBitsOf}
use Rattle.plain.specs.Inner.{Painted}
use Rattle.plain.proofs.BitLaws.{bytes_enough, same_byte, one_bits}
use Rattle.plain.proofs.Voxels.{black_in_lem}

-- ---- the answers worked out: n is the bytes needed

module _ (D : ℕ) (n : ℕ) (is : n ≡ bytes_for D) where
  -- a buffer that is long enough
  pub bits_long : (b : List ℕ) → n ≤ length b → (a : Answer) → BitsShort D b a → ⊥
  bits_long b h = passes (λ short. omega arith)

  -- what is painted is told
  pub gives_painted : {P : ℕ → Type 0} {o o' : List ℕ} {r : Answer} → Painted D P o o' → r ≡ given n → GivesBits D P o (r, o')
  gives_painted (t, x, e) f = (t, x, ap₂ (λ (a : Answer) (l : List ℕ). (a, l)) (f ∙ ap given (is ∙ sym x.size)) e)

-- ---- no second answer

one_gives_bits : (D : ℕ) (P : ℕ → Type 0) (o : List ℕ) → One (GivesBits D P o)
one_gives_bits D P o r s (t, x, e) (t', y, f) = e ∙ ap (λ (m : List ℕ). (given (length m), stands m o)) (one_bits D P t t' x y) ∙ sym f

pub one_to_bits : (D : ℕ) (l o : List ℕ) → One (λ (t : Answer × List ℕ). ToBitsOf D l o t.0 t.1)
one_to_bits D l o = one_decided (keeping o) (TooDeep deepest_plain D ∷ Faulty D l 1 ∷ BitsShort D o ∷ []) _ (one_refuses, (one_refuses_first, (one_refuses, tt))) (one_gives_bits D _ o)

pub one_to_list : (D : ℕ) (b o : List ℕ) → One (λ (t : Answer × List ℕ). ToListOf D b o t.0 t.1)
one_to_list D b o = one_decided (keeping o) (TooDeep deepest_plain D ∷ BitsShort D b ∷ []) _ (one_refuses, (one_refuses, tt)) (one_list_written D _ o)

pub one_set_bits : (op : Op) (D : ℕ) (a b o : List ℕ) → One (λ (t : Answer × List ℕ). SetBitsOf op D a b o t.0 t.1)
one_set_bits op D a b o =
    one_decided (keeping o) (TooDeep deepest_plain D ∷ BitsShort D a ∷ BitsShort D b ∷ BitsShort D o ∷ []) _ (one_refuses, (one_refuses, (one_refuses, (one_refuses, tt)))) (one_gives_bits D _ o)

pub one_shift_bits : (D : ℕ) (b o : List ℕ) (d : ℕ → ℤ) → One (ShiftBitsOf D b o d)
one_shift_bits D b o d =
    one_decided (keeping o) (BitsShort D b ∷ BitsShort D o ∷ Leaving D (Came D d) (black_in D b) ∷ []) _ (one_refuses, (one_refuses, (one_refuses_first, tt))) (one_gives_bits D _ o)

pub one_move_bits : (D : ℕ) (b : List ℕ) (m : Move) (o : List ℕ) → One (λ (t : Answer × List ℕ). MoveBitsOf D b m o t.0 t.1)
one_move_bits D b m o =
    one_decided (keeping o) (TooDeep deepest_plain D ∷ move_tests m) _ (one_refuses, one_move_tests m) (one_by_voxels m (ShiftBitsOf D b o) (one_shift_bits D b o))

pub one_lookup_bits : (D : ℕ) (b : List ℕ) (x y z : ℕ) → One (LookupBitsOf D b x y z)
one_lookup_bits D b x y z = one_decided unseen (TooDeep deepest_plain D ∷ NoVoxel D (axes x y z) ∷ BitsShort D b ∷ []) _ (one_refuses, (one_refuses, (one_refuses, tt))) one_seen

-- ---- what success says: the bits stand at the front of the buffer, and the buffer's voxels are those that have P

pub record BitsSuccess (D : ℕ) (P : ℕ → Type 0) (o : List ℕ) (r : Answer) (after : List ℕ) : Type 0 where
  pub made : List ℕ
  pub is_bits : BitsOf D P made
  pub is_left : Written made o r after
  pub front : Front made r.place after
  pub colours : (v : ℕ) → v < 8 ^ D → (black_in D after v ≡ true) ↔ P v

pub bits_success : (D : ℕ) (P : ℕ → Type 0) (o : List ℕ) (r : Answer) (after : List ℕ) → GivesBits D P o (r, after) → BitsSuccess D P o r after
bits_success D P o r after (t, x, e) = record { made = t; is_bits = x; is_left = e; front = front; colours = colours }
  where
    front : Front t r.place after
    front = left_front t o r after e

    -- a voxel's bit is one of those written
    same : (v : ℕ) → v < 8 ^ D → bit_at t v ≡ bit_at after v
    same v h =
        let within : v / 8 < r.place = omega (arith, bytes_enough D, x.size, front.is_length) in
        ap (λ (m : List ℕ). bit_at m v) (sym front.is_front) ∙ same_byte (take r.place after) after v (get_or-take r.place after (v / 8) 0 within)

    colours : (v : ℕ) → v < 8 ^ D → (black_in D after v ≡ true) ↔ P v
    colours v h = (
      λ b. ((x.exactly v).0 (same v h ∙ ((black_in_lem D after v).0 b).1)).1,
      λ p. (black_in_lem D after v).1 (h, sym (same v h) ∙ (x.exactly v).1 (h, p)),
    )

-- a buffer that is not too short
long_enough : (n : ℕ) (b : List ℕ) → ((a : Answer) → TooShort n b a → ⊥) → n ≤ length b
long_enough n b none = let h : length b < n → ⊥ = λ g. none (answer 8 n 0) (g, refl) in omega arith

-- past the tests of a call
module _ (o : List ℕ) (r : Answer) (after : List ℕ) where
  passed : (Fs : List Test) (P : Answer × List ℕ → Type 0) → Numbered Fs → Decided (keeping o) Fs P (r, after) → r.number ≡ 0 → P (r, after)
  passed Fs P numbered d z = (decided_passed (λ t. t.0.number) (keeping o) (λ x. refl) Fs P (r, after) numbered z d).1

  pub to_bits_success : (D : ℕ) (l : List ℕ) → ToBitsOf D l o r after → r.number ≡ 0 → (D ≤ deepest_plain) × Good D l × BitsSuccess D (λ v. black D l v ≡ true) o r after
  to_bits_success D l d z =
      let ((deep, (first, _)), w) = decided_passed (λ t. t.0.number) (keeping o) (λ x. refl) (TooDeep deepest_plain D ∷ Faulty D l 1 ∷ BitsShort D o ∷ []) (GivesBits D (λ v. black D l v ≡ true) o) (r, after)
      (refuses_numbered (λ x. omega arith), (faulty_numbered D l 1, (refuses_numbered (λ x. omega arith), tt))) z d in
      (shallow_enough deep, not_faulty D l 1 first, bits_success D (λ v. black D l v ≡ true) o r after w)

  pub to_list_success : (D : ℕ) (b : List ℕ) → ToListOf D b o r after → r.number ≡ 0 → (D ≤ deepest_plain) × (bytes_for D ≤ length b) × ListSuccess D (λ v. black_in D b v ≡ true) o r after
  to_list_success D b d z =
      let ((deep, (short, _)), w) = decided_passed (λ t. t.0.number) (keeping o) (λ x. refl) (TooDeep deepest_plain D ∷ BitsShort D b ∷ []) (WritesListOf D (λ v. black_in D b v ≡ true) o) (r, after)
      (refuses_numbered (λ x. omega arith), (refuses_numbered (λ x. omega arith), tt)) z d in
      (shallow_enough deep, long_enough (bytes_for D) b short, list_success D (λ v. black_in D b v ≡ true) o r after w z)

  pub set_bits_success : (op : Op) (D : ℕ) (a b : List ℕ) → SetBitsOf op D a b o r after → r.number ≡ 0 → BitsSuccess D (λ v. Chosen op (black_in D a v ≡ true) (black_in D b v ≡ true)) o r after
  set_bits_success op D a b d z =
      let P : ℕ → Type 0 = λ v. Chosen op (black_in D a v ≡ true) (black_in D b v ≡ true) in
      bits_success D P o r after
      (passed (TooDeep deepest_plain D ∷ BitsShort D a ∷ BitsShort D b ∷ BitsShort D o ∷ []) (GivesBits D P o)
      (refuses_numbered (λ x. omega arith), (refuses_numbered (λ x. omega arith), (refuses_numbered (λ x. omega arith), (refuses_numbered (λ x. omega arith), tt)))) d z)

  -- the displacement along each axis, and the displaced voxels
  pub move_bits_success : (D : ℕ) (b : List ℕ) (m : Move) → MoveBitsOf D b m o r after → r.number ≡ 0 → (by : ℕ → ℤ) × Becomes m by × BitsSuccess D (FromBlack (Came D by) (black_in D b)) o r after
  move_bits_success D b m d z =
      let (i, j, k, becomes, s) = passed (TooDeep deepest_plain D ∷ move_tests m) (ByVoxels m (ShiftBitsOf D b o)) (refuses_numbered (λ x. omega arith), move_tests_numbered m) d z in
      let P : ℕ → Type 0 = FromBlack (Came D (axes i j k)) (black_in D b) in (
        axes i j k,
        becomes,
        bits_success D P o r after
            (passed (BitsShort D b ∷ BitsShort D o ∷ Leaving D (Came D (axes i j k)) (black_in D b) ∷ []) (GivesBits D P o)
            (refuses_numbered (λ x. omega arith), (refuses_numbered (λ x. omega arith), (refuses_first_numbered (λ i x e. omega arith), tt))) s z),
      )
