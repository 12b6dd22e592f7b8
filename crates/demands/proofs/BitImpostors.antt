-- The impostors of document 01, "How tight the statements are", for the calls of the plain engine: what each would leave at a named input does not fit the call's
-- definition. One of them keeps the law that both engines tell the same of a voxel. Assumes nothing.
use mathlib.Core.Path.{◌≡◌, refl, sym, ap, ◌∙◌}
use mathlib.Core.Logic.{inl, inr}
use mathlib.Core.List.{List, [], ◌∷◌}
use Prim.Native.Nat.{ℕ}
use native.Mathlib.Omega.{arith}
use lib.IntN.{pos}
use Rattle.cells.specs.Answer.{answer, given}
use Rattle.cells.specs.declared.Answer.{Answer}
use Rattle.cells.proofs.Decisions.{passes, deep_enough}
use Rattle.records.specs.Lookups.{LookupAnswer, unseen, LookupOf}
use Rattle.sets.specs.declared.Op.{Op}
use Rattle.sets.specs.declared.Op.TheVariants.{Join, Intersect, Subtract}
use Rattle.metres.specs.declared.Move.{Move}
use Rattle.metres.specs.declared.Move.TheVariants.{Voxels}
use Rattle.plain.specs.Bits.{bytes_for}
use Rattle.plain.specs.Calls.{ToBitsOf, ToListOf, SetBitsOf, MoveBitsOf, LookupBitsOf}
use Rattle.plain.proofs.PlainLaws.{one_to_bits, one_to_list, one_set_bits, one_move_bits, one_lookup_bits}
use Rattle.plain.proofs.Instances.{to_bits_holds, to_bits_spare, to_bits_crowded, to_list_holds, to_list_spare, to_list_crowded, join_bits_holds, intersect_bits_holds, subtract_bits_holds, set_bits_short, move_bits_holds, move_bits_strays, move_bits_short, lookup_bits_holds, lookup_bits_refuses}
use Rattle.demands.specs.Engines.{LooksAlike}
use Rattle.demands.specs.Impostors.{short_first}
use Rattle.demands.specs.Laws.{Succeeds, Roomy}
use Rattle.demands.proofs.Engines.{looks_alike}
use Rattle.demands.proofs.Outcomes.{number_of, place_of, front_of}

-- depth 1: the list r0, r3 is the byte 9; r0 is the byte 1, and one voxel along x the byte 2; of the byte 6 the voxel 1 leaves

abbrev r0_r3 : List ℕ
r0_r3 = 8 ∷ 11 ∷ []

abbrev along_x_lem : Move
along_x_lem = Voxels (pos 1) (pos 0) (pos 0)

-- a buffer of two bytes
abbrev two_bytes : List ℕ
two_bytes = 0 ∷ 7 ∷ []

-- the byte that each operation makes of the bytes 9 and 3
abbrev made_byte : Op → ℕ
made_byte Join = 11
made_byte Intersect = 1
made_byte Subtract = 8

set_bits_holds : (op : Op) → SetBitsOf op 1 (9 ∷ []) (3 ∷ []) two_bytes (given 1) (made_byte op ∷ 7 ∷ [])
set_bits_holds Join = join_bits_holds
set_bits_holds Intersect = intersect_bits_holds
set_bits_holds Subtract = subtract_bits_holds

-- what fits an operation is that
set_left : (op : Op) (r : Answer) (o : List ℕ) → SetBitsOf op 1 (9 ∷ []) (3 ∷ []) two_bytes r o → ◌≡◌ {A = Answer × List ℕ} (r, o) (given 1, made_byte op ∷ 7 ∷ [])
set_left op r o h = one_set_bits op 1 (9 ∷ []) (3 ∷ []) two_bytes (r, o) _ h (set_bits_holds op)

-- ---- one that rejects everything

pub rejects_to_bits : (r : Answer) (o : List ℕ) → (Succeeds r → ⊥) → ToBitsOf 1 r0_r3 (255 ∷ 7 ∷ []) r o → ⊥
rejects_to_bits r o refused h = refused (ap number_of (one_to_bits 1 r0_r3 (255 ∷ 7 ∷ []) (r, o) _ h to_bits_holds))

pub rejects_to_list : (r : Answer) (o : List ℕ) → (Succeeds r → ⊥) → ToListOf 1 (9 ∷ []) (7 ∷ 7 ∷ 7 ∷ []) r o → ⊥
rejects_to_list r o refused h = refused (ap number_of (one_to_list 1 (9 ∷ []) (7 ∷ 7 ∷ 7 ∷ []) (r, o) _ h to_list_holds))

pub rejects_set_bits : (op : Op) (r : Answer) (o : List ℕ) → (Succeeds r → ⊥) → SetBitsOf op 1 (9 ∷ []) (3 ∷ []) two_bytes r o → ⊥
rejects_set_bits op r o refused h = refused (ap number_of (set_left op r o h))

pub rejects_move_bits : (r : Answer) (o : List ℕ) → (Succeeds r → ⊥) → MoveBitsOf 1 (1 ∷ []) along_x_lem two_bytes r o → ⊥
rejects_move_bits r o refused h = refused (ap number_of (one_move_bits 1 (1 ∷ []) along_x_lem two_bytes (r, o) _ h move_bits_holds))

pub rejects_lookup_bits : (r : LookupAnswer) → (Succeeds r.answer → ⊥) → LookupBitsOf 1 (9 ∷ []) 1 1 0 r → ⊥
rejects_lookup_bits r refused h = refused (ap (λ (f : LookupAnswer). f.answer.number) (one_lookup_bits 1 (9 ∷ []) 1 1 0 r _ h lookup_bits_holds))

-- ---- one that hands out fixed bits, whatever the operation or what is moved

pub fixed_set_bits : (r : Answer) (o : List ℕ) → SetBitsOf Join 1 (9 ∷ []) (3 ∷ []) two_bytes r o → SetBitsOf Subtract 1 (9 ∷ []) (3 ∷ []) two_bytes r o → ⊥
fixed_set_bits r o h k =
    let e : ◌≡◌ {A = ℕ} 11 8 = ap front_of (sym (set_left Join r o h) ∙ set_left Subtract r o k) in
    omega arith

pub fixed_move_bits : (r : Answer) (o : List ℕ) → MoveBitsOf 1 (1 ∷ []) along_x_lem two_bytes r o → MoveBitsOf 1 (6 ∷ []) along_x_lem two_bytes r o → ⊥
fixed_move_bits r o h k =
    let e : ◌≡◌ {A = ℕ} 0 7 = ap number_of (sym (one_move_bits 1 (1 ∷ []) along_x_lem two_bytes (r, o) _ h move_bits_holds) ∙ one_move_bits 1 (6 ∷ []) along_x_lem two_bytes (r, o) _ k (move_bits_strays 0 (7 ∷ []))) in
    omega arith

-- ---- one that writes nothing, whatever it reports

pub silent_to_bits : (r : Answer) → ToBitsOf 1 r0_r3 (255 ∷ 7 ∷ []) r (255 ∷ 7 ∷ []) → ⊥
silent_to_bits r h = let e : ◌≡◌ {A = ℕ} 255 9 = ap front_of (one_to_bits 1 r0_r3 (255 ∷ 7 ∷ []) (r, _) _ h to_bits_holds) in omega arith

pub silent_to_list : (r : Answer) → ToListOf 1 (9 ∷ []) (7 ∷ 7 ∷ 7 ∷ []) r (7 ∷ 7 ∷ 7 ∷ []) → ⊥
silent_to_list r h = let e : ◌≡◌ {A = ℕ} 7 8 = ap front_of (one_to_list 1 (9 ∷ []) (7 ∷ 7 ∷ 7 ∷ []) (r, _) _ h to_list_holds) in omega arith

pub silent_set_bits : (op : Op) (r : Answer) → SetBitsOf op 1 (9 ∷ []) (3 ∷ []) two_bytes r two_bytes → ⊥
silent_set_bits op r h = some op (ap front_of (set_left op r two_bytes h))
  where
    some : (op : Op) → ◌≡◌ {A = ℕ} 0 (made_byte op) → ⊥
    some Join e = omega arith
    some Intersect e = omega arith
    some Subtract e = omega arith

pub silent_move_bits : (r : Answer) → MoveBitsOf 1 (1 ∷ []) along_x_lem two_bytes r two_bytes → ⊥
silent_move_bits r h = let e : ◌≡◌ {A = ℕ} 0 2 = ap front_of (one_move_bits 1 (1 ∷ []) along_x_lem two_bytes (r, two_bytes) _ h move_bits_holds) in omega arith

-- ---- an invented leaf count, byte count, needed room or place

pub invented_bytes_to_bits : (n : ℕ) (o : List ℕ) → (n ≡ 1 → ⊥) → ToBitsOf 1 r0_r3 (255 ∷ 7 ∷ []) (given n) o → ⊥
invented_bytes_to_bits n o other h = other (ap place_of (one_to_bits 1 r0_r3 (255 ∷ 7 ∷ []) (given n, o) _ h to_bits_holds))

pub invented_bytes_set_bits : (op : Op) (n : ℕ) (o : List ℕ) → (n ≡ 1 → ⊥) → SetBitsOf op 1 (9 ∷ []) (3 ∷ []) two_bytes (given n) o → ⊥
invented_bytes_set_bits op n o other h = other (ap place_of (set_left op (given n) o h))

pub invented_bytes_move_bits : (n : ℕ) (o : List ℕ) → (n ≡ 1 → ⊥) → MoveBitsOf 1 (1 ∷ []) along_x_lem two_bytes (given n) o → ⊥
invented_bytes_move_bits n o other h = other (ap place_of (one_move_bits 1 (1 ∷ []) along_x_lem two_bytes (given n, o) _ h move_bits_holds))

pub invented_count_to_list : (n : ℕ) (o : List ℕ) → (n ≡ 2 → ⊥) → ToListOf 1 (9 ∷ []) (7 ∷ 7 ∷ 7 ∷ []) (given n) o → ⊥
invented_count_to_list n o other h = other (ap place_of (one_to_list 1 (9 ∷ []) (7 ∷ 7 ∷ 7 ∷ []) (given n, o) _ h to_list_holds))

pub invented_room_to_bits : (n : ℕ) (o : List ℕ) → (n ≡ 1 → ⊥) → ToBitsOf 1 r0_r3 [] (answer 8 n 0) o → ⊥
invented_room_to_bits n o other h = other (ap place_of (one_to_bits 1 r0_r3 [] (answer 8 n 0, o) _ h to_bits_crowded))

pub invented_room_to_list : (n : ℕ) (o : List ℕ) → (n ≡ 2 → ⊥) → ToListOf 1 (9 ∷ []) [] (answer 8 n 0) o → ⊥
invented_room_to_list n o other h = other (ap place_of (one_to_list 1 (9 ∷ []) [] (answer 8 n 0, o) _ h to_list_crowded))

pub invented_room_set_bits : (op : Op) (n : ℕ) (o : List ℕ) → (n ≡ 1 → ⊥) → SetBitsOf op 1 [] (3 ∷ []) two_bytes (answer 8 n 0) o → ⊥
invented_room_set_bits op n o other h = other (ap place_of (one_set_bits op 1 [] (3 ∷ []) two_bytes (answer 8 n 0, o) _ h (set_bits_short op (3 ∷ []) two_bytes)))

pub invented_room_move_bits : (n : ℕ) (o : List ℕ) → (n ≡ 1 → ⊥) → MoveBitsOf 1 [] along_x_lem two_bytes (answer 8 n 0) o → ⊥
invented_room_move_bits n o other h = other (ap place_of (one_move_bits 1 [] along_x_lem two_bytes (answer 8 n 0, o) _ h (move_bits_short two_bytes)))

-- another voxel than the first that leaves
pub other_voxel_told : (n : ℕ) (o : List ℕ) → (n ≡ 1 → ⊥) → MoveBitsOf 1 (6 ∷ []) along_x_lem two_bytes (answer 7 n 1) o → ⊥
other_voxel_told n o other h = other (ap place_of (one_move_bits 1 (6 ∷ []) along_x_lem two_bytes (answer 7 n 1, o) _ h (move_bits_strays 0 (7 ∷ []))))

-- ---- one that puts the highest bit first, one that leaves the spare bits as they were, and one that reads them

pub highest_first : (r : Answer) → ToBitsOf 1 r0_r3 (255 ∷ 7 ∷ []) r (144 ∷ 7 ∷ []) → ⊥
highest_first r h = let e : ◌≡◌ {A = ℕ} 144 9 = ap front_of (one_to_bits 1 r0_r3 (255 ∷ 7 ∷ []) (r, _) _ h to_bits_holds) in omega arith

pub spare_bits_left : (r : Answer) → ToBitsOf 0 (1 ∷ []) (255 ∷ []) r (255 ∷ []) → ⊥
spare_bits_left r h = let e : ◌≡◌ {A = ℕ} 255 1 = ap front_of (one_to_bits 0 (1 ∷ []) (255 ∷ []) (r, _) _ h to_bits_spare) in omega arith

pub spare_bits_read : (o : List ℕ) → ToListOf 0 (254 ∷ []) (7 ∷ []) (given 1) o → ⊥
spare_bits_read o h = let e : ◌≡◌ {A = ℕ} 1 0 = ap place_of (one_to_list 0 (254 ∷ []) (7 ∷ []) (given 1, o) _ h to_list_spare) in omega arith

-- ---- one that tests the bits before the voxel: it tells the same of each voxel as the lists' lookup does, and what it answers does not fit

reordered : (D : ℕ) (b : List ℕ) (x y z : ℕ) (r : LookupAnswer) → Roomy r.answer → short_first D b x y z r → LookupBitsOf D b x y z r
reordered D b x y z r room (inl t) = inl t
reordered D b x y z r room (inr (_, inl (a, (_, e), f))) = absurd (room (ap (λ (q : LookupAnswer). q.answer.number) (f ∙ ap unseen e)))
reordered D b x y z r room (inr (deep, inr (_, inl t))) = inr (deep, inl t)
reordered D b x y z r room (inr (deep, inr (long, inr (inside, e)))) = inr (deep, inr (inside, inr (long, e)))

pub short_first_lem : LooksAlike LookupOf short_first × (short_first 1 [] 2 0 0 (unseen (answer 8 1 0)) × (LookupBitsOf 1 [] 2 0 0 (unseen (answer 8 1 0)) → ⊥))
unfolding bytes_for
short_first_lem = (
  λ D l b h x i j k r s t t' room. looks_alike D l b h x i j k r s t (reordered D b i j k s room t') room,
  (
    inr (passes (deep_enough (omega arith)), inl (answer 8 1 0, (omega arith, refl), refl)),
    λ h. let e : ◌≡◌ {A = ℕ} 8 6 = ap (λ (q : LookupAnswer). q.answer.number) (one_lookup_bits 1 [] 2 0 0 (unseen (answer 8 1 0)) _ h (lookup_bits_refuses [])) in omega arith,
  ),
)
