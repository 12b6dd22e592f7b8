-- The impostors of document 01, "How tight the statements are", for the calls on stored files, those for C among them: what each would leave at a named input
-- does not fit the call's definition. Each follows from one right answer and the law that no second answer fits. Assumes nothing.
use mathlib.Core.Path.{◌≡◌, refl, sym, ap, ◌∙◌}
use mathlib.Core.Logic.{inl, inr}
use mathlib.Core.List.{List, [], ◌∷◌, ◌++◌}
use Prim.Native.Nat.{ℕ, ◌^◌, ◌≤◌, ◌<◌}
use native.Mathlib.Omega.{arith}
use lib.ListN.{length, get_or, drop, replicate, length-replicate, get_or-append}
use Rattle.cells.specs.Answer.{answer, given}
use Rattle.cells.specs.declared.Answer.{Answer}
use Rattle.records.proofs.First.{good_passes}
use Rattle.blocks.specs.File.{blocks_of, plain, words, byte_of, file_of}
use Rattle.blocks.specs.Calls.{ReadAnswer, BlockCheckOf, StoredVolumeOf, ReadOf, WriteOf}
use Rattle.blocks.proofs.Files.{file_length, file_byte_lem}
use Rattle.blocks.proofs.Sound.{sound_passes}
use Rattle.blocks.proofs.CallLaws.{one_check_blocks, one_stored_volume, one_read, one_write}
use Rattle.blocks.proofs.Theorems.{writes_good, reads_file}
use Rattle.blocks.proofs.Instances.{good, one_sound, one_depth, one_codes, block_check_holds, stored_volume_holds, read_holds, write_holds}
use Rattle.arrivals.proofs.Instances.{good_none}
use Rattle.cab.specs.Packed.{Packed}
use Rattle.cab.proofs.Unique.{one_cab_check_blocks, one_cab_stored_volume, cab_check_blocks_holds, cab_stored_volume_holds}
use Rattle.demands.specs.Examples.{r057}
use Rattle.demands.specs.Laws.{Succeeds}
use Rattle.demands.proofs.Outcomes.{Left, number_of, place_of}
use Rattle.demands.proofs.Agreement.{list_crowded}

-- what a reader leaves: its reading, and the buffer afterwards
abbrev Read : Type 0
Read = ReadAnswer × List ℕ

abbrev two_places : List ℕ
two_places = 7 ∷ 7 ∷ []

abbrev bytes : List ℕ
bytes = replicate 513 7

-- ---- one that rejects everything

pub rejects_write : (r : Answer) (o : List ℕ) → (Succeeds r → ⊥) → WriteOf 3 r057 bytes r o → ⊥
rejects_write r o refused h = refused (ap number_of (one_write 3 r057 bytes (r, o) (given 512, file_of 3 r057 ++ (7 ∷ [])) h write_holds))

pub rejects_read : (r : ReadAnswer) (o : List ℕ) → (Succeeds r.answer → ⊥) → ReadOf (file_of 3 r057) two_places r o → ⊥
rejects_read r o refused h = refused (ap (λ (t : Read). t.0.answer.number) (one_read (file_of 3 r057) two_places (r, o) _ h read_holds))

pub rejects_block_check : (r : Answer) → (Succeeds r → ⊥) → BlockCheckOf (file_of 3 r057) r → ⊥
rejects_block_check r refused h = refused (ap (λ (a : Answer). a.number) (one_check_blocks (file_of 3 r057) r _ h block_check_holds))

pub rejects_stored_volume : (r : Answer) → (Succeeds r → ⊥) → StoredVolumeOf (file_of 3 r057) r → ⊥
rejects_stored_volume r refused h = refused (ap (λ (a : Answer). a.number) (one_stored_volume (file_of 3 r057) r _ h stored_volume_holds))

-- for C a refusal is a number of 2^32 or more
pub rejects_cab_check_blocks : (w : ℕ) → 2 ^ 32 ≤ w → Packed (BlockCheckOf (file_of 3 r057)) w → ⊥
rejects_cab_check_blocks w refused h = let e : w ≡ 1 = one_cab_check_blocks (file_of 3 r057) w 1 h cab_check_blocks_holds in omega arith

pub rejects_cab_stored_volume : (w : ℕ) → 2 ^ 32 ≤ w → Packed (StoredVolumeOf (file_of 3 r057)) w → ⊥
rejects_cab_stored_volume w refused h = let e : w ≡ 1 = one_cab_stored_volume (file_of 3 r057) w 1 h cab_stored_volume_holds in omega arith

-- ---- one that hands out a fixed list or file

-- the code count in a file of one block: the lowest byte of word 3
count_byte : (l x : List ℕ) → 12 < length (file_of 3 l) → 0 < blocks_of (length l) → get_or (file_of 3 l ++ x) 12 0 ≡ byte_of (words 3 l 0 3) 0
count_byte l x h k = get_or-append (file_of 3 l) x 0 12 h ∙ file_byte_lem 3 l 0 3 0 12 k (omega arith) (omega arith) (omega arith)

one_counted : (x : List ℕ) → get_or (file_of 3 r057 ++ x) 12 0 ≡ 1
unfolding words plain byte_of
one_counted x = count_byte r057 x (omega (arith, file_length 3 r057)) (omega arith)

none_counted : (x : List ℕ) → get_or (file_of 3 [] ++ x) 12 0 ≡ 0
unfolding words plain byte_of
none_counted x = count_byte [] x (omega (arith, file_length 3 [])) (omega arith)

pub fixed_write : (r : Answer) (o : List ℕ) → WriteOf 3 r057 bytes r o → WriteOf 3 [] bytes r o → ⊥
fixed_write r o h k =
    let p = ap (λ (t : Left). get_or t.1 12 0) (one_write 3 r057 bytes (r, o) (given 512, file_of 3 r057 ++ (7 ∷ [])) h write_holds) in
    let none = writes_good 3 [] bytes (omega arith) good_none (omega (arith, length-replicate {A = ℕ} 513 7)) in
    let q = ap (λ (t : Left). get_or t.1 12 0) (one_write 3 [] bytes (r, o) (given 512, file_of 3 [] ++ drop 512 bytes) k none) in
    omega (arith, p, q, one_counted (7 ∷ []), none_counted (drop 512 bytes))

pub fixed_read : (r : ReadAnswer) (o : List ℕ) → ReadOf (file_of 3 r057) two_places r o → ReadOf (file_of 3 []) two_places r o → ⊥
fixed_read r o h k =
    let p = ap (λ (t : Read). t.0.answer.place) (one_read (file_of 3 r057) two_places (r, o) _ h read_holds) in
    let q = ap (λ (t : Read). t.0.answer.place) (one_read (file_of 3 []) two_places (r, o) _ k (reads_file 3 [] two_places (omega arith) good_none (omega arith))) in
    omega arith

-- ---- one that writes nothing, whatever it reports

pub silent_write : (r : Answer) → WriteOf 3 r057 bytes r bytes → ⊥
silent_write r h =
    let e : 7 ≡ get_or (file_of 3 r057 ++ (7 ∷ [])) 12 0 = ap (λ (t : Left). get_or t.1 12 0) (one_write 3 r057 bytes (r, bytes) (given 512, file_of 3 r057 ++ (7 ∷ [])) h write_holds) in
    omega (arith, one_counted (7 ∷ []))

pub silent_read : (r : ReadAnswer) → ReadOf (file_of 3 r057) two_places r two_places → ⊥
silent_read r h = let e : ◌≡◌ {A = ℕ} 7 559 = ap (λ (t : Read). get_or t.1 0 0) (one_read (file_of 3 r057) two_places (r, two_places) _ h read_holds) in omega arith

-- ---- an invented volume, leaf count, byte count or needed room

pub invented_stored_volume : (n : ℕ) → (n ≡ 1 → ⊥) → StoredVolumeOf (file_of 3 r057) (given n) → ⊥
invented_stored_volume n other h = other (ap (λ (a : Answer). a.place) (one_stored_volume (file_of 3 r057) (given n) _ h stored_volume_holds))

pub invented_stored_count : (n : ℕ) → (n ≡ 1 → ⊥) → BlockCheckOf (file_of 3 r057) (given n) → ⊥
invented_stored_count n other h = other (ap (λ (a : Answer). a.place) (one_check_blocks (file_of 3 r057) (given n) _ h block_check_holds))

pub invented_count_read : (n D : ℕ) (o : List ℕ) → (n ≡ 1 → ⊥) → ReadOf (file_of 3 r057) two_places (record { answer = given n; depth = D }) o → ⊥
invented_count_read n D o other h = other (ap (λ (t : Read). t.0.answer.place) (one_read (file_of 3 r057) two_places (_, o) _ h read_holds))

pub invented_bytes_write : (n : ℕ) (o : List ℕ) → (n ≡ 512 → ⊥) → WriteOf 3 r057 bytes (given n) o → ⊥
invented_bytes_write n o other h = other (ap place_of (one_write 3 r057 bytes (given n, o) (given 512, file_of 3 r057 ++ (7 ∷ [])) h write_holds))

pub invented_room_write : (n : ℕ) (o : List ℕ) → (n ≡ 512 → ⊥) → WriteOf 3 r057 [] (answer 8 n 0) o → ⊥
invented_room_write n o other h =
    let crowded : WriteOf 3 r057 [] (answer 8 512 0) [] = list_crowded 3 r057 (file_of 3 r057) [] 512 (sym (file_length 3 r057)) (omega arith) good (omega arith) in
    other (ap place_of (one_write 3 r057 [] (answer 8 n 0, o) (answer 8 512 0, []) h crowded))

pub invented_room_read : (n D : ℕ) (o : List ℕ) → (n ≡ 1 → ⊥) → ReadOf (file_of 3 r057) [] (record { answer = answer 8 n 0; depth = D }) o → ⊥
invented_room_read n D o other h = other (ap (λ (t : Read). t.0.answer.place) (one_read (file_of 3 r057) [] (_, o) _ h crowded))
  where
    crowded : ReadOf (file_of 3 r057) [] (record { answer = answer 8 1 0; depth = 0 }) []
    crowded =
        inr (sound_passes (file_of 3 r057) one_sound, rw (one_depth, one_codes) (inr (good_passes 3 r057 1 good, inl (_, (omega arith, refl), refl))))
