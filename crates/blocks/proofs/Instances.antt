-- For each public call of this crate an answer that fits its definition at a named input, and one that does not; and document 01's stored examples, computed.
-- Assumes nothing.
use Rattle.std.proofs.Common.{◌≡◌, ℕ, ◌^◌, List, [], ◌∷◌, ◌++◌, length, replicate, sym, refl, ap, inl, inr, arith}
use lib.ListN.{length-replicate}
use Rattle.cells.specs.Answer.{answer, given}
use Rattle.cells.specs.declared.Answer.{Answer}
use Rattle.cells.proofs.Decisions.{opening_known}
use Rattle.cells.specs.Cell.{level, index, span, start, holds}
use Rattle.records.specs.Record.{black, Good}
use Rattle.records.specs.Count.{count}
use Rattle.records.proofs.First.{good_passes}
use Rattle.records.proofs.CallLaws.{checks}
use Rattle.records.proofs.Instances.{check_holds}
use Rattle.blocks.specs.Block.{check, whole, depth_of, codes}
use Rattle.blocks.specs.Inner.{Sound}
use Rattle.blocks.specs.File.{plain, file_of}
use Rattle.blocks.specs.Calls.{ReadAnswer, BlockCheckOf, StoredVolumeOf, ReadOf, WriteOf}
use Rattle.blocks.proofs.Sound.{sound_passes}
use Rattle.blocks.proofs.RoundTrip.{file_sound, file_depth, file_codes}
use Rattle.blocks.proofs.CallLaws.{one_check_blocks, one_stored_volume, one_read, one_write}
use Rattle.blocks.proofs.Theorems.{writes_good, reads_file}

-- ---- document 01's checks: depth 3, the empty list, A = 5 and B = 623; [559], A = 565 and B = 68,944

pub empty_check : check (plain 3 [] 0) 126 ≡ record { a = 5; b = 623 }
unfolding check plain
empty_check = refl

pub one_check : check (plain 3 (559 ∷ []) 0) 126 ≡ record { a = 565; b = 68944 }
unfolding check plain
one_check = refl

-- ---- depth 3, [r057]

abbrev one : List ℕ
one = 559 ∷ []

-- it is good, and its file sound
pub good : Good 3 one
good = (opening_known (checks 3 one) (given 1) check_holds refl).good

pub one_sound : Sound (file_of 3 one)
one_sound = file_sound 3 one (omega arith) good

pub one_depth : depth_of (file_of 3 one) ≡ 3
one_depth = file_depth 3 one (omega arith) good

pub one_codes : codes (file_of 3 one) ≡ one
one_codes = file_codes 3 one (omega arith) good

pub block_check_holds : BlockCheckOf (file_of 3 one) (given 1)
block_check_holds = inr (sound_passes (file_of 3 one) one_sound, ap (λ (l : List ℕ). given (length l)) (sym one_codes))

-- no byte at all: 9, with no whole block
pub block_check_refuses : BlockCheckOf [] (answer 9 0 0)
unfolding whole
block_check_refuses = inl (_, inl (refl, refl), refl)

pub block_check_fails : BlockCheckOf [] (given 0) → ⊥
block_check_fails h = let e : ◌≡◌ {A = ℕ} 0 9 = ap (λ (r : Answer). r.number) (one_check_blocks [] _ _ h block_check_refuses) in omega arith

one_voxel : count (black 3 one) (8 ^ 3) ≡ 1
unfolding level index span start holds black count
one_voxel = refl

pub stored_volume_holds : StoredVolumeOf (file_of 3 one) (given 1)
stored_volume_holds =
    inr (sound_passes (file_of 3 one) one_sound, rw (one_depth, one_codes) (inr (good_passes 3 one 1 good, ap given (sym one_voxel))))

pub stored_volume_fails : StoredVolumeOf (file_of 3 one) (given 512) → ⊥
stored_volume_fails h = let e : ◌≡◌ {A = ℕ} 512 1 = ap (λ (r : Answer). r.place) (one_stored_volume (file_of 3 one) _ _ h stored_volume_holds) in omega arith

-- a buffer of two places: the code, and the second place as it was
pub read_holds : ReadOf (file_of 3 one) (7 ∷ 7 ∷ []) (record { answer = given 1; depth = 3 }) (559 ∷ 7 ∷ [])
read_holds = reads_file 3 one (7 ∷ 7 ∷ []) (omega arith) good (omega arith)

pub read_fails : ReadOf (file_of 3 one) (7 ∷ 7 ∷ []) (record { answer = given 1; depth = 0 }) (559 ∷ 7 ∷ []) → ⊥
read_fails h =
    let e : ◌≡◌ {A = ℕ} 0 3 = ap (λ (t : ReadAnswer × List ℕ). t.0.depth) (one_read (file_of 3 one) (7 ∷ 7 ∷ []) _ _ h read_holds) in
    omega arith

-- 512 bytes and one more, which stays
pub write_holds : WriteOf 3 one (replicate 513 7) (given 512) (file_of 3 one ++ (7 ∷ []))
write_holds = writes_good 3 one (replicate 513 7) (omega arith) good (omega (arith, length-replicate {A = ℕ} 513 7))

pub write_fails : WriteOf 3 one (replicate 513 7) (given 0) (replicate 513 7) → ⊥
write_fails h =
    let e : ◌≡◌ {A = ℕ} 0 512 = ap (λ (t : Answer × List ℕ). t.0.place) (one_write 3 one (replicate 513 7) (given 0, replicate 513 7) (given 512, file_of 3 one ++ (7 ∷ [])) h write_holds) in
    omega arith
