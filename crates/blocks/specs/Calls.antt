-- What the calls on stored files leave: `check_blocks`, `stored_volume`, `read` and `write`. Document 01, "Stored blocks" and "Numbers a call gives". Definitions only.
use Rattle.std.specs.Prelude.{◌≡◌, ℕ, ◌^◌, true, false, ◌⊎◌, List, [], ◌∷◌, length, Result, Ok, Err}
use Rattle.cells.specs.Answer.{answer, given, Test, Decided, alone, keeping, refuses, refuses_first, deepest, TooDeep}
use Rattle.cells.specs.Refusals.{refused}
use Rattle.cells.specs.declared.Answer.{Answer}
use Rattle.cells.specs.declared.refusals.Refusal.{Refusal}
use Rattle.records.specs.Record.{black}
use Rattle.records.specs.Count.{count}
use Rattle.records.specs.Fault.{Faulty}
use Rattle.records.specs.Writing.{stands, TooShort, WritesOf}
use Rattle.blocks.specs.declared.Reading.{Reading}
use Rattle.blocks.specs.Block.{blocks, whole, sound_at, depth_of, codes}
use Rattle.blocks.specs.File.{file_of}

-- number 9: a length that is 0 or no multiple of a block's, with the count of whole blocks; else the first block with any wrong word
abbrev pub Unsound : List ℕ → Test
Unsound b a = refuses (answer 9 (blocks b) 0) (whole b ≡ false) a ⊎ ((whole b ≡ true) × refuses_first (blocks b) (λ i. sound_at b i ≡ false) (λ i. answer 9 i 0) a)

-- THE CALL check_blocks: how many codes the file holds
abbrev pub BlockCheckOf : List ℕ → Answer → Type 0
BlockCheckOf b = Decided alone (Unsound b ∷ []) (λ r. r ≡ given (length (codes b)))

-- THE CALL stored_volume: how many voxels are black in the list that the file holds
abbrev pub StoredVolumeOf : List ℕ → Answer → Type 0
StoredVolumeOf b = Decided alone (Unsound b ∷ Faulty (depth_of b) (codes b) 1 ∷ []) (λ r. r ≡ given (count (black (depth_of b) (codes b)) (8 ^ depth_of b)))

-- an answer, and the depth read beside it
pub record ReadAnswer : Type 0 where
  pub answer : Answer
  pub depth : ℕ

-- the depth read is 0 where the call is refused, and the buffer o as it was
abbrev pub unread : List ℕ → Answer → ReadAnswer × List ℕ
unread o a = (record { answer = a; depth = 0 }, o)

-- what the call's result tells
abbrev pub read_answer : Result Reading Refusal → ReadAnswer
read_answer (Ok r) = record { answer = given r.leaves; depth = r.depth }
read_answer (Err r) = record { answer = refused r; depth = 0 }

-- THE CALL read, of the file b to the buffer o: the answer r with the depth beside it, and the buffer o' afterwards
abbrev pub ReadOf : List ℕ → List ℕ → ReadAnswer → List ℕ → Type 0
ReadOf b o r o' =
    Decided (unread o) (Unsound b ∷ Faulty (depth_of b) (codes b) 1 ∷ TooShort (length (codes b)) o ∷ [])
    (λ t. t ≡ (record { answer = given (length (codes b)); depth = depth_of b }, stands (codes b) o)) (r, o')

-- THE CALL write, of the list l to the bytes o: the answer r and the bytes o' afterwards
abbrev pub WriteOf : ℕ → List ℕ → List ℕ → Answer → List ℕ → Type 0
WriteOf D l o r o' = Decided (keeping o) (TooDeep deepest D ∷ Faulty D l 1 ∷ []) (WritesOf (file_of D l) o) (r, o')
