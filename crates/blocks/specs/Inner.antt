-- INNER: for the contracts of private and inner functions. Definitions only.
use Rattle.std.specs.Prelude.{◌≡◌, ℕ, ◌+◌, ◌/◌, ◌%◌, ◌^◌, ◌<◌, true, false, List, [], ◌∷◌, length, Option, None, Some, Result, Ok, Err, slice_set}
use Rattle.std.proofs.lemmas.List.Edits.{sets}
use Rattle.cells.specs.Answer.{Decided, First}
use Rattle.cells.specs.Refusals.{refused}
use Rattle.cells.specs.declared.Answer.{Answer}
use Rattle.cells.specs.declared.refusals.Refusal.{Refusal}
use Rattle.records.specs.Fault.{Faulty}
use Rattle.records.specs.Inner.{volume}
use Rattle.blocks.specs.Block.{block_bytes, blocks, whole, sound_at, depth_of, tabulated, codes}
use Rattle.blocks.specs.File.{blocks_of, words, byte_of}
use Rattle.blocks.specs.Calls.{Unsound}
use Rattle.blocks.specs.declared.inner.held.Holding.{Holding}

-- a file whose length and blocks are right
pub record Sound (b : List ℕ) : Type 0 where
  pub is_whole : whole b ≡ true
  pub each : (i : ℕ) → i < blocks b → sound_at b i ≡ true

-- the first block of the file b that is not sound
abbrev pub FirstUnsound : List ℕ → Option ℕ → Type 0
FirstUnsound b (Some i) = First (blocks b) (λ j. sound_at b j ≡ false) i
FirstUnsound b None = (i : ℕ) → i < blocks b → sound_at b i ≡ true

-- the bytes b with the four of the word x from place p on
abbrev pub stored : List ℕ → ℕ → ℕ → List ℕ
stored b p x = slice_set (slice_set (slice_set (slice_set b p (byte_of x 0)) (p + 1) (byte_of x 1)) (p + 2) (byte_of x 2)) (p + 3) (byte_of x 3)

-- byte j of the file of l; its first k bytes, over the bytes o
abbrev pub file_byte : ℕ → List ℕ → ℕ → ℕ
file_byte D l j = byte_of (words D l (j / block_bytes) (j % block_bytes / 4)) (j % 4)

abbrev pub begun : ℕ → List ℕ → List ℕ → ℕ → List ℕ
begun D l o k = sets o 0 (tabulated (file_byte D l) k)

-- i is one of the n blocks of the list l
pub record Placed (l : List ℕ) (n i : ℕ) : Type 0 where
  pub number : n ≡ blocks_of (length l)
  pub few : n < 2 ^ 32
  pub inside : i < n

-- what the file b holds
abbrev pub held : List ℕ → Holding
held b = record { leaves = length (codes b); depth = depth_of b; voxels = volume (depth_of b) (codes b) }

-- a refusal as its answer
abbrev pub answered : Result Holding Refusal → Result Holding Answer
answered (Ok h) = Ok h
answered (Err r) = Err (refused r)

-- what is told of the file b and the list that it holds
abbrev pub HoldingOf : List ℕ → Result Holding Answer → Type 0
HoldingOf b = Decided Err (Unsound b ∷ Faulty (depth_of b) (codes b) 1 ∷ []) (λ r. r ≡ Ok (held b))
