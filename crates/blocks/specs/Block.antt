-- Stored blocks: document 01, "Stored blocks". A file is its bytes; a block is 128 words, here a function from the word's place to its number: 0 the block's index,
-- 1 the number of blocks, 2 the depth, 3 how many codes the block holds, 4 to 125 the codes, 126 and 127 the check. Definitions only.
use Rattle.std.specs.Prelude.{ℕ, zero, suc, ◌+◌, ◌-◌, ◌*◌, ◌/◌, ◌%◌, ◌^◌, Bool, true, false, ◌&&◌, ◌||◌, List, [], ◌∷◌, ◌++◌, length, ◌==◌, nat_eq, nat_le, nat_lt, slice_index}
use Rattle.cells.specs.Answer.{deepest}
use Rattle.records.specs.Fault.{all_from}
use Rattle.blocks.specs.declared.Sums.{Sums}

-- the bytes of a block, and the codes that it can hold
abbrev pub block_bytes : ℕ
block_bytes = 512

abbrev pub block_codes : ℕ
block_codes = 122

-- the number that four bytes from place p on make, the lowest first
abbrev pub four_bytes : List ℕ → ℕ → ℕ
four_bytes b p = slice_index b p + 256 * (slice_index b (p + 1) + 256 * (slice_index b (p + 2) + 256 * slice_index b (p + 3)))

-- word w of block i
unfoldable pub word : List ℕ → ℕ → ℕ → ℕ
word b i w = four_bytes b (block_bytes * i + 4 * w)

-- A takes the word and then B takes A, both sums wrapping at 32 bits
abbrev pub taking : Sums → ℕ → Sums
taking s x = record { a = (s.a + x) % 2 ^ 32; b = (s.b + (s.a + x) % 2 ^ 32) % 2 ^ 32 }

-- the check of the words 0 to n - 1: A begins at 1 and B at 0
unfoldable pub check : (ℕ → ℕ) → ℕ → Sums
check v zero = record { a = 1; b = 0 }
check v (suc n) = taking (check v n) (v n)

-- ---- the six things a block can have wrong: v is its words, i its position, n the file's blocks, D block 0's depth

-- the index is its position
abbrev pub right_index : (ℕ → ℕ) → ℕ → Bool
right_index v i = v 0 == i

-- the block count is the file's
abbrev pub right_blocks : (ℕ → ℕ) → ℕ → Bool
right_blocks v n = v 1 == n

-- the depth is at most the greatest, and block 0's
abbrev pub right_depth : (ℕ → ℕ) → ℕ → Bool
right_depth v D = nat_le (v 2) deepest && v 2 == D

-- the codes held: all blocks but the last hold 122; the last holds 1 to 122, and 0 only where it is the one block
unfoldable pub right_count : ℕ → ℕ → ℕ → Bool
right_count n i k = elim (nat_lt (i + 1) n) [ true ↦ nat_eq k block_codes | false ↦ nat_le k block_codes && (nat_le 1 k || n == 1) ]

-- the words after the codes are 0
abbrev pub unused_zero : (ℕ → ℕ) → Bool
unused_zero v = all_from (λ w. nat_eq (v w) 0) (4 + v 3) (block_codes - v 3)

-- the check is that of the words before it
abbrev pub right_check : (ℕ → ℕ) → Bool
right_check v = v 126 == (check v 126).a && v 127 == (check v 126).b

-- whether every word of the block is right
unfoldable pub sound_block : (ℕ → ℕ) → ℕ → ℕ → ℕ → Bool
sound_block v i n D = right_index v i && (right_blocks v n && (right_depth v D && (right_count n i (v 3) && (unused_zero v && right_check v))))

-- ---- the file

-- how many whole blocks; whether there is a block and nothing beside whole blocks; block 0's depth
abbrev pub blocks : List ℕ → ℕ
blocks b = length b / block_bytes

unfoldable pub whole : List ℕ → Bool
whole b = nat_le 1 (blocks b) && length b % block_bytes == 0

abbrev pub depth_of : List ℕ → ℕ
depth_of b = word b 0 2

-- whether every word of block i is right
abbrev pub sound_at : List ℕ → ℕ → Bool
sound_at b i = sound_block (word b i) i (blocks b) (depth_of b)

-- the numbers f 0 to f (n - 1)
unfoldable pub tabulated : (ℕ → ℕ) → ℕ → List ℕ
tabulated f zero = []
tabulated f (suc n) = tabulated f n ++ (f n ∷ [])

-- the codes of a sound file: full blocks, and what the last one holds
unfoldable pub codes : List ℕ → List ℕ
codes b = tabulated (λ j. word b (j / block_codes) (4 + j % block_codes)) (block_codes * (blocks b - 1) + word b (blocks b - 1) 3)
