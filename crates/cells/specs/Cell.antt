-- The cells of a root cube of depth D and their codes: document 01, "Cells and codes".
-- A cell at level k is r followed by k labels. Its code is a one bit and then three bits for each label: 8 ^ k and the labels read as base 8.
-- Definitions only.
use Rattle.std.specs.Prelude.{ℕ, zero, suc, ◌+◌, ◌-◌, ◌*◌, ◌^◌, Bool, true, false, ◌&&◌, nat_le, nat_lt}

-- the deepest level up to D whose first code, 8 ^ k, is at most c: 0 where there is none
unfoldable pub level : ℕ → ℕ → ℕ
level zero c = zero
level (suc k) c = elim (nat_le (8 ^ suc k) c) [ true ↦ suc k | false ↦ level k c ]

-- whether c is a proper code for D: its highest one bit stands at place 3k, k at most D
unfoldable pub proper : ℕ → ℕ → Bool
proper D c = nat_le (2 ^ (3 * level D c)) c && nat_lt c (2 ^ suc (3 * level D c))

-- which of the 8 ^ k cells of its level: the labels read as base 8
unfoldable pub index : ℕ → ℕ → ℕ
index D c = c - 8 ^ level D c

-- the side of the cell, in voxels
unfoldable pub side : ℕ → ℕ → ℕ
side D c = 2 ^ (D - level D c)

-- how many voxels the cell has
unfoldable pub span : ℕ → ℕ → ℕ
span D c = 8 ^ (D - level D c)

-- its least voxel number
unfoldable pub start : ℕ → ℕ → ℕ
start D c = index D c * span D c

-- the voxel number after its last
abbrev pub end : ℕ → ℕ → ℕ
end D c = start D c + span D c

-- whether the voxel of number v lies in the cell
unfoldable pub holds : ℕ → ℕ → ℕ → Bool
holds D c v = nat_le (start D c) v && nat_lt v (end D c)
