-- Voxels as bits: ticket 5 of document 02, "one bit per voxel in voxel-number order". Definitions only.
use Rattle.std.specs.Prelude.{◌≡◌, ◌↔◌, Bool, ◌&&◌, List, ℕ, ◌/◌, ◌%◌, ◌^◌, ◌<◌, max, ltb, eqb, length, get_or}

-- how many bytes the bits of a root cube of depth D take: eight voxels to a byte; at depth 0 one byte, of which seven bits are spare
unfoldable pub bytes_for : ℕ → ℕ
bytes_for D = max 1 (8 ^ D / 8)

-- bit v of the buffer b, 0 or 1: the lowest bit of a byte comes first
unfoldable pub bit_at : List ℕ → ℕ → ℕ
bit_at b v = get_or b (v / 8) 0 / 2 ^ (v % 8) % 2

-- whether voxel v is black in the bits b: its bit is 1. Past the last voxel nothing is black, so a spare bit is not read.
unfoldable pub black_in : ℕ → List ℕ → ℕ → Bool
black_in D b v = ltb v (8 ^ D) && eqb (bit_at b v) 1

-- the bytes t are the bits of the voxels that have P: a bit is 1 exactly when it is that of a voxel which has P, so a spare bit is 0
pub record BitsOf (D : ℕ) (P : ℕ → Type 0) (t : List ℕ) : Type 0 where
  pub size : length t ≡ bytes_for D
  pub bytes : (i : ℕ) → get_or t i 0 < 256
  pub exactly : (v : ℕ) → (bit_at t v ≡ 1) ↔ ((v < 8 ^ D) × P v)
