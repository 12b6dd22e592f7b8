-- Where a voxel and a cell stand, and displacements: document 01, "Cells and codes" and "Moves".
-- An axis is a number a: 0 for x, 1 for y, 2 for z. Its bit in a label is 2 ^ a: 1 is added for the eastern half (x), 2 for the northern (y), 4 for the upper
-- (z). Coordinates are a natural number for each axis, ℕ → ℕ; a displacement is a whole one, ℕ → ℤ. Definitions only.
use Rattle.std.specs.Prelude.{◌≡◌, ℕ, zero, suc, ◌+◌, ◌*◌, ◌/◌, ◌%◌, ◌^◌, ◌<◌, Bool, ◌&&◌, ℤ, pos, ◌+ℤ◌}
use Rattle.cells.specs.Cell.{level, index, side}

-- x, y and z by axis
abbrev pub axes : {A : Type 0} → A → A → A → ℕ → A
axes x y z zero = x
axes x y z (suc zero) = y
axes x y z (suc (suc a)) = z

-- each of the three axes has P
abbrev pub EachAxis : (ℕ → Type 0) → Type 0
EachAxis P = (a : ℕ) → a < 3 → P a

-- whether each of them passes
abbrev pub all_axes : (ℕ → Bool) → Bool
all_axes P = P 0 && (P 1 && P 2)

-- The coordinate of voxel v along the axis whose bit in a label is b (1, 2 or 4), in a cube of depth n: one bit of each label, outermost first.
unfoldable pub along : ℕ → ℕ → ℕ → ℕ
along b zero v = 0
along b (suc n) v = 2 * along b n (v / 8) + v % 8 / b % 2

-- the number of the voxel at x, y, z: its labels read as base 8
unfoldable pub number : ℕ → ℕ → ℕ → ℕ → ℕ
number zero x y z = 0
number (suc n) x y z = 8 * number n (x / 2) (y / 2) (z / 2) + (x % 2 + 2 * (y % 2) + 4 * (z % 2))

-- the least coordinate of the cell c along the axis of bit b, in voxels
unfoldable pub corner : ℕ → ℕ → ℕ → ℕ
corner b D c = along b (level D c) (index D c) * side D c

-- the coordinate x, displaced by d, is x'
abbrev pub Displaced : ℤ → ℕ → ℕ → Type 0
Displaced d x x' = pos x +ℤ d ≡ pos x'

-- the voxel u, displaced by d, is the voxel v of the same root cube
pub record Came (D : ℕ) (d : ℕ → ℤ) (u v : ℕ) : Type 0 where
  pub root : v < 8 ^ D
  pub each : EachAxis (λ a. Displaced (d a) (along (2 ^ a) D u) (along (2 ^ a) D v))
