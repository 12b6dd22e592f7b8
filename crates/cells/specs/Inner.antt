-- INNER: for the contracts of private and inner functions: a coordinate on the grid of a level, a step along one axis, where a search stops, and where two
-- numbers part.
-- Definitions only.
use Rattle.std.specs.Prelude.{◌≡◌, ℕ, zero, suc, ◌+◌, ◌*◌, ◌/◌, ◌%◌, ◌^◌, ◌<◌, Bool, true, false, ◌&&◌, ◌⊎◌, ℤ, pos, negsuc, ◌==◌, Option, None, Some, nat_lt}
use Rattle.cells.specs.Place.{along, Displaced, Came}

-- whether a coordinate lies in a root of side w and is a multiple of s
abbrev pub on_grid : ℕ → ℕ → ℕ → Bool
on_grid w s x = nat_lt x w && x % s == 0

-- d is a step: -1, 0 or 1
abbrev pub IsStep : ℤ → Type 0
IsStep d = (d ≡ negsuc 0) ⊎ ((d ≡ pos 0) ⊎ (d ≡ pos 1))

-- the number whose n labels are all b
unfoldable pub in_each : ℕ → ℕ → ℕ
in_each b zero = 0
in_each b (suc n) = in_each b n * 8 + b

-- a code with the k labels i, and a mask with the bit of axis a in each of them
pub record OnAxis (a k i code mask : ℕ) : Type 0 where
  pub axis : a < 3
  pub labels : i < 8 ^ k
  pub is_code : code ≡ 8 ^ k + i
  pub is_mask : mask ≡ in_each (2 ^ a) k

-- a displacement by d along axis a alone
abbrev pub only : ℕ → ℤ → ℕ → ℤ
only a d b = elim (a == b) [ true ↦ d | false ↦ pos 0 ]

-- A step d along axis a, from the cell with the k labels i: r is the code of the cell to which it leads; None where it leaves the root.
pub record OneStep (a k i : ℕ) (d : ℤ) (r : Option ℕ) : Type 0 where
  pub leaves : r ≡ None → (x : ℕ) → x < 2 ^ k → Displaced d (along (2 ^ a) k i) x → ⊥
  pub stays : (m : ℕ) → r ≡ Some m → (j : ℕ) × (m ≡ 8 ^ k + j) × Came k (only a d) i j

-- n is the place of the first label in which the numbers a and b differ, the last label's being 0: they have all labels before it in common
pub record PartAt (a b n : ℕ) : Type 0 where
  pub apart : a / 8 ^ n ≡ b / 8 ^ n → ⊥
  pub together : a / 8 ^ suc n ≡ b / 8 ^ suc n
