-- INNER: for the contracts of this crate. A voxel number shifted by another, label by label from the last one; the carry out of the first label is lost.
-- Definitions only.
use Rattle.std.specs.Prelude.{Bool, ◌&&◌, List, ℕ, zero, suc, ◌+◌, ◌-◌, ◌*◌, ◌/◌, ◌%◌, ◌^◌, ltb}
use Rattle.records.specs.Record.{black}
use Rattle.shifts.specs.LabelSums.{sum_label, carry_label, join_label}

-- the place v of a cube of depth n, shifted by w along each axis, with the carry q from below
unfoldable pub shift : ℕ → ℕ → ℕ → ℕ → ℕ
shift zero w q v = 0
shift (suc n) w q v = 8 * shift n (w / 8) (carry_label (w % 8) (v % 8) q) (v / 8) + sum_label (w % 8) (v % 8) q

-- the black voxels after the shift: the source of v is v + w along each axis, modulo the root's side. Past the root nothing is black.
unfoldable pub shifted : ℕ → List ℕ → ℕ → ℕ → Bool
shifted D l w v = ltb v (8 ^ D) && black D l (shift D w 0 v)

-- the source cell in slot q of the target cell of number c with n levels left: where its voxels that carry q come from
unfoldable pub cell_of : ℕ → ℕ → ℕ → ℕ → ℕ → ℕ
cell_of D w n c q = shift (D - n) (w / 8 ^ n) q c

-- the axes on which the last n labels of w are not all 0: only these can carry
unfoldable pub need : ℕ → ℕ → ℕ
need zero w = 0
need (suc n) w = join_label (need n w) (w / 8 ^ n % 8)
