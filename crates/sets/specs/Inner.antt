-- INNER: for the contracts of the sweep over two lists. Definitions only.
use Rattle.std.specs.Prelude.{◌≡◌, List, Bool, true, false, not, ◌&&◌, ◌||◌, ℕ, ◌^◌, ◌<◌, ◌≤◌}
use Rattle.cells.specs.Answer.{deepest}
use Rattle.records.specs.Record.{black, Ordered}
use Rattle.sets.specs.declared.Op.{Op}
use Rattle.sets.specs.declared.Op.TheVariants.{Join, Intersect, Subtract}
use Rattle.sets.specs.declared.inner.Cursor.{Cursor}
use Rattle.sets.specs.declared.inner.Side.{Side}

-- whether a voxel is black in the result, from its colours in the two lists
abbrev pub chosen : Op → Bool → Bool → Bool
chosen Join a b = a || b
chosen Intersect a b = a && b
chosen Subtract a b = a && not b

-- the voxels of the result
unfoldable pub both : Op → ℕ → List ℕ → List ℕ → ℕ → Bool
both op D a b v = chosen op (black D a v) (black D b v)

-- from voxel v on, the list l is its leaves `rest`, and none of these starts before v
pub record Behind (D : ℕ) (l rest : List ℕ) (v : ℕ) : Type 0 where
  pub root : v ≤ 8 ^ D
  pub same : (w : ℕ) → v ≤ w → black D l w ≡ black D rest w
  pub ordered : Ordered D v rest

-- c is the first leaf of l that ends after voxel v: from v on, the list is white up to `from`, black up to `to`, and its further leaves after that
pub record Points (D : ℕ) (l : List ℕ) (c : Cursor) (v : ℕ) : Type 0 where
  pub order : c.from ≤ c.to
  pub some : c.from < 8 ^ D → c.from < c.to
  pub ahead : v < 8 ^ D → v < c.to
  pub before : (w : ℕ) → v ≤ w → w < c.from → black D l w ≡ false
  pub inside : (w : ℕ) → c.from ≤ w → w < c.to → black D l w ≡ true
  pub behind : Behind D l c.rest.now c.to

-- c, the cursor from some voxel on, can come up to voxel `next`
pub record Passing (D : ℕ) (l : List ℕ) (c : Cursor) (next : ℕ) : Type 0 where
  pub deep : D ≤ deepest
  pub reach : next ≤ c.to
  pub from : ℕ
  pub forth : from ≤ next
  pub points : Points D l c from

-- from v up to `until`, which the leaf of c reaches, the list l is of one colour
pub record Steady (D : ℕ) (l : List ℕ) (c : Cursor) (v : ℕ) (s : Side) : Type 0 where
  pub some : v < s.until
  pub reach : s.until ≤ c.to
  pub same : (w : ℕ) → v ≤ w → w < s.until → black D l w ≡ s.black
