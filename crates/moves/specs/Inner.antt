-- INNER: for the contracts of inner functions. A displacement in natural numbers, the test that a leaf stays, what a search finds, and the shift back to the sources. Definitions only.
use Rattle.std.specs.Prelude.{◌≡◌, Bool, ◌&&◌, ℕ, suc, ◌+◌, ◌-◌, ◌%◌, ◌^◌, ◌<◌, leb, ℤ, pos, negsuc, Option, Some, None}
use Rattle.cells.specs.Answer.{First}
use Rattle.cells.specs.Cell.{side}
use Rattle.cells.specs.Place.{EachAxis, axes, all_axes, number, corner}
use Rattle.moves.specs.declared.inner.Parted.{Parted}
use Rattle.moves.specs.declared.inner.Displacement.{Displacement}

-- d is up - down, and one of the two is 0
abbrev pub Splits : ℤ → Parted → Type 0
Splits (pos n) p = (p.up ≡ n) × (p.down ≡ 0)
Splits (negsuc n) p = (p.up ≡ 0) × (p.down ≡ suc n)

-- a displacement's parts, by axis
abbrev pub parts : Displacement → ℕ → Parted
parts p = axes p.x p.y p.z

-- p are the parts of the displacement d along x, y and z
abbrev pub AllSplit : (ℕ → ℤ) → (ℕ → Parted) → Type 0
AllSplit d p = EachAxis (λ a. Splits (d a) (p a))

-- whether the s places from x on, displaced by d, stay below the side w
abbrev pub keeps : ℕ → ℕ → ℕ → Parted → Bool
keeps w x s d = leb d.down (x + d.up) && leb (x + s + d.up) (w + d.down)

-- whether the cell c, displaced, stays in the root along the axis of bit b, and along all three
unfoldable pub keeps_along : ℕ → ℕ → Parted → ℕ → Bool
keeps_along D b d c = keeps (2 ^ D) (corner b D c) (side D c) d

unfoldable pub leaf_keeps : ℕ → (ℕ → Parted) → ℕ → Bool
leaf_keeps D p c = all_axes (λ a. keeps_along D (2 ^ a) (p a) c)

-- r is the first number below n that has P, and none where none has
abbrev pub Searched : ℕ → (ℕ → Type 0) → Option ℕ → Type 0
Searched n P (Some i) = First n P i
Searched n P None = (i : ℕ) → i < n → P i → ⊥

-- a displacement reversed, modulo the root's side
unfoldable pub reversed : ℕ → Parted → ℕ
reversed D d = (d.down % 2 ^ D + (2 ^ D - d.up % 2 ^ D)) % 2 ^ D

-- the voxel number that, added along each axis modulo the side, takes a displaced voxel back to where it came from
unfoldable pub back : ℕ → (ℕ → Parted) → ℕ
back D p = number D (reversed D (p 0)) (reversed D (p 1)) (reversed D (p 2))
