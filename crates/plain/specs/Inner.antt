-- INNER: for the contracts of private functions. A bit buffer that a loop over the voxels writes, and where a voxel comes to. Definitions only.
use Rattle.std.specs.Prelude.{◌≡◌, Bool, List, ℕ, ◌+◌, ◌*◌, ◌/◌, ◌%◌, ◌^◌, ◌<◌, ℤ, get_or, set, Option, Some, None}
use Rattle.cells.specs.Place.{Displaced, Came}
use Rattle.records.specs.Count.{bit}
use Rattle.records.specs.Writing.{stands}
use Rattle.plain.specs.Bits.{BitsOf}

-- the buffer b with bit v written: the bits of its byte below v stay, and those above it are 0 until their turn comes
abbrev pub marked : List ℕ → ℕ → Bool → List ℕ
marked b v c = set b (v / 8) (get_or b (v / 8) 0 % 2 ^ (v % 8) + bit c * 2 ^ (v % 8))

-- the bits of the voxels that have P stand at the front of the buffer o, which is o' afterwards
abbrev pub Painted : ℕ → (ℕ → Type 0) → List ℕ → List ℕ → Type 0
Painted D P o o' = (t : List ℕ) × BitsOf D P t × (o' ≡ stands t o)

-- where the coordinate x, displaced by d, comes to: r, or nowhere where it leaves the root of side w
abbrev pub Comes : ℕ → ℤ → ℕ → Option ℕ → Type 0
Comes w d x (Some r) = (r < w) × Displaced d x r
Comes w d x None = (y : ℕ) → y < w → Displaced d x y → ⊥

-- where the voxel u, displaced by d, comes to: v, or nowhere where it leaves the root
abbrev pub ComesTo : ℕ → (ℕ → ℤ) → ℕ → Option ℕ → Type 0
ComesTo D d u (Some v) = Came D d u v
ComesTo D d u None = (v : ℕ) → Came D d u v → ⊥
