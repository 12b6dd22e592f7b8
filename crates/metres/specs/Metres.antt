-- A move in whole voxels or in metres, and the whole voxels that it becomes: document 01, "Moves", and number 5 of its table; a half goes as ticket 3 says. Definitions only.
-- A float (`lib.Ieee`) is `nan`, an infinity, or `fin t m e`: the number m * 2 ^ e, negative where t is true. 2 ^ e is the fraction up e / down e, one of which is 1.
-- A whole number (`lib.IntN`) is `pos n`, which is n, or `negsuc n`, which is -(n + 1).
use Rattle.std.specs.Prelude.{◌≡◌, ℕ, ◌+◌, ◌*◌, ◌^◌, ◌<◌, ◌≤◌, Bool, true, false, List, [], ◌∷◌, ℤ, pos, neg_ℤ, ◌≤ℤ◌, ◌<ℤ◌, Float}
use Rattle.std.specs.Float.{nan, inf, fin}
use Rattle.std.specs.Float.Ieee.{up, down}
use Rattle.cells.specs.Answer.{answer, Test, refuses, refuses_first}
use Rattle.cells.specs.Place.{axes, EachAxis}
use Rattle.metres.specs.declared.Metres.{Metres}
use Rattle.metres.specs.declared.Move.{Move}
use Rattle.metres.specs.declared.Move.TheVariants.{Voxels}
use Rattle.metres.specs.declared.Move.TheVariants as the-move

-- a, or -a where t is true
abbrev pub signed : Bool → ℕ → ℤ
signed false a = pos a
signed true a = neg_ℤ (pos a)

-- k is the whole number nearest to the size a / c, a half going up: 2k - 1 <= 2a / c < 2k + 1. Each side is multiplied by c, and the 1 stands where it is added.
abbrev pub NearestSize : ℕ → ℕ → ℕ → Type 0
NearestSize a c k = (2 * (k * c) ≤ 2 * a + c) × (2 * a < 2 * (k * c) + c)

-- n is the whole number nearest to d x 2^s, a half going away from zero, over the exact value of d: the size of d x 2^s is rounded, and the sign of d put back.
-- So 2n - 1 <= 2d x 2^s < 2n + 1 where d is at or above zero, and below zero the mirror image. A NaN and an infinity have no such n.
unfoldable pub Nearest : ℕ → Float → ℤ → Type 0
Nearest s nan n = ⊥
Nearest s (inf t) n = ⊥
Nearest s (fin t m e) n = (k : ℕ) × NearestSize (m * up e * 2 ^ s) (down e) k × (n ≡ signed t k)

-- the coordinate d becomes n voxels of the edge 2^-s: the nearest number, where it is a signed 32-bit one, -2^31 <= n < 2^31
abbrev pub Whole : ℕ → Float → ℤ → Type 0
Whole s d n = Nearest s d n × (neg_ℤ (pos (2 ^ 31)) ≤ℤ n) × (n <ℤ pos (2 ^ 31))

-- the greatest edge number
abbrev pub finest : ℕ
finest = 10

-- the coordinates of metres, by axis
abbrev pub coordinates : Metres → ℕ → Float
coordinates m = axes m.x m.y m.z

-- number 5: metres with an edge number above the greatest, place 3; else the first coordinate x, y, z that becomes no number of
-- voxels, places 0, 1, 2. Whole voxels are never bad.
abbrev pub move_tests : Move → List Test
move_tests (Voxels i j k) = []
move_tests (the-move.Metres m) = refuses (answer 5 3 0) (finest < m.s) ∷ refuses_first 3 (λ a. (n : ℤ) → Whole m.s (coordinates m a) n → ⊥) (λ a. answer 5 a 0) ∷ []

-- d is the whole voxels that a move becomes, by axis
abbrev pub Becomes : Move → (ℕ → ℤ) → Type 0
Becomes (Voxels i j k) d = EachAxis (λ a. d a ≡ axes i j k a)
Becomes (the-move.Metres m) d = EachAxis (λ a. Whole m.s (coordinates m a) (d a))
