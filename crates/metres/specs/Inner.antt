-- INNER: for the contracts of private functions. From a coordinate to a whole number: its size in half voxels, the tie rule and the range. Definitions only.
use Rattle.std.specs.Prelude.{ℕ, ◌+◌, ◌*◌, ◌/◌, ◌^◌, ◌<◌, ◌≤◌, Bool, true, false, cond, ℤ, nat_le, nat_lt, Float, Option, Some, None, Result, Ok, Err}
use Rattle.std.specs.Float.Ieee.{neg}
use Rattle.std.specs.Float.Ieee.Positive.{num, den}
use Rattle.metres.specs.declared.inner.Steps.{Steps}
use Rattle.cells.specs.declared.refusals.NoWholeMove.{NoWholeMove}
use Rattle.cells.specs.declared.refusals.NoWholeMove.TheVariants.{X, Y, Z}
use Rattle.metres.specs.Metres.{signed, Whole}

-- what the coordinate d becomes at the edge number s: n voxels, or none where no number is right
unfoldable pub Rounded : ℕ → Float → Option ℤ → Type 0
Rounded s d (Some n) = Whole s d n
Rounded s d None = (n : ℤ) → Whole s d n → ⊥

-- w is the size of the coordinate a, which is num a / den a metres, in whole half voxels of the edge 2^-s: what is less than a half voxel is left out
pub record Measured (s : ℕ) (a : Float) (w : ℕ) : Type 0 where
  pub least : w * den a ≤ 2 * num a * 2 ^ s
  pub most : 2 * num a * 2 ^ s < w * den a + den a

-- THE TIE RULE. The size of the whole number nearest to a coordinate of w half voxels, and perhaps something more: the half voxel that makes no pair counts as a whole one.
abbrev pub size_of : ℕ → ℕ
size_of w = (w + 1) / 2

-- k, or -k where t is true, if that is a signed 32-bit number
abbrev pub in_range : Bool → ℕ → Bool
in_range false k = nat_lt k (2 ^ 31)
in_range true k = nat_le k (2 ^ 31)

abbrev pub fitted : Bool → ℕ → Option ℤ
fitted t k = cond (in_range t k) (Some (signed t k)) None

-- the coordinate of size a, negative where t is true
abbrev pub with_sign : Bool → Float → Float
with_sign false a = a
with_sign true a = neg a

-- three coordinates put together: whole voxels, or the first that is none
abbrev pub together : Option ℤ → Option ℤ → Option ℤ → Result Steps NoWholeMove
together (Some i) (Some j) (Some k) = Ok (record { x = i; y = j; z = k })
together (Some i) (Some j) None = Err Z
together (Some i) None c = Err Y
together None b c = Err X
