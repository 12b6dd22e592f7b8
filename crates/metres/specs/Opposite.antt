-- Ticket 3: what A measures towards B, B measures towards A the other way. Definitions only.
use Rattle.std.specs.Prelude.{◌^◌, ℤ, pos, neg_ℤ}
use Rattle.std.specs.Float.Ieee.{neg}
use Rattle.metres.specs.declared.Metres.{Metres}

-- the least signed 32-bit number, whose opposite is none
abbrev pub lowest : ℤ
lowest = neg_ℤ (pos (2 ^ 31))

-- the metres with each coordinate negated
abbrev pub opposite : Metres → Metres
opposite m = record { x = neg m.x; y = neg m.y; z = neg m.z; s = m.s }
