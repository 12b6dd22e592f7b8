-- An answer as one number for C: document 01, "Numbers a call gives". Definitions only.
use Rattle.std.specs.Prelude.{◌≡◌, ℕ, ◌+◌, ◌-◌, ◌*◌, ◌^◌, min}
use Rattle.cells.specs.declared.Answer.{Answer}

-- number x 2^32 + place, a place above 2^32 - 1 given as 2^32 - 1
abbrev pub packed : Answer → ℕ
packed a = a.number * 2 ^ 32 + min a.place (2 ^ 32 - 1)

-- THE CALLS FOR C: w is an answer that fits F, packed. F is the definition of the library's call
abbrev pub Packed : (Answer → Type 0) → ℕ → Type 0
Packed F w = (a : Answer) × F a × (w ≡ packed a)
