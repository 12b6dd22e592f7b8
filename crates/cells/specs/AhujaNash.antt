-- Document 000 (Ahuja and Nash): table 2 as printed, and the addition of a displacement to a path, label by label from the last one. Definitions only.
use Rattle.std.specs.Prelude.{ℕ, zero, suc, ◌+◌, ◌-◌, ◌*◌, ◌/◌, ◌%◌, ◌^◌, List, [], ◌∷◌, ℤ, pos, negsuc, slice_index, slice_index_or}

-- Table 2: the final label after a unit displacement along +X, +Y, +Z, a row for each initial label 0 to 7. A 1 to the left of the label is the carry.
abbrev pub table2 : List (List ℕ)
table2 =
    (1 ∷ 2 ∷ 4 ∷ []) ∷
    (10 ∷ 3 ∷ 5 ∷ []) ∷
    (3 ∷ 10 ∷ 6 ∷ []) ∷
    (12 ∷ 11 ∷ 7 ∷ []) ∷
    (5 ∷ 6 ∷ 10 ∷ []) ∷
    (14 ∷ 7 ∷ 11 ∷ []) ∷
    (7 ∷ 14 ∷ 12 ∷ []) ∷
    (16 ∷ 15 ∷ 13 ∷ []) ∷
    []

-- the label v and the bit t along axis a (0, 1, 2 for x, y, z): the label itself for 0, table 2's entry for 1
unfoldable pub plus : ℕ → ℕ → ℕ → ℕ
plus a v zero = v
plus a v (suc t) = slice_index (slice_index_or table2 v []) a

-- The n labels v, read as base 8, and the binary number t along axis a, with a carry c into the last label. The carry out of the first label is lost.
unfoldable pub added : ℕ → ℕ → ℕ → ℕ → ℕ → ℕ
added a zero v t c = 0
added a (suc n) v t c =
    let e = plus a (v % 8) (t % 2) in
    let f = plus a (e % 10) c in
    8 * added a n (v / 8) (t / 2) (e / 10 + f / 10) + f % 10

-- a whole number as the two's complement of n bits
unfoldable pub twos : ℕ → ℤ → ℕ
twos n (pos d) = d % 2 ^ n
twos n (negsuc d) = 2 ^ n - 1 - d % 2 ^ n

-- the path v displaced by d along x, then y, then z: along the first m axes
unfoldable pub summed : ℕ → ℕ → (ℕ → ℤ) → ℕ → ℕ
summed zero n d v = v
summed (suc a) n d v = added a n (summed a n d v) (twos n (d a)) 0
