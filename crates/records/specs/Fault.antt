-- The faults of a list, index by index, and the first: document 01, "Lists", and numbers 2, 3 and 4 of its table. Definitions only.
use Rattle.std.specs.Prelude.{ℕ, zero, suc, ◌+◌, ◌-◌, ◌%◌, List, ◌≡◌, Bool, true, false, ◌&&◌, leb, ltb, eqb, length, get_or}
use Rattle.cells.specs.Answer.{answer, Test, refuses_first}
use Rattle.cells.specs.Cell.{proper, start, end}

-- whether the n numbers from s on pass
unfoldable pub all_from : (ℕ → Bool) → ℕ → ℕ → Bool
all_from P s zero = true
all_from P s (suc n) = P (s + n) && all_from P s n

-- whether the leaf at i starts before the end of the leaf before it
unfoldable pub early : ℕ → List ℕ → ℕ → Bool
early D l i = leb 1 i && ltb (start D (get_or l i 0)) (end D (get_or l (i - 1) 0))

-- whether the eight codes from index a on are those of the eight children of one cell
unfoldable pub eight_at : List ℕ → ℕ → Bool
eight_at l a = eqb (get_or l a 0 % 8) 0 && all_from (λ j. eqb (get_or l (a + j) 0) (get_or l a 0 + j)) 0 8

-- the number of the fault at index i: 2 where the code is not proper, else 3 where the leaf is early, else 4 where it completes eight siblings, else 0
unfoldable pub fault : ℕ → List ℕ → ℕ → ℕ
fault D l i = elim (proper D (get_or l i 0)) [ false ↦ 2 | true ↦ elim (early D l i) [ true ↦ 3 | false ↦ elim (leb 7 i && eight_at l (i - 7)) [ true ↦ 4 | false ↦ 0 ] ] ]

-- numbers 2, 3 and 4: the first fault of the call's list k
abbrev pub Faulty : ℕ → List ℕ → ℕ → Test
Faulty D l k = refuses_first (length l) (λ i. fault D l i ≡ 0 → ⊥) (λ i. answer (fault D l i) i k)
