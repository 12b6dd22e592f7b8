-- The answers of document 01, "Numbers a call gives", and how its table decides. Definitions only.
use Rattle.std.specs.Prelude.{◌≡◌, ℕ, ◌<◌, ◌⊎◌, List, [], ◌∷◌}
use Rattle.cells.specs.declared.Answer.{Answer}

-- number n, place p, list k
abbrev pub answer : ℕ → ℕ → ℕ → Answer
answer n p k = record { number = n; place = p; list = k }

-- success with place p
abbrev pub given : ℕ → Answer
given p = answer 0 p 0

-- A test of the table: the answers that it refuses with. Where it has none, it passes.
abbrev pub Test : Type 1
Test = Answer → Type 0

-- The tests run in order, and the first that fails decides: the call leaves `refuse a`, the test's answer with every lent byte as it was.
-- Where all tests pass, P holds of what the call leaves. So the row of `check`, TooDeep and then Faulty, reads:
--   the depth is above the greatest: `answer 1 0 0`, whatever the list l holds
--   it is not, and the first fault of l stands at index i: `answer 2 i 1`, or 3 or 4 in place of 2
--   both tests pass: `given (length l)`, the number of leaves
abbrev pub Decided : {R : Type 0} → (Answer → R) → List Test → (R → Type 0) → R → Type 0
Decided refuse [] P r = P r
Decided refuse (F ∷ Fs) P r = ((a : Answer) × F a × (r ≡ refuse a)) ⊎ (((a : Answer) → F a → ⊥) × Decided refuse Fs P r)

-- a call that is lent nothing to write leaves its answer alone
abbrev pub alone : Answer → Answer
alone a = a

-- a call that is lent a buffer leaves its answer and the buffer: after a refusal the buffer is o, as it was
abbrev pub keeping : List ℕ → Answer → Answer × List ℕ
keeping o a = (a, o)

-- the test that refuses with the answer q where C holds
abbrev pub refuses : Answer → Type 0 → Test
refuses q C a = C × (a ≡ q)

-- i is the first number below n that has P
pub record First (n : ℕ) (P : ℕ → Type 0) (i : ℕ) : Type 0 where
  pub below : i < n
  pub here : P i
  pub before : (j : ℕ) → j < i → P j → ⊥

-- the test that refuses with the answer q i, i the first number below n that has P
abbrev pub refuses_first : ℕ → (ℕ → Type 0) → (ℕ → Answer) → Test
refuses_first n P q a = (i : ℕ) × First n P i × (a ≡ q i)

-- the greatest depth
abbrev pub deepest : ℕ
deepest = 10

-- number 1: a depth above the limit
abbrev pub TooDeep : ℕ → ℕ → Test
TooDeep limit D = refuses (answer 1 0 0) (limit < D)
