-- INNER: a walk along a list, leaf by leaf, that finds its first fault: what is kept of the leaves passed. It asks for one code after the other, so the list
-- may be lent as a slice or stand in bytes. Definitions only.
use Rattle.std.specs.Prelude.{◌≡◌, true, false, ◌&&◌, ◌||◌, List, [], ◌∷◌, ℕ, zero, suc, ◌+◌, ◌-◌, ◌%◌, ◌^◌, ◌≤◌, ◌<◌, leb, eqb, get_or, length, Result, Ok, Err}
use Rattle.cells.specs.Answer.{given, Decided, alone, deepest, First}
use Rattle.cells.specs.Cell.{span, end}
use Rattle.cells.specs.Refusals.{fault_number}
use Rattle.cells.specs.declared.Answer.{Answer}
use Rattle.records.specs.Fault.{fault, Faulty}
use Rattle.records.specs.declared.inner.Stop.{Stop}
use Rattle.records.specs.declared.inner.Walk.{Walk}

-- the last of the first i codes; the voxel number after its leaf; the voxels of the i leaves
unfoldable pub last_of : List ℕ → ℕ → ℕ
last_of l zero = 0
last_of l (suc i) = get_or l i 0

unfoldable pub past_of : ℕ → List ℕ → ℕ → ℕ
past_of D l zero = 0
past_of D l (suc i) = end D (get_or l i 0)

unfoldable pub voxels : ℕ → List ℕ → ℕ → ℕ
voxels D l zero = 0
voxels D l (suc i) = voxels D l i + span D (get_or l i 0)

-- how many siblings in a row, from a first child on, end with the code c, where r of them end with the code p before it: as many as its label says, or none
unfoldable pub next_run : ℕ → ℕ → ℕ → ℕ
next_run p r c = elim (eqb (c % 8) 0 || (leb 1 r && eqb (c - 1) p)) [ true ↦ suc (c % 8) | false ↦ 0 ]

-- how many of them end with the first i codes
unfoldable pub run_of : List ℕ → ℕ → ℕ
run_of l zero = 0
run_of l (suc i) = next_run (last_of l i) (run_of l i) (get_or l i 0)

-- w is what is kept of the first i leaves of l, which have no fault
pub record Faultless (D : ℕ) (l : List ℕ) (i : ℕ) (w : Walk) : Type 0 where
  pub faultless : (j : ℕ) → j < i → fault D l j ≡ 0
  pub is_passed : w.passed ≡ i
  pub is_last : w.last ≡ last_of l i
  pub is_past : w.past ≡ past_of D l i
  pub is_run : w.run ≡ run_of l i
  pub is_sum : w.sum ≡ voxels D l i
  pub few : w.sum ≤ w.past
  pub count : i ≤ w.past
  pub within : w.past ≤ 8 ^ D

-- a walk that can go on: no fault yet, in a root that is not too deep
pub record Underway (D : ℕ) (w : Walk) : Type 0 where
  pub deep : D ≤ deepest
  pub list : List ℕ
  pub index : ℕ
  pub kept : Faultless D list index w

-- s is the first fault of the first i leaves of l: its index and the number of its fault
pub record Stopped (D : ℕ) (l : List ℕ) (i : ℕ) (s : Stop) : Type 0 where
  pub stopped : First i (λ j. fault D l j ≡ 0 → ⊥) s.at
  pub is_number : fault_number s.fault ≡ fault D l s.at

-- r has passed the first i leaves of l up to the first that has a fault: that one, or what is kept of all i
abbrev pub Walked : ℕ → List ℕ → ℕ → Result Walk Stop → Type 0
Walked D l i (Ok w) = Faultless D l i w
Walked D l i (Err s) = Stopped D l i s

-- what is told at each index below n is the list's code there
abbrev pub Tells : ℕ → (ℕ → ℕ → Type 0) → List ℕ → Type 0
Tells n post l = (i c : ℕ) → i < n → post i c → get_or l i 0 ≡ c

-- each index below n may be asked, and what is told there are the codes of some list
pub record Asked (n : ℕ) (pre : ℕ → Type 0) (post : ℕ → ℕ → Type 0) : Type 0 where
  pub may : (i : ℕ) → i < n → pre i
  pub list : List ℕ
  pub tells : Tells n post list

-- what is told of the call's list k alone: its first fault, or its length
abbrev pub JudgedOf : ℕ → List ℕ → ℕ → Answer → Type 0
JudgedOf D l k = Decided alone (Faulty D l k ∷ []) (λ r. r ≡ given (length l))
