-- Laws of turned labels: four turns are none, and turns add up; the label that the code works out; a sum over the eight labels is that over the turned ones.
-- Assumes nothing.
use mathlib.Core.Path.{◌≡◌, refl, sym, ap, ◌∙◌}
use mathlib.Core.Bool.{true}
use Prim.Native.Nat.{ℕ, zero, suc, ◌+◌, ◌-◌, ◌*◌, ◌/◌, ◌%◌, ◌<◌, zero-le}
use native.Mathlib.Nat.{add-zero, add-suc}
use native.Mathlib.Omega.{arith}
use lib.Dec.{eqb}
use borrow.Author.Tests.{eqb-true}
use Rattle.cells.specs.Place.{axes, EachAxis}
use Rattle.cells.proofs.Places.{each_axis, bit_of, label_axes}
use Rattle.records.specs.Fault.{all_from}
use Rattle.records.proofs.Fill.{all_true}
use Rattle.turns.specs.Inner.{from_label, source_label}

-- ---- one turn

pub from_lt : (m : ℕ) → from_label m < 8
unfolding from_label
from_lt m = omega arith

-- the halves of the label that it takes to m
from_axes : (m : ℕ) → EachAxis (λ a. bit_of a (from_label m) ≡ axes (m / 2 % 2) (1 - m % 2) (m / 4 % 2) a)
unfolding from_label
from_axes m = label_axes (axes (m / 2 % 2) (1 - m % 2) (m / 4 % 2)) (each_axis _ (omega arith) (omega arith) (omega arith))

pub from_x : (m : ℕ) → from_label m / 1 % 2 ≡ m / 2 % 2
from_x m = from_axes m 0 (omega arith)

pub from_y : (m : ℕ) → m / 1 % 2 + from_label m / 2 % 2 ≡ 1
from_y m = omega (arith, from_axes m 1 (omega arith))

pub from_z : (m : ℕ) → from_label m / 4 % 2 ≡ m / 4 % 2
from_z m = from_axes m 2 (omega arith)

-- two changes of a label that agree in a test of every label
pub same_labels : (f g : ℕ → ℕ) → all_from (λ m. eqb (f m) (g m)) 0 8 ≡ true → (m : ℕ) → m < 8 → f m ≡ g m
same_labels f g e m h = eqb-true _ _ (all_true (λ m. eqb (f m) (g m)) 0 8 e m zero-le h)

four_turns : (m : ℕ) → m < 8 → from_label (from_label (from_label (from_label m))) ≡ m
unfolding from_label all_from
four_turns = same_labels (λ m. from_label (from_label (from_label (from_label m)))) (λ m. m) refl

-- ---- n turns

pub source_lt : (n m : ℕ) → m < 8 → source_label n m < 8
unfolding source_label
source_lt zero m h = h
source_lt (suc n) m h = source_lt n (from_label m) (from_lt m)

-- n turns, and k before them
pub source_before : (n k m : ℕ) → source_label k (source_label n m) ≡ source_label (k + n) m
unfolding source_label
source_before zero k m = ap (λ (j : ℕ). source_label j m) (sym (add-zero k))
source_before (suc n) k m = source_before n k (from_label m) ∙ ap (λ (j : ℕ). source_label j m) (sym (add-suc k n))

-- four turns over and over are none
source_around : (n m : ℕ) → m < 8 → source_label (4 * n) m ≡ m
unfolding source_label
source_around zero m h = refl
source_around (suc n) m h =
    let e : 4 * suc n ≡ suc (suc (suc (suc (4 * n)))) = omega arith in
    ap (λ (j : ℕ). source_label j m) e ∙ ap (source_label (4 * n)) (four_turns m h) ∙ source_around n m h

pub source_modulo : (n m : ℕ) → m < 8 → source_label (n % 4) m ≡ source_label n m
source_modulo n m h =
    let e : n % 4 + 4 * (n / 4) ≡ n = omega arith in
    ap (source_label (n % 4)) (sym (source_around (n / 4) m h)) ∙ source_before (4 * (n / 4)) (n % 4) m ∙ ap (λ (j : ℕ). source_label j m) e

-- what the code works out by the rest k of the turn number n is the source label
pub label_told : (n m k : ℕ) {r : ℕ} → n % 4 ≡ k → m < 8 → r ≡ source_label k m → (r ≡ source_label n m) × (r < 8)
label_told n m k {r} rest h e =
    let same : r ≡ source_label n m = e ∙ ap (λ (j : ℕ). source_label j m) (sym rest) ∙ source_modulo n m h in
    (same, rw same (source_lt n m h))

-- ---- a sum over the labels

unfoldable pub total : (ℕ → ℕ) → ℕ → ℕ
total a zero = 0
total a (suc n) = total a n + a n

one_total : (a : ℕ → ℕ) → total (λ m. a (from_label m)) 8 ≡ total a 8
unfolding from_label total
one_total a = omega arith

pub turned_total : (n : ℕ) (a : ℕ → ℕ) → total (λ m. a (source_label n m)) 8 ≡ total a 8
unfolding source_label
turned_total zero a = refl
turned_total (suc n) a = one_total (λ m. a (source_label n m)) ∙ turned_total n a
