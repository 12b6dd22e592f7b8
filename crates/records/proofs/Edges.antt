-- Cells and the edges of other cells: aligned intervals of voxel numbers, a leaf against the edge of a cell, a cell's eight children. Assumes nothing.
use mathlib.Core.Path.{◌≡◌, sym, ap, ◌∙◌}
use mathlib.Core.Bool.{true}
use mathlib.Core.Logic.{⊎_elim}
use Prim.Native.Nat.{ℕ, suc, ◌+◌, ◌-◌, ◌*◌, ◌^◌, ◌<◌, ◌≤◌}
use native.Mathlib.Nat.{mul-le-mul_right, lt_of_mul-lt-mul_right, mul_assoc, suc-mul, add-mul, mul_comm}
use native.Mathlib.Omega.{arith}
use Rattle.cells.specs.Cell.{proper, span, start, end}
use Rattle.cells.proofs.Power.{le_or_lt, pow8_suc, pow8_mono, pow8_le_inv, pow8_split}
use Rattle.cells.proofs.Cells.{cell}

-- ---- aligned intervals: [a * 8 ^ k, .. + 8 ^ k) against the edge b * 8 ^ n, k at most n

finer : (b k n : ℕ) → k ≤ n → b * 8 ^ n ≡ b * 8 ^ (n - k) * 8 ^ k
finer b k n h = ap (λ (m : ℕ). b * m) (pow8_split h) ∙ sym (mul_assoc b (8 ^ (n - k)) (8 ^ k))

before_edge : (a k b n : ℕ) → k ≤ n → a * 8 ^ k < b * 8 ^ n → a * 8 ^ k + 8 ^ k ≤ b * 8 ^ n
before_edge a k b n h p =
    let e = finer b k n h in
    let q : a < b * 8 ^ (n - k) = lt_of_mul-lt-mul_right (8 ^ k) (omega arith) in
    omega (arith, mul-le-mul_right (8 ^ k) q, suc-mul a (8 ^ k))

after_edge : (a k b n : ℕ) → k ≤ n → b * 8 ^ n < a * 8 ^ k + 8 ^ k → b * 8 ^ n ≤ a * 8 ^ k
after_edge a k b n h p =
    let e = finer b k n h in
    let q : b * 8 ^ (n - k) < suc a = lt_of_mul-lt-mul_right (8 ^ k) (omega (arith, suc-mul a (8 ^ k))) in
    let r : b * 8 ^ (n - k) ≤ a = omega arith in
    omega (arith, mul-le-mul_right (8 ^ k) r)

-- ---- a leaf against the edge of a cell

module _ (D c : ℕ) (p : proper D c ≡ true) where
  abbrev high : ℕ
  high = (cell D c p).n

  abbrev at : ℕ
  at = (cell D c p).i

  leaf_wide : span D c ≡ 8 ^ high
  leaf_wide = (cell D c p).span≡

  leaf_place : start D c ≡ at * 8 ^ high
  leaf_place = (cell D c p).start≡

  leaf_end : end D c ≡ at * 8 ^ high + 8 ^ high
  leaf_end = omega (arith, leaf_place, leaf_wide)

  -- a leaf no bigger than the cells that the edge is of
  pub small_before : (b n : ℕ) → span D c ≤ 8 ^ n → start D c < b * 8 ^ n → end D c ≤ b * 8 ^ n
  small_before b n h g = rw leaf_end (before_edge at high b n (pow8_le_inv high n (omega (arith, leaf_wide))) (omega (arith, leaf_place)))

  pub small_after : (b n : ℕ) → span D c ≤ 8 ^ n → b * 8 ^ n < end D c → b * 8 ^ n ≤ start D c
  small_after b n h g = rw leaf_place (after_edge at high b n (pow8_le_inv high n (omega (arith, leaf_wide))) (omega (arith, leaf_end)))

  -- a leaf no smaller than the cell, which it meets, has all of it
  pub big_from : (b n : ℕ) → 8 ^ n ≤ span D c → start D c < b * 8 ^ n + 8 ^ n → start D c ≤ b * 8 ^ n
  big_from b n h g = rw leaf_place (after_edge b n at high (pow8_le_inv n high (omega (arith, leaf_wide))) (omega (arith, leaf_place)))

  pub big_to : (b n : ℕ) → 8 ^ n ≤ span D c → b * 8 ^ n < end D c → b * 8 ^ n + 8 ^ n ≤ end D c
  big_to b n h g =
      let e : suc at * 8 ^ high ≡ at * 8 ^ high + 8 ^ high = suc-mul at (8 ^ high) in
      omega (arith, leaf_end, before_edge b n (suc at) high (pow8_le_inv n high (omega (arith, leaf_wide))) (omega (arith, leaf_end)))

  -- a leaf smaller than a cell is no bigger than its children
  pub smaller : (n : ℕ) → span D c < 8 ^ suc n → span D c ≤ 8 ^ n
  smaller n h =
      ⊎_elim
      (λ (g : high ≤ n). omega (arith, leaf_wide, pow8_mono {i = high} {j = n} g))
      (λ (g : suc n ≤ high). absurd (omega (arith, leaf_wide, pow8_mono {i = suc n} {j = high} g)))
      (le_or_lt high n)

-- ---- the eight children of a cell

-- child i, of span w, ends within the cell
pub child_within : (i w : ℕ) → i < 8 → i * w + w ≤ 8 * w
child_within i w h = omega (arith, mul-le-mul_right w h, suc-mul i w)

-- where child m of cell b starts
pub child_edge : (b m n : ℕ) → (8 * b + m) * 8 ^ n ≡ b * 8 ^ suc n + m * 8 ^ n
child_edge b m n = add-mul (8 * b) m (8 ^ n) ∙ ap (λ (z : ℕ). z + m * 8 ^ n) (ap (λ (z : ℕ). z * 8 ^ n) (mul_comm 8 b) ∙ mul_assoc b 8 (8 ^ n) ∙ ap (λ (z : ℕ). b * z) (sym (pow8_suc n)))

-- it ends within the cell
pub inside : (m n : ℕ) → m < 8 → m * 8 ^ n + 8 ^ n ≤ 8 ^ suc n
inside m n h = omega (arith, child_within m (8 ^ n) h, pow8_suc n)

-- where the next one starts
pub edge_next : (b m n : ℕ) → (8 * b + suc m) * 8 ^ n ≡ (8 * b + m) * 8 ^ n + 8 ^ n
edge_next b m n = omega (arith, child_edge b m n, child_edge b (suc m) n, suc-mul m (8 ^ n))
