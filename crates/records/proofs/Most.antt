-- How many leaves a good list can have: at depth n + 1 seven for each cell of eight voxels, 7 * 8 ^ n (document 01, "Lists"). Assumes nothing.
use mathlib.Core.Path.{◌≡◌, refl, ap, ◌∙◌}
use mathlib.Core.Bool.{Bool, true, false}
use mathlib.Core.Logic.{◌⊎◌, inl, inr}
use mathlib.Core.List.{List, [], ◌++◌}
use Prim.Native.Nat.{ℕ, zero, suc, ◌+◌, ◌-◌, ◌*◌, ◌^◌, ◌≤◌, ◌<◌, zero-le}
use native.Mathlib.Nat.{le_refl}
use native.Mathlib.Omega.{arith}
use lib.ListN.{length, length-append}
use Rattle.cells.specs.Answer.{deepest}
use Rattle.records.specs.Record.{black, Good}
use Rattle.records.specs.Fault.{all_from}
use Rattle.cells.proofs.Power.{le_or_lt, pow8_pos, pow8_suc}
use Rattle.records.proofs.Lists.{few_ordered}
use Rattle.records.proofs.Fill.{upto, leaves, good_list, all_false, leaves_whole, leaves_none, leaves_parts, good_list_is}

-- the most leaves at depth n
abbrev pub most : ℕ → ℕ
most zero = 1
most (suc n) = 7 * 8 ^ n

-- ---- lists one after the other

module _ (f : ℕ → List ℕ) (b : ℕ) (h : (j : ℕ) → length (f j) ≤ b) where
  upto_length : (m : ℕ) → length (upto f m) ≤ m * b
  unfolding upto
  upto_length zero = zero-le
  upto_length (suc m) = omega (arith, length-append (upto f m) (f m), upto_length m, h m)

  -- one of them empty
  upto_shorter : (m k : ℕ) → k < m → f k ≡ [] → length (upto f m) + b ≤ m * b
  unfolding upto
  upto_shorter zero k l e = absurd (omega arith)
  upto_shorter (suc m) k l e = go (λ q. upto_shorter m k q e) (le_or_lt m k)
    where
      go : (k < m → length (upto f m) + b ≤ m * b) → (m ≤ k) ⊎ (k < m) → length (upto f m ++ f m) + b ≤ suc m * b
      go ih (inl q) =
          let none : length (f m) ≡ 0 = ap (λ (x : ℕ). length (f x)) (omega arith) ∙ ap length e in
          omega (arith, length-append (upto f m) (f m), upto_length m)
      go ih (inr q) = omega (arith, length-append (upto f m) (f m), ih q, h m)

-- ---- the leaves in a cell

-- a white voxel has none
white_none : (P : ℕ → Bool) (c s : ℕ) → P (s + 0) ≡ false → leaves P 0 c s ≡ []
unfolding all_from
white_none P c s w = leaves_none P c s (rw w)

few : (P : ℕ → Bool) (n c s : ℕ) → length (leaves P n c s) ≤ most n
few P zero c s = go (all_from P s 1) refl
  where
    go : (b : Bool) → all_from P s 1 ≡ b → length (leaves P 0 c s) ≤ 1
    go true e = rw (leaves_whole P 0 c s e) (le_refl 1)
    go false e = rw (leaves_none P c s e) zero-le
few P (suc n) c s = go n (λ j. few P n (8 * c + j) (s + j * 8 ^ n)) (all_from P s (8 ^ suc n)) refl
  where
    go : (n : ℕ) → ((j : ℕ) → length (leaves P n (8 * c + j) (s + j * 8 ^ n)) ≤ most n) → (b : Bool) → all_from P s (8 ^ suc n) ≡ b → length (leaves P (suc n) c s) ≤ 7 * 8 ^ n
    go n ih true e = rw (leaves_whole P (suc n) c s e) (omega (arith, pow8_pos n))
    go zero ih false e =
        let (v, lo, hi, white) = all_false P s 8 e in
        let none = white_none P (8 * c + (v - s)) (s + (v - s) * 1) (ap P (omega arith) ∙ white) in
        rw (leaves_parts P 0 c s e) (omega (arith, upto_shorter (λ j. leaves P 0 (8 * c + j) (s + j * 1)) 1 ih 8 (v - s) (omega arith) none))
    go (suc n) ih false e = rw (leaves_parts P (suc n) c s e) (omega (arith, upto_length (λ j. leaves P (suc n) (8 * c + j) (s + j * 8 ^ suc n)) (7 * 8 ^ n) ih 8, pow8_suc n))

pub most_leaves : (D : ℕ) (l : List ℕ) → Good D l → length l ≤ most D
unfolding good_list
most_leaves D l g = rw (good_list_is D (black D l) l g (λ v h. refl)) (few (black D l) D 1 0)

-- no more than voxels
pub few_leaves : (D : ℕ) (l : List ℕ) → Good D l → length l ≤ 8 ^ D
few_leaves D l g = omega (arith, few_ordered D 0 l zero-le g.ordered)

-- at the greatest depth
pub most_at_deepest : (l : List ℕ) → Good deepest l → length l ≤ 939524096
most_at_deepest l g = most_leaves deepest l g
