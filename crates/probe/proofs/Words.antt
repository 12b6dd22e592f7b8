-- Words of an answer buffer: seven told over zeros; and codes copied to a buffer's front. Assumes nothing.
use mathlib.Core.Path.{◌≡◌, refl, ap, subst}
use mathlib.Core.List.{List, [], ◌∷◌, ◌++◌}
use Prim.Native.Nat.{ℕ, zero, suc, ◌+◌, ◌-◌, ◌≤◌, ◌<◌}
use native.Mathlib.Omega.{arith}
use native.Mathlib.Nat.{le_of_suc-le-suc}
use native.Mathlib.Numerals.{add-one}
use lib.ListN.{length, replicate, set, take, drop, get_or}

-- seven words stored over zeros
pub told_over : (n a b c d e f g : ℕ) → 8 ≤ n
    → set (set (set (set (set (set (set (replicate n 0) 0 a) 1 b) 2 c) 3 d) 4 e) 5 f) 6 g ≡ a ∷ b ∷ c ∷ d ∷ e ∷ f ∷ g ∷ replicate (n - 7) 0
told_over n a b c d e f g h =
    subst (λ (m : ℕ). set (set (set (set (set (set (set (replicate m 0) 0 a) 1 b) 2 c) 3 d) 4 e) 5 f) 6 g ≡ a ∷ b ∷ c ∷ d ∷ e ∷ f ∷ g ∷ replicate (n - 7) 0)
    all refl
  where
    all : suc (suc (suc (suc (suc (suc (suc (n - 7))))))) ≡ n
    all = omega arith

-- ---- codes copied one by one

pub copied_more : (i : ℕ) (l o : List ℕ) → i < length l → i < length o → set (take i l ++ drop i o) i (get_or l i 0) ≡ take (i + 1) l ++ drop (i + 1) o
copied_more i l o h k = rw add-one (suc_more i l o h k)
  where
    suc_more : (i : ℕ) (l o : List ℕ) → i < length l → i < length o → set (take i l ++ drop i o) i (get_or l i 0) ≡ take (suc i) l ++ drop (suc i) o
    suc_more i [] o h k = absurd (omega arith)
    suc_more i (x ∷ l) [] h k = absurd (omega arith)
    suc_more zero (x ∷ l) (y ∷ o) h k = refl
    suc_more (suc i) (x ∷ l) (y ∷ o) h k = ap (λ (t : List ℕ). x ∷ t) (suc_more i l o (le_of_suc-le-suc h) (le_of_suc-le-suc k))
