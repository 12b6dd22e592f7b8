-- The laws of `count`: tests that agree, tests that add up, an interval, and a count bounded by an injection. Assumes nothing.
use mathlib.Core.Path.{◌≡◌, refl, sym, ap, ap₂, ◌∙◌}
use mathlib.Core.Bool.{Bool, true, false, not, ◌&&◌, ◌||◌, and-true}
use mathlib.Core.Logic.{◌⊎◌, inl, inr, ⊎_elim}
use Prim.Native.Nat.{ℕ, zero, suc, ◌+◌, ◌-◌, ◌≤◌, ◌<◌, min, zero-le}
use native.Mathlib.Nat.{le_refl, le_antisymm, le_of_suc-le-suc, eq-or-lt_of_le}
use native.Mathlib.Omega.{arith}
use lib.Dec.{leb, ltb, eqb}
use borrow.Author.Tests.{le-leb, lt-ltb, lt-leb, le-ltb, eq-eqb, ne_eqb}
use Rattle.records.specs.Count.{bit, count}
use Rattle.cells.proofs.Power.{le_or_lt}

-- ---- tests that agree, and tests that add up

pub count_same : (P Q : ℕ → Bool) (n : ℕ) → ((v : ℕ) → v < n → P v ≡ Q v) → count P n ≡ count Q n
unfolding count
count_same P Q zero h = refl
count_same P Q (suc n) h = ap₂ (λ (x y : ℕ). x + y) (ap bit (h n (omega arith))) (count_same P Q n (λ v l. h v (omega arith)))

-- Where the tests P and Q pass together as often as R and S do, at each number, so do they in all.
pub count_sum : (P Q R S : ℕ → Bool) (n : ℕ) → ((v : ℕ) → v < n → bit (P v) + bit (Q v) ≡ bit (R v) + bit (S v)) → count P n + count Q n ≡ count R n + count S n
unfolding count
count_sum P Q R S zero h = refl
count_sum P Q R S (suc n) h = omega (arith, h n (omega arith), count_sum P Q R S n (λ v l. h v (omega arith)))

pub count_none : (n : ℕ) → count (λ v. false) n ≡ 0
unfolding count
count_none zero = refl
count_none (suc n) = omega (arith, count_none n)

bit_join : (a b : Bool) → bit (a || b) + bit (a && b) ≡ bit a + bit b
bit_join true true = refl
bit_join true false = refl
bit_join false true = refl
bit_join false false = refl

bit_less : (a b : Bool) → bit (a && not b) + bit (a && b) ≡ bit a + bit false
bit_less true true = refl
bit_less true false = refl
bit_less false true = refl
bit_less false false = refl

-- either and both
pub count_join : (P Q : ℕ → Bool) (n : ℕ) → count (λ v. P v || Q v) n + count (λ v. P v && Q v) n ≡ count P n + count Q n
count_join P Q n = count_sum _ _ P Q n (λ v h. bit_join (P v) (Q v))

-- the first and not the second, and both
pub count_less : (P Q : ℕ → Bool) (n : ℕ) → count (λ v. P v && not (Q v)) n + count (λ v. P v && Q v) n ≡ count P n
count_less P Q n = omega (arith, count_sum (λ v. P v && not (Q v)) (λ v. P v && Q v) P (λ v. false) n (λ v h. bit_less (P v) (Q v)), count_none n)

-- two tests that never pass together
pub count_apart : (P Q : ℕ → Bool) (n : ℕ) → ((v : ℕ) → v < n → (P v && Q v) ≡ false) → count (λ v. P v || Q v) n ≡ count P n + count Q n
count_apart P Q n h = omega (arith, count_join P Q n, count_same (λ v. P v && Q v) (λ v. false) n h, count_none n)

-- ---- an interval

pub count_interval : (a b n : ℕ) → count (λ v. leb a v && ltb v b) n ≡ min n b - a
unfolding count
count_interval a b zero = omega arith
count_interval a b (suc n) = go (count_interval a b n) (le_or_lt a n) (le_or_lt b n)
  where
    go : count (λ v. leb a v && ltb v b) n ≡ min n b - a → (a ≤ n) ⊎ (n < a) → (b ≤ n) ⊎ (n < b) → bit (leb a n && ltb n b) + count (λ v. leb a v && ltb v b) n ≡ min (suc n) b - a
    go ih (inl h) (inl k) = rw (le-leb a n h, le-ltb n b k) (omega arith)
    go ih (inl h) (inr k) = rw (le-leb a n h, lt-ltb n b k) (omega arith)
    go ih (inr h) k = rw (lt-leb a n h) (omega arith)

-- ---- a count bounded by an injection

-- a test without the number y
without : (ℕ → Bool) → ℕ → ℕ → Bool
without Q y v = Q v && not (eqb v y)

still : (Q : ℕ → Bool) (y v : ℕ) → Q v ≡ true → eqb v y ≡ false → without Q y v ≡ true
unfolding without
still Q y v q e = rw (q, e)

count_without : (Q : ℕ → Bool) (y n : ℕ) → y < n → Q y ≡ true → count Q n ≡ suc (count (without Q y) n)
unfolding count without
count_without Q y zero h q = absurd (omega arith)
count_without Q y (suc n) h q =
    ⊎_elim
    (λ (e : y ≡ n).
    let rest = count_same (without Q y) Q y (λ v l. rw (ne_eqb v y (λ z. omega arith)) (and-true (Q v))) in
    rw (← e, q, eq-eqb y y refl) (omega (arith, rest)))
    (λ (l : y < n). rw (ne_eqb n y (λ z. omega arith), and-true (Q n)) (omega (arith, count_without Q y n l q)))
    (eq-or-lt_of_le (le_of_suc-le-suc h))

-- Where f takes each number below n that passes P to one below m that passes Q, no two to the same, P passes at most as often below n as Q below m.
pub count_injection : (P Q : ℕ → Bool) (n m : ℕ) (f : ℕ → ℕ)
    → ((v : ℕ) → v < n → P v ≡ true → (f v < m) × (Q (f v) ≡ true))
    → ((v w : ℕ) → v < n → w < n → P v ≡ true → P w ≡ true → f v ≡ f w → v ≡ w)
    → count P n ≤ count Q m
unfolding count
count_injection P Q zero m f into inj = zero-le
count_injection P Q (suc n) m f into inj =
    go
    (λ p. count_injection P Q n m f (λ v l. into v (omega arith)) (λ v w a b. inj v w (omega arith) (omega arith)))
    (λ p. count_injection P (without Q (f n)) n m f (kept p) (λ v w a b. inj v w (omega arith) (omega arith)))
    (P n) refl
  where
    kept : P n ≡ true → (v : ℕ) → v < n → P v ≡ true → (f v < m) × (without Q (f n) (f v) ≡ true)
    kept p v l t =
        let (b, q) = into v (omega arith) t in
        let other : eqb (f v) (f n) ≡ false = ne_eqb (f v) (f n) (λ e. let same = inj v n (omega arith) (le_refl (suc n)) t p e in omega arith) in
        (b, still Q (f n) (f v) q other)

    go : (P n ≡ false → count P n ≤ count Q m) → (P n ≡ true → count P n ≤ count (without Q (f n)) m) → (t : Bool) → P n ≡ t → bit (P n) + count P n ≤ count Q m
    go skip take true e = let (b, q) = into n (le_refl (suc n)) e in rw e (omega (arith, take e, count_without Q (f n) m b q))
    go skip take false e = rw e (omega (arith, skip e))

-- two counts, each bounded by the other
pub count_bijection : (P Q : ℕ → Bool) (n m : ℕ) (f g : ℕ → ℕ)
    → ((v : ℕ) → v < n → P v ≡ true → (f v < m) × (Q (f v) ≡ true) × (g (f v) ≡ v))
    → ((w : ℕ) → w < m → Q w ≡ true → (g w < n) × (P (g w) ≡ true) × (f (g w) ≡ w))
    → count P n ≡ count Q m
count_bijection P Q n m f g to back =
    le_antisymm
    (count_injection P Q n m f (λ v l p. let t = to v l p in (t.0, t.1)) (λ v w a b p q e. sym (to v a p).2 ∙ ap g e ∙ (to w b q).2))
    (count_injection Q P m n g (λ v l p. let t = back v l p in (t.0, t.1)) (λ v w a b p q e. sym (back v a p).2 ∙ ap f e ∙ (back w b q).2))
