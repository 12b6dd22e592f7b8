-- Siblings in a row: eight of them are a row of eight. Assumes nothing.
use mathlib.Core.Path.{◌≡◌, refl, sym, ap, ◌∙◌}
use mathlib.Core.Bool.{Bool, true, false, ◌&&◌}
use mathlib.Core.List.{List}
use Prim.Native.Nat.{ℕ, zero, suc, ◌+◌, ◌-◌, ◌*◌, ◌/◌, ◌%◌, ◌≤◌, ◌<◌, zero-le, suc-le-suc}
use native.Mathlib.Nat.{le_of_suc-le-suc}
use native.Mathlib.Omega.{arith}
use lib.Dec.{leb, eqb}
use lib.ListN.{get_or}
use borrow.Author.Tests.{le-leb, leb-true, eqb-true, eqb-false, eq-eqb, ne_eqb}
use Rattle.records.specs.Fault.{eight_at}
use Rattle.records.specs.Walk.{last_of, next_run, run_of}
use Rattle.cells.proofs.Bools.{both_true, clash}
use Rattle.records.proofs.Fault.{eight_true, eight_made}

-- ---- one code more: a first child, the next sibling, any other

pub next_first : (p r c : ℕ) → c % 8 ≡ 0 → next_run p r c ≡ suc (c % 8)
unfolding next_run
next_first p r c h = rw (next_run, eq-eqb (c % 8) 0 h)

pub next_more : (p r c : ℕ) → (c % 8 ≡ 0 → ⊥) → 0 < r → c - 1 ≡ p → next_run p r c ≡ suc (c % 8)
unfolding next_run
next_more p r c h a e = rw (next_run, ne_eqb (c % 8) 0 h, le-leb 1 r a, eq-eqb (c - 1) p e)

pub next_none : (p r c : ℕ) → (c % 8 ≡ 0 → ⊥) → (leb 1 r && eqb (c - 1) p) ≡ false → next_run p r c ≡ 0
unfolding next_run
next_none p r c h e = rw (next_run, ne_eqb (c % 8) 0 h, e)

same_at : (l : List ℕ) (i j : ℕ) → i ≡ j → get_or l i 0 ≡ get_or l j 0
same_at l i j e = ap (λ (n : ℕ). get_or l n 0) e

-- ---- the code c at i and those before it, down to the first child of its parent, stand in a row

abbrev InRow : List ℕ → ℕ → ℕ → Type 0
InRow l i c = (k : ℕ) → k ≤ c % 8 → (k ≤ i) × (get_or l (i - k) 0 + k ≡ c)

-- and so do those of the code before it, a sibling
row_before : (l : List ℕ) (i : ℕ) → (get_or l (suc i) 0 % 8 ≡ 0 → ⊥) → InRow l (suc i) (get_or l (suc i) 0) → (get_or l (suc i) 0 - 1 ≡ get_or l i 0) × InRow l i (get_or l i 0)
row_before l i later row =
    let (_, e) = row 1 (omega arith) in
    let back = same_at l (suc i - 1) i (omega arith) in
    (omega arith, λ k h. let (b, f) = row (suc k) (omega arith) in (le_of_suc-le-suc b, omega (arith, same_at l (suc i - suc k) (i - k) (omega arith))))

row_after : (l : List ℕ) (i : ℕ) → (get_or l (suc i) 0 % 8 ≡ 0 → ⊥) → get_or l (suc i) 0 - 1 ≡ get_or l i 0 → InRow l i (get_or l i 0) → InRow l (suc i) (get_or l (suc i) 0)
row_after l i later e row zero h = (zero-le, omega (arith, same_at l (suc i - 0) (suc i) (omega arith)))
row_after l i later e row (suc k) h =
    let (b, f) = row k (omega arith) in
    (suc-le-suc b, omega (arith, same_at l (suc i - suc k) (i - k) (omega arith)))

row_alone : (l : List ℕ) (i : ℕ) → get_or l i 0 % 8 ≡ 0 → InRow l i (get_or l i 0)
row_alone l i z k h = (omega arith, omega (arith, same_at l (i - k) i (omega arith)))

run_made : (l : List ℕ) (i : ℕ) → InRow l i (get_or l i 0) → run_of l (suc i) ≡ suc (get_or l i 0 % 8)
unfolding run_of last_of
run_made l zero row = next_first _ _ _ (first (get_or l 0 0 % 8) refl)
  where
    first : (n : ℕ) → get_or l 0 0 % 8 ≡ n → n ≡ 0
    first zero e = refl
    first (suc n) e = absurd (omega (arith, (row 1 (omega arith)).0))
run_made l (suc i) row = go (run_made l i) (eqb (get_or l (suc i) 0 % 8) 0) refl
  where
    go : (InRow l i (get_or l i 0) → run_of l (suc i) ≡ suc (get_or l i 0 % 8)) → (t : Bool) → eqb (get_or l (suc i) 0 % 8) 0 ≡ t → next_run (get_or l i 0) (run_of l (suc i)) (get_or l (suc i) 0) ≡ suc (get_or l (suc i) 0 % 8)
    go ih true h = next_first _ _ _ (eqb-true (get_or l (suc i) 0 % 8) 0 h)
    go ih false h =
        let later = eqb-false (get_or l (suc i) 0 % 8) 0 h in
        let (e, row') = row_before l i later row in
        next_more _ _ _ later (omega (arith, ih row')) e

run_true : (l : List ℕ) (i : ℕ) → (run_of l (suc i) ≡ 0 → ⊥) → (run_of l (suc i) ≡ suc (get_or l i 0 % 8)) × InRow l i (get_or l i 0)
unfolding run_of last_of
run_true l zero some = go (eqb (get_or l 0 0 % 8) 0) refl
  where
    go : (t : Bool) → eqb (get_or l 0 0 % 8) 0 ≡ t → (next_run 0 0 (get_or l 0 0) ≡ suc (get_or l 0 0 % 8)) × InRow l 0 (get_or l 0 0)
    go true h = let z = eqb-true (get_or l 0 0 % 8) 0 h in (next_first _ _ _ z, row_alone l 0 z)
    go false h = absurd (some (next_none _ _ _ (eqb-false (get_or l 0 0 % 8) 0 h) refl))
run_true l (suc i) some = go (run_true l i) (eqb (get_or l (suc i) 0 % 8) 0) refl (leb 1 (run_of l (suc i)) && eqb (get_or l (suc i) 0 - 1) (get_or l i 0)) refl
  where
    go : ((run_of l (suc i) ≡ 0 → ⊥) → (run_of l (suc i) ≡ suc (get_or l i 0 % 8)) × InRow l i (get_or l i 0)) → (t : Bool) → eqb (get_or l (suc i) 0 % 8) 0 ≡ t
        → (u : Bool) → (leb 1 (run_of l (suc i)) && eqb (get_or l (suc i) 0 - 1) (get_or l i 0)) ≡ u
        → (next_run (get_or l i 0) (run_of l (suc i)) (get_or l (suc i) 0) ≡ suc (get_or l (suc i) 0 % 8)) × InRow l (suc i) (get_or l (suc i) 0)
    go ih true h u g = let z = eqb-true (get_or l (suc i) 0 % 8) 0 h in (next_first _ _ _ z, row_alone l (suc i) z)
    go ih false h false g = absurd (some (next_none _ _ _ (eqb-false (get_or l (suc i) 0 % 8) 0 h) g))
    go ih false h true g =
        let (a, b) = both_true (leb 1 (run_of l (suc i))) (eqb (get_or l (suc i) 0 - 1) (get_or l i 0)) g in
        let pos : 1 ≤ run_of l (suc i) = leb-true 1 (run_of l (suc i)) a in
        let e = eqb-true (get_or l (suc i) 0 - 1) (get_or l i 0) b in
        let later = eqb-false (get_or l (suc i) 0 % 8) 0 h in
        (next_more _ _ _ later pos e, row_after l i later e (ih (λ z. omega arith)).1)

-- a row is as long as its last label says
pub run_last : (l : List ℕ) (i : ℕ) → (run_of l i ≡ 0 → ⊥) → run_of l i ≡ suc (last_of l i % 8)
unfolding run_of last_of
run_last l zero some = absurd (some refl)
run_last l (suc i) some = (run_true l i some).0

-- eight siblings are a row of eight
pub eight_run : (l : List ℕ) (i : ℕ) → (leb 7 i && eight_at l (i - 7)) ≡ eqb (run_of l (suc i)) 8
eight_run l i = go (leb 7 i && eight_at l (i - 7)) refl
  where
    go : (t : Bool) → (leb 7 i && eight_at l (i - 7)) ≡ t → t ≡ eqb (run_of l (suc i)) 8
    go true e =
        let (a, b) = both_true (leb 7 i) (eight_at l (i - 7)) e in
        let s : 7 ≤ i = leb-true 7 i a in
        let p : ℕ = get_or l (i - 7) 0 / 8 in
        let at : (k : ℕ) → k ≤ 7 → get_or l (i - k) 0 ≡ 8 * p + (7 - k) = λ k h. same_at l (i - k) (i - 7 + (7 - k)) (omega arith) ∙ eight_true l (i - 7) b (7 - k) (omega arith) in
        let here : get_or l i 0 ≡ 8 * p + 7 = omega (arith, at 0 zero-le, same_at l (i - 0) i (omega arith)) in
        sym (eq-eqb (run_of l (suc i)) 8 (run_made l i (λ k h. (omega arith, omega (arith, at k (omega arith)))) ∙ omega arith))
    go false e =
        sym
        (ne_eqb (run_of l (suc i)) 8
        (λ h.
        let (f, row) = run_true l i (λ z. omega arith) in
        let s : 7 ≤ i = (row 7 (omega arith)).0 in
        clash (rw (le-leb 7 i s) (eight_made l (i - 7) (get_or l i 0 / 8) (λ j b. let (_, g) = row (7 - j) (omega arith) in same_at l (i - 7 + j) (i - (7 - j)) (omega arith) ∙ omega (arith, g)))) e))
