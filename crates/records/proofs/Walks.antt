-- The walk along a list finds its first fault. Assumes nothing.
use mathlib.Core.Path.{◌≡◌, refl, sym, ap, ◌∙◌}
use mathlib.Core.Bool.{true, false}
use mathlib.Core.Logic.{⊎_elim}
use mathlib.Core.List.{List, [], ◌∷◌}
use Prim.Native.Nat.{ℕ, zero, suc, ◌+◌, ◌≤◌, ◌<◌, zero-le}
use native.Mathlib.Nat.{eq-or-lt_of_le, le_of_suc-le-suc}
use native.Mathlib.Numerals.{add-one}
use native.Mathlib.Omega.{arith}
use lib.Dec.{ltb, eqb}
use lib.ListN.{length, get_or}
use borrow.Author.Tests.{lt-ltb, le-ltb, ne_eqb}
use Rattle.cells.specs.Answer.{answer}
use Rattle.cells.specs.declared.Answer.{Answer}
use Rattle.cells.specs.Cell.{proper, start, span, end}
use Rattle.records.specs.Record.{Good}
use Rattle.records.specs.Fault.{early, fault, Faulty}
use Rattle.records.specs.Inner.{volume}
use Rattle.records.specs.Walk.{last_of, past_of, voxels, next_run, run_of, Faultless, Stopped}
use Rattle.cells.specs.Refusals.{fault_number}
use Rattle.cells.specs.declared.refusals.Fault.{Fault}
use Rattle.records.specs.declared.inner.Stop.{Stop}
use Rattle.records.specs.declared.inner.Walk.{Walk}
use Rattle.cells.proofs.Cells.{within, span_pos}
use Rattle.records.proofs.Fault.{fault_of, fault_table, not_early, faultless_good}
use Rattle.records.proofs.First.{good_passes}
use Rattle.records.proofs.Rows.{eight_run}

-- ---- the fault at an index, by what is kept

early_past : (D : ℕ) (l : List ℕ) (i : ℕ) → early D l i ≡ ltb (start D (get_or l i 0)) (past_of D l i)
unfolding past_of early
early_past D l zero = sym (le-ltb (start D (get_or l 0 0)) 0 zero-le)
early_past D l (suc i) = not_early D l i

fault_is : (D : ℕ) (l : List ℕ) (i : ℕ) → fault D l i ≡ fault_of (proper D (get_or l i 0)) (ltb (start D (get_or l i 0)) (past_of D l i)) (eqb (run_of l (suc i)) 8)
fault_is D l i = rw (fault_table D l i, early_past D l i, eight_run l i)

-- ---- the walk's beginning and a step: c is the next code

pub walk_begins : (D : ℕ) (l : List ℕ) (w : Walk) → (w.passed ≡ 0) × ((w.last ≡ 0) × ((w.past ≡ 0) × ((w.run ≡ 0) × (w.sum ≡ 0)))) → Faultless D l 0 w
unfolding last_of past_of voxels run_of
walk_begins D l w (passed, (last, (past, (run, sum)))) =
    record { faultless = λ j h. absurd (omega arith); is_passed = passed; is_last = last; is_past = past; is_run = run; is_sum = sum; few = omega arith; count = zero-le; within = omega arith }

module _ {D : ℕ} {l : List ℕ} {i : ℕ} {w : Walk} {c : ℕ} (k : Faultless D l i w) (e : get_or l i 0 ≡ c) where
  next_is : run_of l (suc i) ≡ next_run w.last w.run c
  unfolding run_of
  next_is = rw (k.is_last, k.is_run, e)

  -- the fault, by what is kept
  by_kept : fault D l i ≡ fault_of (proper D c) (ltb (start D c) w.past) (eqb (next_run w.last w.run c) 8)
  by_kept = rw (fault_is D l i, next_is, e, k.is_past)

  pub improper : proper D c ≡ false → fault D l i ≡ 2
  improper p = rw (by_kept, p)

  pub too_early : proper D c ≡ true → start D c < w.past → fault D l i ≡ 3
  too_early p h = rw (by_kept, p, lt-ltb (start D c) w.past h)

  pub eighth : proper D c ≡ true → w.past ≤ start D c → next_run w.last w.run c ≡ 8 → fault D l i ≡ 4
  eighth p h r = rw (by_kept, p, le-ltb (start D c) w.past h, r)

  -- a fault ends the walk
  pub stops : (n : Fault) → (fault_number n ≡ 0 → ⊥) → fault D l i ≡ fault_number n → Stopped D l (i + 1) (record { fault = n; at = w.passed })
  stops n some f =
      record {
        stopped = rw k.is_passed (record { below = omega arith; here = λ z. some (sym f ∙ z); before = λ j h bad. bad (k.faultless j h) });
        is_number = sym f ∙ ap (fault D l) (sym k.is_passed);
      }

  pub goes : proper D c ≡ true → w.past ≤ start D c → (next_run w.last w.run c ≡ 8 → ⊥)
      → (r : Walk) → r.passed ≡ w.passed + 1 → r.last ≡ c → r.past ≡ end D c → r.run ≡ next_run w.last w.run c → r.sum ≡ w.sum + span D c → Faultless D l (i + 1) r
  unfolding last_of past_of voxels
  goes p h some r passed last past run sum =
      let none : fault D l i ≡ 0 = rw (by_kept, p, le-ltb (start D c) w.past h, ne_eqb (next_run w.last w.run c) 8 some) in
      rw add-one
      (record {
        faultless = λ j b. ⊎_elim (λ (x : j ≡ i). ap (fault D l) x ∙ none) (k.faultless j) (eq-or-lt_of_le (le_of_suc-le-suc b));
        is_passed = omega (arith, k.is_passed);
        is_last = last ∙ sym e;
        is_past = past ∙ ap (end D) (sym e);
        is_run = run ∙ sym next_is;
        is_sum = sum ∙ rw (e, k.is_sum);
        few = omega (arith, k.few);
        count = omega (arith, k.count, span_pos D c);
        within = omega (arith, within D c p);
      })

-- ---- the voxels

voxels_cons : (D c : ℕ) (l : List ℕ) (i : ℕ) → voxels D (c ∷ l) (suc i) ≡ span D c + voxels D l i
unfolding voxels
voxels_cons D c l zero = omega arith
voxels_cons D c l (suc i) = omega (arith, voxels_cons D c l i)

voxels_all : (D : ℕ) (l : List ℕ) → voxels D l (length l) ≡ volume D l
unfolding volume voxels
voxels_all D [] = refl
voxels_all D (c ∷ l) = voxels_cons D c l (length l) ∙ ap (λ (n : ℕ). span D c + n) (voxels_all D l)

-- ---- what a walk along the whole list tells

pub stopped_refuses : (D : ℕ) (l : List ℕ) (s : Stop) → Stopped D l (length l) s → (n : ℕ) → Faulty D l n (answer (fault_number s.fault) s.at n)
stopped_refuses D l s k n = (s.at, k.stopped, ap (λ (x : ℕ). answer x s.at n) k.is_number)

module _ (D : ℕ) (l : List ℕ) (w : Walk) (k : Faultless D l (length l) w) where
  pub walked_good : Good D l
  walked_good = faultless_good D l k.faultless

  pub walked_passes : (n : ℕ) (a : Answer) → Faulty D l n a → ⊥
  walked_passes n = good_passes D l n walked_good

  pub walked_volume : w.sum ≡ volume D l
  walked_volume = k.is_sum ∙ voxels_all D l
