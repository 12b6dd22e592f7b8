-- Laws of the emitter: a white and a black piece, the next cell of a pending run, the end; and writers one after the other. Assumes nothing.
use mathlib.Core.Path.{◌≡◌, refl, sym, ap, ◌∙◌, subst}
use mathlib.Core.List.Memᴰ
use mathlib.Core.List.{List, [], ◌∷◌, ◌++◌}
use mathlib.Core.Bool.{Bool, true, false, ◌||◌, or-false}
use mathlib.Core.Logic.{◌⊎◌, inl, inr, ⊎_elim}
use Prim.Native.Nat.{ℕ, ◌+◌, ◌*◌, ◌/◌, ◌^◌, ◌<◌, ◌≤◌}
use native.Mathlib.Omega.{arith}
use lib.ListN.{set, length-append}
use lib.Seq.{sets}
use Rattle.cells.specs.Cell.{holds}
use Rattle.cells.proofs.Power.{le_or_lt}
use Rattle.records.specs.Record.{black, Ordered}
use Rattle.records.specs.Inner.{White}
use Rattle.records.proofs.Lists.{holds_between, before_cell, after_cell, black_held, black_past}
use Rattle.records.proofs.Leaves.{black_append, ordered_snoc}
use Rattle.records.proofs.Parents.{capped_condensed}
use Rattle.records.proofs.Writing.{sets_append}
use Rattle.emit.specs.declared.inner.Runs.{Runs}
use Rattle.emit.specs.Inner.{Fit, Ready, fresh, Laid, Emitted, Fed, Result}
use Rattle.emit.proofs.Fits.{fit_some, Fitted, fitted, fitted_capped}

-- a voxel outside a leaf is white in the list of that leaf alone
black_missed : (D c v : ℕ) → holds D c v ≡ false → black D (c ∷ []) v ≡ false
unfolding black
black_missed D c v e = black_past D c [] v e

-- ---- the emitter's state

module _ (D : ℕ) (P : ℕ → Bool) (o : List ℕ) where
  -- nothing yet
  pub emit_none : Emitted D P o o 0 (fresh 0 0)
  unfolding Ordered black
  emit_none = record {
    codes = record { cells = []; ordered = tt; below = λ v a. absurd (omega arith); above = λ v a. refl; capped = λ q m. absurd (Memᴰ.not-nil m); count = refl; written = refl };
    run = λ v a b. absurd (omega arith);
    gap = λ v a b. absurd (omega arith);
  }

  -- a white piece [pos, to): only the position moves
  pub emit_white : (out : List ℕ) (pos to : ℕ) (r : Runs) → ((v : ℕ) → pos ≤ v → v < to → P v ≡ false) → Emitted D P o out pos r → Emitted D P o out to r
  emit_white out pos to r white e = record {
    codes = e.codes;
    run = e.run;
    gap = λ v a b. ⊎_elim (λ (g : pos ≤ v). white v g b) (λ (g : v < pos). e.gap v a g) (le_or_lt pos v);
  }

  -- a black piece [pos, to) goes on with a pending run that ends at pos
  pub emit_black : (out : List ℕ) (pos to from at : ℕ) → ((v : ℕ) → pos ≤ v → v < to → P v ≡ true)
      → Emitted D P o out pos (record { from = from; to = pos; at = at }) → Emitted D P o out to (record { from = from; to = to; at = at })
  emit_black out pos to from at full e = record {
    codes = e.codes;
    run = λ v a b. ⊎_elim (λ (g : pos ≤ v). full v g b) (λ (g : v < pos). e.run v a g) (le_or_lt pos v);
    gap = λ v a b. absurd (omega arith);
  }

  -- the next cell of a pending run that is over
  pub emit_cell : (out out' : List ℕ) (pos p to n w : ℕ) → to ≤ 8 ^ D → (to < 8 ^ D → to < pos) → Fit p to w → out' ≡ set out n ((8 ^ D + p) / w)
      → Emitted D P o out pos (record { from = p; to = to; at = n }) → Emitted D P o out' pos (record { from = p + w; to = to; at = n + 1 })
  emit_cell out out' pos p to n w root over f put e = record {
    codes = record {
      cells = l ++ (c ∷ []);
      ordered = ordered_snoc D 0 p l c k.ordered k.above x.is_proper (omega arith) (omega (arith, x.is_start));
      below = λ v h. black_append D l (c ∷ []) v ∙ colour v (le_or_lt p v) h;
      above = λ v h.
          black_append D l (c ∷ []) v
          ∙ rw (k.above v (omega arith)) (black_missed D c v (after_cell D c v (omega (arith, x.is_start, x.is_span))));
      capped = λ q m. ⊎_elim (λ a. k.capped q a) (λ b. ends q (Memᴰ.eq_of_singleton b)) (Memᴰ.append_cases l m);
      count = omega (arith, k.count, length-append l (c ∷ []));
      written = put ∙ ap (λ (x : List ℕ). set x n c) k.written ∙ ap (λ (m : ℕ). set (sets o 0 l) m c) (omega (arith, k.count)) ∙ sym (sets_append o 0 l (c ∷ []));
    };
    run = λ v a b. e.run v (omega arith) b;
    gap = e.gap;
  }
    where
      k : Laid D P o out p n
      k = e.codes

      l : List ℕ
      l = k.cells

      c : ℕ
      c = (8 ^ D + p) / w

      x : Fitted D p w c
      x = fitted D p to w root f

      colour : (v : ℕ) → (p ≤ v) ⊎ (v < p) → v < p + w → (black D l v || black D (c ∷ []) v) ≡ P v
      colour v (inl h) g =
          rw (k.above v h, black_held D c [] v (holds_between D c v (omega (arith, x.is_start)) (omega (arith, x.is_start, x.is_span))))
          (sym (e.run v h (omega (arith, f.fits))))
      colour v (inr h) g =
          rw (black_missed D c v (before_cell D c v (omega (arith, x.is_start)))) (or-false (black D l v) ∙ k.below v h)

      ends : (q : ℕ) → 8 * q ≡ c → White D P q
      ends q m = let (a, b) = fitted_capped D p to w root f q m in record { voxel = to; inside = b; white = e.gap to (omega arith) (over a) }

  -- the pending run is all written, and the white voxels up to pos are behind it
  pub emit_flushed : (out : List ℕ) (pos p to n : ℕ) → p ≡ to → to ≤ pos → Emitted D P o out pos (record { from = p; to = to; at = n }) → Emitted D P o out pos (fresh pos n)
  emit_flushed out pos p to n same past e =
      let k = e.codes in
      record {
        codes = record {
          cells = k.cells;
          ordered = k.ordered;
          below = λ v h. ⊎_elim (λ (g : p ≤ v). k.above v g ∙ sym (e.gap v (omega arith) h)) (λ (g : v < p). k.below v g) (le_or_lt p v);
          above = λ v h. k.above v (omega arith);
          capped = k.capped;
          count = k.count;
          written = k.written;
        };
        run = λ v a b. absurd (omega arith);
        gap = λ v a b. absurd (omega arith);
      }

  -- ---- the end

  -- all is known, and no run is pending
  pub emit_done : (out : List ℕ) (n : ℕ) → Emitted D P o out (8 ^ D) (fresh (8 ^ D) n) → Result D P o out n
  emit_done out n e =
      let k = e.codes in
      record {
        cells = k.cells;
        good = record { ordered = k.ordered; condensed = capped_condensed D P k.cells k.ordered k.below k.capped };
        same = k.below;
        count = k.count;
        written = k.written;
      }

-- ---- writers

-- at the beginning
pub ready_none : {D : ℕ} → Ready D (fresh 0 0) 0
ready_none = record { run = omega arith; past = omega arith; few = omega arith; root = omega arith }

-- past the next cell of the pending run
pub ready_cell : {D pos p to n w : ℕ} → Fit p to w → Ready D (record { from = p; to = to; at = n }) pos → Ready D (record { from = p + w; to = to; at = n + 1 }) pos
ready_cell f h = record { run = f.fits; past = h.past; few = omega (arith, h.few, fit_some f); root = h.root }

module _ (D : ℕ) (P : ℕ → Bool) where
  -- nothing is read
  pub fed_none : (from : ℕ) (out : List ℕ) (r : Runs) → Ready D r from → Fed D P from from out r out r
  fed_none from out r h = record { ready = h; emits = λ o e. e }

  -- white voxels are passed over
  pub fed_white : (from to : ℕ) (out : List ℕ) (r : Runs) → from ≤ to → to ≤ 8 ^ D → ((v : ℕ) → from ≤ v → v < to → P v ≡ false) → Ready D r from → Fed D P from to out r out r
  fed_white from to out r a b white h = record {
    ready = record { run = h.run; past = omega (arith, h.past); few = h.few; root = b };
    emits = λ o e. emit_white D P o out from to r white e;
  }

  -- a black piece goes on with a pending run that ends where it begins
  pub fed_black : (from to : ℕ) (out : List ℕ) (r : Runs) → r.to ≡ from → from < to → to ≤ 8 ^ D → ((v : ℕ) → from ≤ v → v < to → P v ≡ true) → Ready D r from
      → Fed D P from to out r out (record { from = r.from; to = to; at = r.at })
  fed_black from to out r e a b full h = record {
    ready = record { run = omega (arith, h.run); past = omega arith; few = h.few; root = b };
    emits = λ o x. emit_black D P o out from to r.from r.at full (subst (λ (y : ℕ). Emitted D P o out from (record { from = r.from; to = y; at = r.at })) e x);
  }

  -- the same end by another name
  pub fed_to : {from to to' : ℕ} {out out' : List ℕ} {r s : Runs} → to ≡ to' → Fed D P from to out r out' s → Fed D P from to' out r out' s
  fed_to {from} {to} {to'} {out} {out'} {r} {s} e x = subst (λ (y : ℕ). Fed D P from y out r out' s) e x

  -- one writer after the other
  pub fed_then : {a b c : ℕ} {out₁ out₂ out₃ : List ℕ} {r₁ r₂ r₃ : Runs} → Fed D P a b out₁ r₁ out₂ r₂ → Fed D P b c out₂ r₂ out₃ r₃ → Fed D P a c out₁ r₁ out₃ r₃
  fed_then x y = record { ready = y.ready; emits = λ o e. y.emits o (x.emits o e) }

  -- the next cell of a pending run that is over is put
  pub fed_cell : {out out' : List ℕ} {pos p to n w : ℕ} → (to < 8 ^ D → to < pos) → Fit p to w → out' ≡ set out n ((8 ^ D + p) / w) → Ready D (record { from = p; to = to; at = n }) pos
      → Fed D P pos pos out (record { from = p; to = to; at = n }) out' (record { from = p + w; to = to; at = n + 1 })
  fed_cell {out} {out'} {pos} {p} {to} {n} {w} over f put h = record {
    ready = ready_cell f h;
    emits = λ o e. emit_cell D P o out out' pos p to n w (omega (arith, h.past, h.root)) over f put e;
  }

  -- all of it is put
  pub fed_flushed : {out : List ℕ} {pos p to n : ℕ} → to ≤ p → Ready D (record { from = p; to = to; at = n }) pos → Fed D P pos pos out (record { from = p; to = to; at = n }) out (fresh pos n)
  fed_flushed {out} {pos} {p} {to} {n} g h = record {
    ready = record { run = omega arith; past = omega arith; few = omega (arith, h.few, h.run, h.past); root = h.root };
    emits = λ o e. emit_flushed D P o out pos p to n (omega (arith, h.run)) h.past e;
  }

  -- a writer of all voxels
  pub fed_all : (o out : List ℕ) (r : Runs) → Fed D P 0 (8 ^ D) o (fresh 0 0) out r → Emitted D P o out (8 ^ D) r
  fed_all o out r x = x.emits o (emit_none D P o)

-- the end of all writers, over the buffer o that was lent: what `finish` says at the emitter's depth d, which is D
pub finished : {D d : ℕ} {P : ℕ → Bool} {o lent mid end out : List ℕ} {r s : Runs} {n : ℕ} → lent ≡ o → r ≡ fresh 0 0 → Fed D P 0 (8 ^ D) lent r mid s → d ≡ D
    → ((Q : ℕ → Bool) (q : List ℕ) → Emitted d Q q mid (8 ^ d) s → Result d Q q end n) → out ≡ end → Result D P o out n
finished {D} {d} {P} {o} {lent} {mid} {end} {out} {r} {s} {n} codes begun x depth ends last =
    let all : Fed D P 0 (8 ^ D) lent (fresh 0 0) mid s = rw begun at x in
    let told : Emitted D P lent mid (8 ^ D) s → Result D P lent end n = rw depth at (ends P lent) in
    rw (last, ← codes) (told (fed_all D P lent mid s all))
