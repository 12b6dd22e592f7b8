-- Laws of a call that writes all of a good list or nothing: a pass that only counts, and one that writes, give its answer, and no second answer fits.
-- P is the set as the emitter was fed, Q the same set in the words of the call. Assumes nothing.
use mathlib.Core.Path.{◌≡◌, sym, ap, ◌∙◌}
use mathlib.Core.Logic.{◌↔◌}
use mathlib.Core.List.{List, ◌++◌}
use mathlib.Core.Bool.{Bool, true}
use Prim.Native.Nat.{ℕ, ◌^◌, ◌<◌, ◌≤◌}
use native.Mathlib.Omega.{arith}
use lib.ListN.{length, take, drop}
use Rattle.cells.specs.Answer.{answer, given}
use Rattle.cells.specs.declared.Answer.{Answer}
use Rattle.cells.proofs.Decisions.{One}
use Rattle.records.specs.Record.{ListOf}
use Rattle.records.specs.Writing.{WritesListOf}
use Rattle.records.proofs.OneList.{one_list, list_same}
use Rattle.emit.specs.Inner.{Result}
use Rattle.records.proofs.Writing.{sets_front, sets_empty, one_writes, too_short, standing}

-- ---- two passes of an emitter: one on the empty part of the buffer, which counts, and one on all of it

module _ (D : ℕ) (P : ℕ → Bool) (Q : ℕ → Type 0) (exactly : (v : ℕ) → v < 8 ^ D → (P v ≡ true) ↔ Q v) where
  -- what is put is the list of the voxels that have Q
  pub result_list : {o out : List ℕ} {n : ℕ} (x : Result D P o out n) → ListOf D Q x.cells
  result_list x = list_same D (λ v. P v ≡ true) Q x.cells exactly (record { good = x.good; exactly = λ v h. let e = x.same v h in (λ b. sym e ∙ b, λ p. e ∙ p) })

  -- all of it is put over a buffer that has room for it
  pub put_whole : {o out : List ℕ} {n : ℕ} {a : Answer} → a ≡ given n → n ≤ length o → Result D P o out n → WritesListOf D Q o (a, out)
  put_whole {o} {out} {n} {a} e room x =
      let l : List ℕ = x.cells in
      (l, result_list x, standing l o n x.count a out room e (x.written ∙ sets_front o l (omega (arith, x.count))))

  -- after the first pass the buffer is the part lent, none of it, and all the rest
  module _ {o part : List ℕ} {n : ℕ} (counted : Result D P (take 0 o) part n) where
    untouched : part ++ drop 0 o ≡ o
    untouched = ap (λ (b : List ℕ). b ++ o) (counted.written ∙ sets_empty 0 counted.cells)

    -- it finds too little room
    pub crowded : {a : Answer} → a ≡ answer 8 n 0 → length (part ++ drop 0 o) < n → WritesListOf D Q o (a, part ++ drop 0 o)
    crowded e h = (counted.cells, result_list counted, too_short counted.cells o n counted.count _ _ (omega (arith, ap length untouched)) e untouched)

    -- it finds room, and the second pass writes
    pub written : {a : Answer} {out : List ℕ} {n' : ℕ} → a ≡ given n' → n ≤ length (part ++ drop 0 o) → Result D P (part ++ drop 0 o) out n' → WritesListOf D Q o (a, out)
    written {a} {out} {n'} e h wrote =
        let same : counted.cells ≡ wrote.cells = one_list D Q _ _ (result_list counted) (result_list wrote) in
        put_whole e (omega (arith, ap length same, ap length untouched, counted.count, wrote.count)) (rw untouched at wrote)

-- ---- no second answer fits

pub one_list_written : (D : ℕ) (Q : ℕ → Type 0) (o : List ℕ) → One (WritesListOf D Q o)
one_list_written D Q o r s (l, x, w) (m, y, w') = one_writes l o r s w (rw (one_list D Q l m x y) w')
