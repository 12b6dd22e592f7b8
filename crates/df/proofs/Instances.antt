-- For each public call of this crate answers that fit its definition at a named input, and answers that do not: lists with their texts, computed, and texts that are
-- refused. Assumes nothing.
use mathlib.Core.Path.{◌≡◌, refl, sym, ap, subst}
use mathlib.Core.Bool.{Bool, true, false}
use mathlib.Core.List.Memᴰ
use mathlib.Core.List.{List, [], ◌∷◌, ◌++◌}
use Prim.Native.Nat.{ℕ, suc, ◌+◌, ◌*◌, ◌≤◌, zero-le}
use native.Mathlib.Omega.{arith}
use lib.Dec.{ltb}
use lib.ListN.{length, get_or, replicate, length-append}
use lib.Seq.{drop-append_seam}
use Rattle.cells.specs.Answer.{answer, given, deepest}
use Rattle.cells.specs.declared.Answer.{Answer}
use Rattle.cells.specs.Cell.{level, index, span, start, holds}
use Rattle.records.specs.Record.{black, Ordered, Condensed, Good}
use Rattle.records.specs.Fault.{all_from}
use Rattle.records.specs.Writing.{WritesOf}
use Rattle.records.proofs.Fill.{upto, leaves, good_list, is_good, root_at}
use Rattle.records.proofs.Lists.{holds_between}
use Rattle.records.proofs.Writing.{writes_fitting, too_short}
use Rattle.df.specs.Df.{leaf, letter, texts, spell, Allowed, shows, DfReadOf, DfOf, DfWriteOf}
use Rattle.df.specs.Inner.{Reads, Stuck, head_of, ReadTextOf}
use Rattle.df.proofs.Spells.{letter_opens, letter_some}
use Rattle.df.proofs.Halves.{stuck_here, stuck_child, stuck_eighth}
use Rattle.df.proofs.Texts.{root_stuck, root_followed}
use Rattle.df.proofs.CallLaws.{read_refused, one_df_read, one_df_write}
use Rattle.df.proofs.Theorems.{drawn, df_text, is_text, Form, df_read_exactly, df_write_exactly}

-- ---- lists and their texts

-- what is computed is right
computed : (D : ℕ) (l t : List ℕ) → good_list D (black D l) ≡ l → df_text D l ≡ t → Form D l t
computed D l t good text = record { good = subst (Good D) good (is_good D (black D l)); is_df = subst (DfOf D l) text (is_text D l) }

-- "(BWWWWWWW": depth 1, [r0]
abbrev pub r0_text : List ℕ
r0_text = 40 ∷ 66 ∷ replicate 7 87

pub r0_form : Form 1 (8 ∷ []) r0_text
unfolding level index span start holds black all_from upto leaves good_list drawn head_of texts spell
r0_form = computed 1 (8 ∷ []) r0_text refl refl

-- "((WWWWW(WWWWWWWBWWWWWWWWW": depth 3, [r057]
pub r057_form : Form 3 (559 ∷ []) (40 ∷ 40 ∷ replicate 5 87 ++ 40 ∷ replicate 7 87 ++ 66 ∷ replicate 9 87)
unfolding level index span start holds black all_from upto leaves good_list drawn head_of texts spell
r057_form = computed 3 (559 ∷ []) _ refl refl

-- at each depth the empty list is "W"
pub none_form : (D : ℕ) → Form D [] (87 ∷ [])
unfolding Ordered Condensed black Allowed shows spell
none_form D = record {
  good = record { ordered = tt; condensed = λ p all. Memᴰ.not-nil (all 0 (omega arith)) };
  is_df = record { text = record { tree = leaf false; allowed = tt; spelled = refl }; same = λ v h. refl };
}

-- and [r] is "B"
pub root_form : (D : ℕ) → Form D (1 ∷ []) (66 ∷ [])
unfolding Ordered Condensed black Allowed shows spell
root_form D =
    let root = root_at D in
    record {
      good = record {
        ordered = (root.is_proper, zero-le, tt);
        condensed = λ p all.
            let e : 8 * p + 0 ≡ 1 = Memᴰ.eq_of_singleton (all 0 (omega arith)) in
            omega arith;
      };
      is_df = record {
        text = record { tree = leaf true; allowed = tt; spelled = refl };
        same = λ v h. let held : holds D 1 v ≡ true = holds_between D 1 v (omega (arith, root.is_start)) (omega (arith, root.is_start, root.is_span)) in rw held;
      };
    }

-- ---- depth 1, [r0]

r0_read : {o : List ℕ} {r : Answer} {after : List ℕ} → WritesOf (8 ∷ []) o (r, after) → DfReadOf 1 r0_text o r after
r0_read {o} {r} {after} = (df_read_exactly 1 (8 ∷ []) r0_text (omega arith) r0_form o r after).1

r0_written : {o : List ℕ} {r : Answer} {after : List ℕ} → WritesOf r0_text o (r, after) → DfWriteOf 1 (8 ∷ []) o r after
r0_written {o} {r} {after} = (df_write_exactly 1 (8 ∷ []) r0_text (omega arith) r0_form o r after).1

-- a buffer of two places: the code, and the second place as it was
pub df_read_holds : DfReadOf 1 r0_text (7 ∷ 7 ∷ []) (given 1) (8 ∷ 7 ∷ [])
df_read_holds = r0_read (writes_fitting (8 ∷ []) (7 ∷ 7 ∷ []) (omega arith))

pub df_read_fails : DfReadOf 1 r0_text (7 ∷ 7 ∷ []) (given 2) (8 ∷ 7 ∷ []) → ⊥
df_read_fails h = let e : ◌≡◌ {A = ℕ} 2 1 = ap (λ (t : Answer × List ℕ). t.0.place) (one_df_read 1 r0_text (7 ∷ 7 ∷ []) _ _ h df_read_holds) in omega arith

-- nine bytes and one more, which stays
pub df_write_holds : DfWriteOf 1 (8 ∷ []) (replicate 10 7) (given 9) (r0_text ++ 7 ∷ [])
df_write_holds = r0_written (writes_fitting r0_text (replicate 10 7) (omega arith))

pub df_write_fails : DfWriteOf 1 (8 ∷ []) (replicate 10 7) (given 9) (replicate 10 7) → ⊥
df_write_fails h = let e : ◌≡◌ {A = ℕ} 7 40 = ap (λ (t : Answer × List ℕ). get_or t.1 0 0) (one_df_write 1 (8 ∷ []) (replicate 10 7) _ _ h df_write_holds) in omega arith

-- no place, and no byte: 8, with those needed
pub df_read_crowded : DfReadOf 1 r0_text [] (answer 8 1 0) []
df_read_crowded = r0_read (too_short (8 ∷ []) [] 1 refl _ _ (omega arith) refl refl)

pub df_write_crowded : DfWriteOf 1 (8 ∷ []) [] (answer 8 9 0) []
df_write_crowded = r0_written (too_short r0_text [] 9 refl _ _ (omega arith) refl refl)

-- ---- texts that are refused

-- the text t is refused at place i, whatever the buffer: not one place further, and not taken
pub record Refused (D : ℕ) (t : List ℕ) (i : ℕ) : Type 0 where
  pub told : (o : List ℕ) → DfReadOf D t o (answer 10 i 0) o
  pub further : (o o' : List ℕ) → DfReadOf D t o (answer 10 (suc i) 0) o' → ⊥
  pub taken : (n : ℕ) (o o' : List ℕ) → DfReadOf D t o (given n) o' → ⊥

module _ {D : ℕ} {t : List ℕ} {i : ℕ} where
  refused_at : D ≤ deepest → ReadTextOf D t [] [] (answer 10 i 0) → Refused D t i
  refused_at shallow wrong = record {
    told = told;
    further = λ o o' h. let e : suc i ≡ i = ap (λ (s : Answer × List ℕ). s.0.place) (one_df_read D t o _ _ h (told o)) in omega arith;
    taken = λ n o o' h. let e : ◌≡◌ {A = ℕ} 0 10 = ap (λ (s : Answer × List ℕ). s.0.number) (one_df_read D t o _ _ h (told o)) in omega arith;
  }
    where
      told : (o : List ℕ) → DfReadOf D t o (answer 10 i 0) o
      told o = read_refused D t o shallow {part = []} wrong (λ z. omega arith) refl

  -- it is wrong in the root
  wrong_in_root : D ≤ deepest → Stuck D t 0 i → Refused D t i
  wrong_in_root shallow x = refused_at shallow (root_stuck D t [] [] x refl)

-- the bytes from the beginning of a text on, and what stands after them
read_whole : (p s : List ℕ) → Reads (p ++ s) 0 p (length p)
read_whole p s = record { rest = ap (λ (q : List ℕ). p ++ q) (sym (drop-append_seam p s)); place = omega arith; within = omega (arith, length-append p s) }

-- nothing at all
pub empty_text : Refused 1 [] 0
empty_text = wrong_in_root (omega arith) (stuck_here 1 [] 0 (omega arith) (λ b e. letter_some b (sym e)) (λ e. omega arith))

-- "(" at depth 0
pub below_depth : Refused 0 (40 ∷ []) 0
below_depth = wrong_in_root (omega arith) (stuck_here 0 (40 ∷ []) 0 (omega arith) (λ b e. letter_opens b (sym e)) (λ e. refl))

-- "BW": a byte after the root
pub after_root : Refused 1 (66 ∷ 87 ∷ []) 1
unfolding spell Allowed
after_root = refused_at (omega arith) (root_followed 1 (66 ∷ 87 ∷ []) [] [] (leaf true) tt (read_whole (66 ∷ []) (87 ∷ [])) (omega arith) refl)

-- "(BBBBBBBB": eight equal leaves
pub eight_alike : Refused 1 (40 ∷ replicate 8 66) 8
unfolding texts spell
eight_alike = wrong_in_root (omega arith) (stuck_eighth 0 (λ i. leaf true) true (λ i h. refl) (40 ∷ replicate 8 66) 0 8 9 (read_whole (40 ∷ replicate 8 66) []) refl)

-- "(BW" and then no letter; no "(" either, which would lie below the depth
two_leaves : (s : List ℕ) → ((b : Bool) → get_or s 0 0 ≡ letter b → ⊥) → Refused 1 (40 ∷ 66 ∷ 87 ∷ s) 3
unfolding texts spell Allowed
two_leaves s none = wrong_in_root (omega arith) (stuck_child 0 2 (omega arith) (λ i. leaf (ltb i 1)) (λ i h. tt) (read_whole (40 ∷ 66 ∷ 87 ∷ []) s) (stuck_here 0 (40 ∷ 66 ∷ 87 ∷ s) 3 (omega arith) none (λ e. refl)))

-- "(BW": it stops early
pub stops_early : Refused 1 (40 ∷ 66 ∷ 87 ∷ []) 3
stops_early = two_leaves [] (λ b e. letter_some b (sym e))

-- "(BWb": a byte of no text
pub foreign_byte : Refused 1 (40 ∷ 66 ∷ 87 ∷ 98 ∷ []) 3
foreign_byte = two_leaves (98 ∷ []) not_letter
  where
    not_letter : (b : Bool) → 98 ≡ letter b → ⊥
    not_letter true e = omega arith
    not_letter false e = omega arith
