-- Why the listing's buffers always suffice, and what `read`, `list_text` and `refused_text` then give; and no second text fits a file. Assumes nothing.
use mathlib.Core.Path.{◌≡◌, ap}
use mathlib.Core.List.{List, [], ◌∷◌}
use mathlib.Core.Logic.{inl, inr}
use Prim.Native.Nat.{ℕ, ◌+◌, ◌*◌, ◌^◌, ◌≤◌}
use native.Mathlib.Omega.{arith}
use lib.ListN.{length, drop, length-append}
use Rattle.cells.specs.Answer.{given, deepest}
use Rattle.cells.specs.declared.Answer.{Answer}
use Rattle.cells.proofs.Decisions.{One, one_equal, one_refuses_first, one_decided}
use Rattle.records.specs.Record.{black, Good}
use Rattle.records.specs.Count.{count}
use Rattle.records.specs.Fault.{Faulty}
use Rattle.records.specs.Writing.{stands}
use Rattle.records.proofs.Writing.{writes_fitting, list_fitting}
use Rattle.blocks.specs.Block.{depth_of, codes}
use Rattle.blocks.specs.Calls.{ReadAnswer, Unsound, ReadOf}
use Rattle.blocks.specs.Inner.{Sound}
use Rattle.blocks.proofs.Sound.{all_blocks, codes_most, one_unsound, not_unsound}
use Rattle.text.specs.Text.{path_lines, text_of, TextOf, refused_text, RefusedOf}
use Rattle.text.specs.Inner.{longest_head, longest_path, head_line}
use Rattle.text.proofs.CallLaws.{one_text, one_refused}
use Rattle.text.proofs.Digits.{paths_length, head_length, longest_refusal, refused_length}
use Rattle.listing.specs.Listing.{longest, most_codes, refused_line, Printed, Page}

-- ---- room

pub few_codes : (b : List ℕ) → Sound b → length b ≤ longest → length (codes b) ≤ most_codes
few_codes b s h = omega (arith, codes_most b s, all_blocks b s)

pub text_length : (D : ℕ) (l : List ℕ) → D ≤ deepest → length (text_of D l) ≤ longest_head + longest_path * length l
unfolding text_of
text_length D l h =
    let v = count (black D l) (8 ^ D) in
    omega (arith, length-append (head_line D (length l) v) (path_lines D l), head_length D (length l) v, paths_length D l h)

-- ---- the calls, where there is room

-- a refusal of the reader is never for room
pub refused_printed : (b o : List ℕ) (r : ReadAnswer) (o' : List ℕ) → ReadOf b o r o' → (r.answer.number ≡ 0 → ⊥) → length b ≤ longest → most_codes ≤ length o → Printed b (refused_line r.answer)
refused_printed b o r o' (inl (a, t, e)) some h room = inl (a, t, ap (λ (x : ReadAnswer × List ℕ). refused_line x.0.answer) e)
refused_printed b o r o' (inr (p, inl (a, t, e))) some h room = inr (p, inl (a, t, ap (λ (x : ReadAnswer × List ℕ). refused_line x.0.answer) e))
refused_printed b o r o' (inr (p, inr (q, inl (a, (short, _), e)))) some h room =
    absurd (omega (arith, few_codes b (not_unsound b p) h))
refused_printed b o r o' (inr (p, inr (q, inr (_, e)))) some h room = absurd (some (ap (λ (x : ReadAnswer × List ℕ). x.0.answer.number) e))

-- what `list_text` and `refused_text` leave, which never lack room
pub text_left : (D : ℕ) (l o : List ℕ) (r : Answer) (o' : List ℕ) → TextOf D l o r o' → D ≤ deepest → Good D l → length (text_of D l) ≤ length o → ◌≡◌ {A = Answer × List ℕ} (r, o') (given (length (text_of D l)), stands (text_of D l) o)
text_left D l o r o' w h g room = one_text D l o (r, o') (_, _) w (list_fitting (text_of D l) o D l h g room)

pub refused_left : (n p : ℕ) (o : List ℕ) (r : Answer) (o' : List ℕ) → RefusedOf n p o r o' → longest_refusal ≤ length o → ◌≡◌ {A = Answer × List ℕ} (r, o') (given (length (refused_text n p)), stands (refused_text n p) o)
refused_left n p o r o' w room = one_refused n p o (r, o') (_, _) w (writes_fitting (refused_text n p) o (omega (arith, refused_length n p)))

-- the page of the text t
pub page_of : (b o t : List ℕ) (r : Answer) (after : List ℕ) → Printed b t → ◌≡◌ {A = Answer × List ℕ} (r, after) (given (length t), stands t o) → Page b o r.place after
page_of b o t r after p e = record { text = t; printed = p; count = ap (λ (x : Answer × List ℕ). x.0.place) e; written = ap (λ (x : Answer × List ℕ). x.1) e }

-- the text lies within the buffer
pub page_within : (b o : List ℕ) (r : ℕ) (after : List ℕ) → Page b o r after → r ≤ length after
page_within b o r after p = omega (arith, p.count, ap length p.written, length-append p.text (drop (length p.text) o))

-- ---- no second text

pub one_printed : (b : List ℕ) → One (Printed b)
one_printed b = one_decided refused_line (Unsound b ∷ Faulty (depth_of b) (codes b) 1 ∷ []) _ (one_unsound b, (one_refuses_first, tt)) one_equal
