-- The digits of a number, the labels of a code and the lines of a list, put part by part. Assumes nothing.
use mathlib.Core.Path.{◌≡◌, refl, sym, ap, ◌∙◌}
use mathlib.Core.Bool.{Bool, true, false}
use mathlib.Core.List.{List, [], ◌∷◌, ◌++◌, append_assoc}
use Prim.Native.Nat.{ℕ, zero, suc, ◌+◌, ◌*◌, ◌/◌, ◌%◌, ◌^◌, ◌≤◌, ◌<◌}
use native.Mathlib.Nat.{pow-succ'}
use native.Mathlib.Omega.{arith}
use lib.Dec.{ltb}
use lib.ListN.{length, get_or, take, length-append}
use lib.Seq.{take-suc}
use borrow.Author.Tests.{lt-ltb, le-ltb}
use Rattle.cells.specs.Answer.{deepest}
use Rattle.cells.specs.Cell.{level, proper, index}
use Rattle.cells.proofs.Power.{pow8_pos, pow8_suc}
use Rattle.cells.proofs.Cells.{level_le, proper_bounds}
use Rattle.text.specs.Text.{digits, labels, path_lines, refused_text}
use Rattle.text.specs.Inner.{Put, longest_number, longest_head, longest_path, Labelled, head_line, path_line}
use Rattle.text.proofs.Puts.{put_append, put_as}

-- ---- a number in decimal

pub digits_last : (f n : ℕ) → n < 10 → digits 10 f n ≡ (48 + n) ∷ []
unfolding digits
digits_last zero n h = ap (λ (d : ℕ). (48 + d) ∷ []) (omega arith)
digits_last (suc f) n h = rw (digits, lt-ltb n 10 h)

digits_more : (f n : ℕ) → 10 ≤ n → digits 10 (suc f) n ≡ digits 10 f (n / 10) ++ ((48 + n % 10) ∷ [])
unfolding digits
digits_more f n h = rw (digits, le-ltb n 10 h)

pub digits_length : (b f n : ℕ) → length (digits b f n) ≤ suc f
unfolding digits
digits_length b zero n = omega arith
digits_length b (suc f) n = go (ltb n b) (digits_length b f (n / b))
  where
    go : (t : Bool) → length (digits b f (n / b)) ≤ suc f → length {A = ℕ} (elim t as (λ _. List ℕ) [ true ↦ (48 + n) ∷ [] | false ↦ digits b f (n / b) ++ ((48 + n % b) ∷ []) ]) ≤ suc (suc f)
    go true h = omega arith
    go false h = omega (arith, length-append (digits b f (n / b)) ((48 + n % b) ∷ []))

-- the last digit after the others
pub put_digits : (n f : ℕ) → 10 ≤ n → n < 10 ^ suc f → {o : List ℕ} {at : ℕ} {o₁ : List ℕ} {n₁ : ℕ} → ((g : ℕ) → n / 10 < 10 ^ suc g → Put o at (digits 10 g (n / 10)) o₁ n₁)
    → {o₂ : List ℕ} {n₂ : ℕ} → Put o₁ n₁ ((48 + n % 10) ∷ []) o₂ n₂ → Put o at (digits 10 f n) o₂ n₂
put_digits n zero h b p q = absurd (omega arith)
put_digits n (suc g) h b p q = put_as (sym (digits_more g n h)) (put_append (p g (omega (arith, pow-succ' 10 (suc g)))) q)

-- ---- labels

pub labels_length : (k i : ℕ) → length (labels k i) ≡ k
unfolding labels
labels_length zero i = refl
labels_length (suc k) i = length-append (labels k (i / 8)) ((48 + i % 8) ∷ []) ∙ omega (arith, labels_length k (i / 8))

-- a code without its last label
pub labelled_parent : (c k i : ℕ) → Labelled c (suc k) i → Labelled (c / 8) k (i / 8)
labelled_parent c k i (e, h) = (omega (arith, pow8_suc k), omega (arith, pow8_suc k))

-- no label
pub labels_none : (c : ℕ) → c < 8 → (k i : ℕ) → Labelled c k i → labels k i ≡ []
unfolding labels
labels_none c h zero i l = refl
labels_none c h (suc k) i (e, b) = absurd (omega (arith, pow8_suc k, pow8_pos k))

-- the last label after the others
pub put_label : (c : ℕ) → 8 ≤ c → (k i : ℕ) → Labelled c k i → {o : List ℕ} {at : ℕ} {o₁ : List ℕ} {n₁ : ℕ} → ((j m : ℕ) → Labelled (c / 8) j m → Put o at (labels j m) o₁ n₁)
    → {o₂ : List ℕ} {n₂ : ℕ} → Put o₁ n₁ ((48 + c % 8) ∷ []) o₂ n₂ → Put o at (labels k i) o₂ n₂
unfolding labels
put_label c h zero i (e, b) p q = absurd (omega arith)
put_label c h (suc k) i l p q =
    let e : c % 8 ≡ i % 8 = omega (arith, l.0, pow8_suc k) in
    put_append (p k (i / 8) (labelled_parent c k i l)) (put_as (ap (λ (d : ℕ). (48 + d) ∷ []) e) q)

-- one label more
pub label_near : (c f at n : ℕ) → 8 ≤ c → c < 8 ^ suc f → ((g : ℕ) → c / 8 < 8 ^ suc g → n ≤ at + g) → n + 1 ≤ at + f
label_near c zero at n h b near = absurd (omega arith)
label_near c (suc f) at n h b near = omega (arith, near f (omega (arith, pow8_suc (suc f))))

-- the labels of a proper code
pub proper_labelled : (D c : ℕ) → proper D c ≡ true → Labelled c (level D c) (index D c)
unfolding index
proper_labelled D c p = let b = proper_bounds D c p in (omega arith, omega arith)

-- ---- paths

pub path_length : (D c : ℕ) → D ≤ deepest → length (path_line D c) ≤ longest_path
path_length D c h = omega (arith, length-append (labels (level D c) (index D c)) (10 ∷ []), labels_length (level D c) (index D c), level_le D c)

pub paths_length : (D : ℕ) (l : List ℕ) → D ≤ deepest → length (path_lines D l) ≤ longest_path * length l
unfolding path_lines
paths_length D [] h = omega arith
paths_length D (c ∷ l) h = omega (arith, length-append (path_line D c) (path_lines D l), path_length D c h, paths_length D l h)

paths_append : (D : ℕ) (l m : List ℕ) → path_lines D (l ++ m) ≡ path_lines D l ++ path_lines D m
unfolding path_lines
paths_append D [] m = refl
paths_append D (c ∷ l) m = ap (λ (x : List ℕ). path_line D c ++ x) (paths_append D l m) ∙ sym (append_assoc (path_line D c) (path_lines D l) (path_lines D m))

-- one path more
pub paths_more : (D : ℕ) (l : List ℕ) (i : ℕ) → i < length l → path_lines D (take (suc i) l) ≡ path_lines D (take i l) ++ path_line D (get_or l i 0)
unfolding path_lines
paths_more D l i h =
    ap (path_lines D) (take-suc l i 0 h) ∙ paths_append D (take i l) (get_or l i 0 ∷ []) ∙ ap (λ (x : List ℕ). path_lines D (take i l) ++ x) (nothing (path_line D (get_or l i 0)))
  where
    nothing : (x : List ℕ) → x ++ [] ≡ x
    nothing [] = refl
    nothing (a ∷ x) = ap (λ (y : List ℕ). a ∷ y) (nothing x)

-- ---- whole texts

pub head_length : (D n v : ℕ) → length (head_line D n v) ≤ longest_head
head_length D n v = simp length-append (omega (arith, digits_length 10 19 D, digits_length 10 19 n, digits_length 10 19 v))

-- "refused " and " ", a number after each, and the line's end
abbrev pub longest_refusal : ℕ
longest_refusal = 8 + 1 + 2 * longest_number + 1

pub refused_length : (n p : ℕ) → length (refused_text n p) ≤ longest_refusal
unfolding refused_text
refused_length n p = simp length-append (omega (arith, digits_length 10 19 n, digits_length 10 19 p))
