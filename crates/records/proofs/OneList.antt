-- Each set of voxels has exactly one good list. Assumes nothing.
use mathlib.Core.Path.{◌≡◌, sym, ◌∙◌}
use mathlib.Core.Bool.{Bool, true}
use mathlib.Core.List.{List}
use mathlib.Core.Logic.{◌↔◌}
use Prim.Native.Nat.{ℕ, ◌^◌, ◌<◌}
use Rattle.records.specs.Record.{black, Good, ListOf}
use Rattle.cells.proofs.Bools.{same_truth}
use Rattle.records.proofs.Maximal.{one_good_list}
use Rattle.records.proofs.Fill.{good_list, is_good, is_coloured}

-- one at least, where a test tells the voxels
pub good_list_lem : (D : ℕ) (P : ℕ → Bool) → ListOf D (λ v. P v ≡ true) (good_list D P)
good_list_lem D P = record { good = is_good D P; exactly = λ v h. let e = is_coloured D P v h in (λ b. sym e ∙ b, λ p. e ∙ p) }

-- and one at most
pub one_list : (D : ℕ) (P : ℕ → Type 0) (l m : List ℕ) → ListOf D P l → ListOf D P m → l ≡ m
one_list D P l m a b = one_good_list a.good b.good (λ v h. let p = a.exactly v h in let q = b.exactly v h in same_truth (black D l v) (black D m v) (λ x. q.1 (p.0 x), λ x. p.1 (q.0 x)))

-- a good list is the list of its own voxels
pub list_of_itself : (D : ℕ) (l : List ℕ) → Good D l → ListOf D (λ v. black D l v ≡ true) l
list_of_itself D l g = record { good = g; exactly = λ v h. (λ x. x, λ x. x) }

-- the list of a set is that of the same set in other words
pub list_same : (D : ℕ) (P Q : ℕ → Type 0) (l : List ℕ) → ((v : ℕ) → v < 8 ^ D → P v ↔ Q v) → ListOf D P l → ListOf D Q l
list_same D P Q l same x = record {
  good = x.good;
  exactly = λ v h. let e = x.exactly v h in let f = same v h in (λ b. f.0 (e.0 b), λ q. e.1 (f.1 q));
}
