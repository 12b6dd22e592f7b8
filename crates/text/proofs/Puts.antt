-- Text put into a buffer, one part after the other. Assumes nothing.
use mathlib.Core.Path.{◌≡◌, refl, sym, ap₂, subst, ◌∙◌}
use mathlib.Core.List.{List, [], ◌++◌}
use Prim.Native.Nat.{ℕ}
use native.Mathlib.Omega.{arith}
use lib.ListN.{length-append}
use lib.Seq.{sets}
use Rattle.records.proofs.Writing.{sets_append}
use Rattle.text.specs.Inner.{Put}

-- nothing is put
pub put_none : {o : List ℕ} {at : ℕ} → Put o at [] o at
put_none = record { bytes = refl; place = omega arith }

-- a part, and then another
pub put_append : {o : List ℕ} {at : ℕ} {l o₁ : List ℕ} {n₁ : ℕ} {m o₂ : List ℕ} {n₂ : ℕ} → Put o at l o₁ n₁ → Put o₁ n₁ m o₂ n₂ → Put o at (l ++ m) o₂ n₂
put_append {o} {at} {l} {o₁} {n₁} {m} p q =
    record {
      bytes = q.bytes ∙ ap₂ (λ (x : List ℕ) (n : ℕ). sets x n m) p.bytes p.place ∙ sym (sets_append o at l m);
      place = q.place ∙ omega (arith, p.place, length-append l m);
    }

-- a text put to a page that was the front of a buffer, told of the buffer: its bytes at first and at last, and the place after the text
pub put_front : {o : List ℕ} {at : ℕ} {l after : List ℕ} {r : ℕ} → Put o at l after r → {first last : List ℕ} {place : ℕ} → o ≡ first → at ≡ 0 → last ≡ after → place ≡ r
    → Put first 0 l last place
put_front {l = l} p e z f g = record { bytes = f ∙ p.bytes ∙ ap₂ (λ (x : List ℕ) (n : ℕ). sets x n l) e z; place = omega (arith, p.place) }

-- the same text
pub put_as : {o : List ℕ} {at : ℕ} {l m after : List ℕ} {r : ℕ} → l ≡ m → Put o at l after r → Put o at m after r
put_as {o} {at} {l} {m} {after} {r} e p = subst (λ (x : List ℕ). Put o at x after r) e p
