-- An array that a loop fills from its first place on. Assumes nothing.
use mathlib.Core.Path.{◌≡◌, sym, ◌∙◌, subst}
use mathlib.Core.List.{List}
use mathlib.Core.Logic.{⊎_elim}
use Prim.Native.Nat.{ℕ, ◌+◌, ◌<◌, ◌≤◌}
use native.Mathlib.Omega.{arith}
use lib.ListN.{length, get_or, set, length-set}
use lib.Seq.{get_or-set_same, get_or-set_other}
use Rattle.cells.proofs.Power.{le_or_lt}

-- the n places of r before place q hold what P says
pub record Prefix {A : Type 0} (P : ℕ → A → Type 0) (d : A) (n : ℕ) (r : List A) (q : ℕ) : Type 0 where
  pub turns : q ≤ n
  pub size : length r ≡ n
  pub each : (i : ℕ) → i < q → P i (get_or r i d)

pub prefix_none : {A : Type 0} (P : ℕ → A → Type 0) (d : A) (n : ℕ) (r : List A) → length r ≡ n → Prefix P d n r 0
prefix_none P d n r h = record { turns = omega arith; size = h; each = λ i p. absurd (omega arith) }

pub prefix_over : {A : Type 0} (P : ℕ → A → Type 0) (d : A) (n : ℕ) (r : List A) (q : ℕ) → q < n → P q (get_or r q d) → Prefix P d n r q → Prefix P d n r (q + 1)
prefix_over P d n r q h p f =
    record {
      turns = omega arith;
      size = f.size;
      each = λ i g. ⊎_elim (λ (a : q ≤ i). let e : q ≡ i = omega arith in subst (λ (j : ℕ). P j (get_or r j d)) e p) (f.each i) (le_or_lt q i);
    }

pub prefix_more : {A : Type 0} (P : ℕ → A → Type 0) (d : A) (n : ℕ) (r : List A) (q : ℕ) (x : A) → q < n → P q x → Prefix P d n r q → Prefix P d n (set r q x) (q + 1)
prefix_more P d n r q x h p f =
    record {
      turns = omega arith;
      size = length-set r q x ∙ f.size;
      each = λ i g.
          ⊎_elim
          (λ (a : q ≤ i).
          let e : q ≡ i = omega arith in
          subst (λ (j : ℕ). P j (get_or (set r q x) j d)) e (subst (P q) (sym (get_or-set_same r q x d (omega (arith, f.size)))) p))
          (λ (a : i < q). subst (P i) (sym (get_or-set_other r q i x d (λ e. omega arith))) (f.each i a))
          (le_or_lt q i);
    }
