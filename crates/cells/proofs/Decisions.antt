-- How a row of tests decides, and how it is met: where each test refuses with one answer at most and one thing at most holds past them, no second answer fits. Assumes nothing.
use Rattle.std.proofs.Common.{◌≡◌, ℕ, ◌<◌, ◌≤◌, ◌⊎◌, List, [], ◌∷◌, ◌++◌, sym, refl, ap, ◌∙◌, inl, inr, arith}
use mathlib.Core.Path.{subst⁻¹}
use Rattle.cells.specs.Answer.{answer, given, Test, Decided, alone, refuses, refuses_first, TooDeep}
use Rattle.cells.specs.declared.Answer.{Answer}
use Rattle.cells.proofs.Firsts.{one_first}

-- at most one thing has P
abbrev pub One : {R : Type 0} → (R → Type 0) → Type 0
One {R} P = (r s : R) → P r → P s → r ≡ s

-- each test of a row refuses with one answer at most
abbrev pub Ones : List Test → Type 0
Ones [] = Unit {0}
Ones (F ∷ Fs) = One F × Ones Fs

-- only one thing equals a
pub one_equal : {R : Type 0} {a : R} → One (λ (r : R). r ≡ a)
one_equal r s e f = e ∙ sym f

-- and only one success tells a number that has P, where one number has
pub one_given : {P : ℕ → Type 0} → One P → One (λ (r : Answer). (m : ℕ) × P m × (r ≡ given m))
one_given one r s (m, p, e) (n, q, f) = e ∙ ap given (one m n p q) ∙ sym f

pub one_refuses : {q : Answer} {C : Type 0} → One (refuses q C)
one_refuses a b (_, e) (_, f) = e ∙ sym f

pub one_refuses_first : {n : ℕ} {P : ℕ → Type 0} {q : ℕ → Answer} → One (refuses_first n P q)
one_refuses_first {n} {P} {q} a b (i, x, e) (j, y, f) = e ∙ ap q (one_first i j x y) ∙ sym f

pub one_decided : {R : Type 0} (refuse : Answer → R) (Fs : List Test) (P : R → Type 0) → Ones Fs → One P → One (Decided refuse Fs P)
one_decided refuse [] P of_none one r s p q = one r s p q
one_decided refuse (F ∷ Fs) P (of-f, of-fs) one r s (inl (a, f, e)) (inl (b, g, h)) = e ∙ ap refuse (of-f a b f g) ∙ sym h
one_decided refuse (F ∷ Fs) P (of-f, of-fs) one r s (inl (a, f, e)) (inr (passes, q)) = absurd (passes a f)
one_decided refuse (F ∷ Fs) P (of-f, of-fs) one r s (inr (passes, p)) (inl (b, g, h)) = absurd (passes b g)
one_decided refuse (F ∷ Fs) P (of-f, of-fs) one r s (inr (_, p)) (inr (_, q)) = one_decided refuse Fs P of-fs one r s p q

-- ---- the ways to meet a row: a test passes where its condition does not hold

pub passes : {q : Answer} {C : Type 0} → (C → ⊥) → (a : Answer) → refuses q C a → ⊥
passes n a t = n t.0

pub passes_first : {n : ℕ} {P : ℕ → Type 0} {q : ℕ → Answer} → ((i : ℕ) → i < n → P i → ⊥) → (a : Answer) → refuses_first n P q a → ⊥
passes_first none a (i, f, _) = none i f.below f.here

pub deep_enough : {limit D : ℕ} → D ≤ limit → limit < D → ⊥
deep_enough h g = omega arith

-- and back
pub shallow_enough : {limit D : ℕ} → ((a : Answer) → TooDeep limit D a → ⊥) → D ≤ limit
shallow_enough {limit} {D} none = let h : limit < D → ⊥ = λ g. none (answer 1 0 0) (g, refl) in omega arith

-- ---- from one row's outcome to another's

-- past a test that passes
pub decided_past : {R : Type 0} (refuse : Answer → R) (F : Test) (Fs : List Test) (P : R → Type 0) (r : R) → ((a : Answer) → F a → ⊥) → Decided refuse (F ∷ Fs) P r → Decided refuse Fs P r
decided_past refuse F Fs P r none (inl (a, f, e)) = absurd (none a f)
decided_past refuse F Fs P r none (inr (_, d)) = d

-- what holds of every refusal, and of all that has P, holds
pub decided_all : {R : Type 0} (refuse : Answer → R) (Fs : List Test) (P Q : R → Type 0) (r : R) → ((a : Answer) → Q (refuse a)) → (P r → Q r) → Decided refuse Fs P r → Q r
decided_all refuse [] P Q r refused to d = to d
decided_all refuse (F ∷ Fs) P Q r refused to (inl (a, t, e)) = subst⁻¹ Q e (refused a)
decided_all refuse (F ∷ Fs) P Q r refused to (inr (n, d)) = decided_all refuse Fs P Q r refused to d

-- each test of a row refuses with answers that have T
abbrev pub Telling : (Answer → Type 0) → List Test → Type 0
Telling T [] = Unit {0}
Telling T (F ∷ Fs) = ((a : Answer) → F a → T a) × Telling T Fs

-- with a number that is not 0
abbrev pub Numbered : List Test → Type 0
Numbered = Telling (λ a. a.number ≡ 0 → ⊥)

pub refuses_numbered : {q : Answer} {C : Type 0} → (q.number ≡ 0 → ⊥) → (a : Answer) → refuses q C a → a.number ≡ 0 → ⊥
refuses_numbered n a (_, e) z = n (ap (λ (x : Answer). x.number) (sym e) ∙ z)

pub refuses_first_numbered : {n : ℕ} {P : ℕ → Type 0} {q : ℕ → Answer} → ((i : ℕ) → P i → (q i).number ≡ 0 → ⊥) → (a : Answer) → refuses_first n P q a → a.number ≡ 0 → ⊥
refuses_first_numbered some a (i, f, e) z = some i f.here (ap (λ (x : Answer). x.number) (sym e) ∙ z)

-- all tests of a row pass
abbrev pub Passed : List Test → Type 0
Passed [] = Unit {0}
Passed (F ∷ Fs) = ((a : Answer) → F a → ⊥) × Passed Fs

-- a row of tests, and then another, after a call that ran the first row and left r: what the first row refuses is passed on, in what `wide` makes of it
pub decided_first : {R S : Type 0} (wide : R → S) (refuse : Answer → R) (Fs Gs : List Test) (P : R → Type 0) (Q : S → Type 0) (r : R)
    → (P r → Decided (λ a. wide (refuse a)) Gs Q (wide r)) → Decided refuse Fs P r → Decided (λ a. wide (refuse a)) (Fs ++ Gs) Q (wide r)
decided_first wide refuse [] Gs P Q r to d = to d
decided_first wide refuse (F ∷ Fs) Gs P Q r to (inl (a, t, e)) = inl (a, t, ap wide e)
decided_first wide refuse (F ∷ Fs) Gs P Q r to (inr (n, d)) = inr (n, decided_first wide refuse Fs Gs P Q r to d)

-- `number` reads the number off what a call leaves
abbrev pub TellsNumber : {R : Type 0} → (R → ℕ) → (Answer → R) → Type 0
TellsNumber number refuse = (a : Answer) → number (refuse a) ≡ a.number

-- where the number is 0, each test of the first row passes, and P holds
pub decided_passed : {R : Type 0} (number : R → ℕ) (refuse : Answer → R) → TellsNumber number refuse → (Fs : List Test) (P : R → Type 0) (r : R)
    → Numbered Fs → number r ≡ 0 → Decided refuse Fs P r → Passed Fs × P r
decided_passed number refuse reads [] P r of_none z d = (tt, d)
decided_passed number refuse reads (F ∷ Fs) P r (of-f, of-fs) z (inl (a, t, e)) = absurd (of-f a t (sym (reads a) ∙ ap number (sym e) ∙ z))
decided_passed number refuse reads (F ∷ Fs) P r (of-f, of-fs) z (inr (n, d)) = let (ns, p) = decided_passed number refuse reads Fs P r of-fs z d in ((n, ns), p)

-- and the other row decides
pub decided_next : {S : Type 0} (refuse : Answer → S) (Fs Gs : List Test) (Q : S → Type 0) (s : S) → Passed Fs → Decided refuse Gs Q s → Decided refuse (Fs ++ Gs) Q s
decided_next refuse [] Gs Q s of_none d = d
decided_next refuse (F ∷ Fs) Gs Q s (n, ns) d = inr (n, decided_next refuse Fs Gs Q s ns d)

-- two calls that open with the same row: one test refuses both, with one answer, or both go on
pub decided_both : {R S : Type 0} (refuse : Answer → R) (refuse' : Answer → S) (Fs : List Test) (T : Answer → Type 0) → Ones Fs → Telling T Fs → (P : R → Type 0) (Q : S → Type 0) (r : R) (s : S)
    → Decided refuse Fs P r → Decided refuse' Fs Q s → ((a : Answer) × T a × (r ≡ refuse a) × (s ≡ refuse' a)) ⊎ (P r × Q s)
decided_both refuse refuse' [] T ones tells P Q r s p q = inr (p, q)
decided_both refuse refuse' (F ∷ Fs) T (one, ones) (tell, tells) P Q r s (inl (a, f, e)) (inl (b, g, h)) = inl (a, tell a f, e, h ∙ ap refuse' (one b a g f))
decided_both refuse refuse' (F ∷ Fs) T (one, ones) (tell, tells) P Q r s (inl (a, f, e)) (inr (none, q)) = absurd (none a f)
decided_both refuse refuse' (F ∷ Fs) T (one, ones) (tell, tells) P Q r s (inr (none, p)) (inl (b, g, h)) = absurd (none b g)
decided_both refuse refuse' (F ∷ Fs) T (one, ones) (tell, tells) P Q r s (inr (_, p)) (inr (_, q)) = decided_both refuse refuse' Fs T ones tells P Q r s p q

-- ---- a call that opens with another's tests: it asks that call, passes a refusal on, and goes on where its number is 0

-- the tests Fs of the asked call refuse with numbers that are not 0, P is what it tells of success, and K is what is then known
pub record Opening (Fs : List Test) (P K : Answer → Type 0) : Type 0 where
  pub numbered : Numbered Fs
  pub succeeds : (r : Answer) → P r → r.number ≡ 0
  pub known : (r : Answer) → Passed Fs → P r → K r

-- a call whose success tells the number n
pub opening_given : {Fs : List Test} {K : Answer → Type 0} {n : ℕ} → Numbered Fs → (Passed Fs → K (given n)) → Opening Fs (λ r. r ≡ given n) K
opening_given {Fs} {K} numbered known = record { numbered = numbered; succeeds = λ r e. ap (λ (x : Answer). x.number) e; known = λ r passed e. subst⁻¹ K e (known passed) }

module _ {Fs : List Test} {P K : Answer → Type 0} (o : Opening Fs P K) (r : Answer) (d : Decided alone Fs P r) where
  -- a refusal is passed on
  pub opening_refuses : {S : Type 0} (refuse : Answer → S) (Gs : List Test) (Q : S → Type 0) → (r.number ≡ 0 → ⊥) → Decided refuse (Fs ++ Gs) Q (refuse r)
  opening_refuses refuse Gs Q some = decided_first refuse alone Fs Gs P Q r (λ p. absurd (some (o.succeeds r p))) d

  passed : r.number ≡ 0 → Passed Fs × P r
  passed z = decided_passed (λ a. a.number) alone (λ a. refl) Fs P r o.numbered z d

  -- else the further tests decide
  pub opening_passes : {S : Type 0} (refuse : Answer → S) (Gs : List Test) (Q : S → Type 0) (s : S) → r.number ≡ 0 → Decided refuse Gs Q s → Decided refuse (Fs ++ Gs) Q s
  opening_passes refuse Gs Q s z q = decided_next refuse Fs Gs Q s (passed z).0 q

  -- and K holds
  pub opening_known : r.number ≡ 0 → K r
  opening_known z = let (ns, p) = passed z in o.known r ns p
