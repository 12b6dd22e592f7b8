-- `emit::inner::fit` meets its contract. The loop's invariant: w is a power of 8 that divides p, and [p, p + w) ends by `to`. Assumes nothing.
use mathlib.Core.Path.{◌≡◌, refl, sym, ap, ◌∙◌}
use Prim.Native.Nat.{ℕ, suc, ◌+◌, ◌-◌, ◌*◌, ◌/◌, ◌%◌, ◌^◌, ◌≤◌, ◌<◌}
use native.Mathlib.Nat.{pow-suc, mul-mod_left, div-add-mod', mul_comm, mul-one}
use native.Mathlib.Omega.{arith}
use borrow.Author.Rules.{rules}
use Rattle.emit.specs.Inner.{Fit}
use Rattle.cells.proofs.Power.{pow8_pos}
use Rattle.emit.proofs.inner.fit.Statement.{statement}
use Rattle.emit.proofs.inner.fit.Tie as tie

-- Fit without its last part
record Fitting (p to w : ℕ) : Type 0 where
  k : ℕ
  q : ℕ
  wide : w ≡ 8 ^ k
  even : p ≡ q * w
  fits : p + w ≤ to

some : {p to w : ℕ} → Fitting p to w → 0 < w
some f = omega (arith, pow8_pos f.k, f.wide)

-- the last part makes it a Fit
most_fits : (p to w : ℕ) → Fitting p to w → ((m : ℕ) → p ≡ m * (8 * w) → p + 8 * w ≤ to → ⊥) → Fit p to w
most_fits p to w f h = record { k = f.k; q = f.q; wide = f.wide; even = f.even; fits = f.fits; most = h }

abbrev invariant-loop : tie.invariant-loop-w
invariant-loop p to room w₀ w = Fitting p to w

abbrev decreases-loop : tie.decreases-loop-w
decreases-loop p to room w₀ w = to - w

loop_again : tie.Need-loop-w-preserved invariant-loop decreases-loop
loop_again c =
    let a = c.before.before.before.args in
    let w = c.before.before.loop-w.w in
    let f = c.before.before.loop-w.invariant in
    record {
      k = suc f.k;
      q = a.p / (w * 8);
      wide = ap (λ (n : ℕ). n * 8) f.wide ∙ sym (pow-suc 8 f.k);
      even = omega (arith, div-add-mod' a.p (w * 8), c.if-p-next-ne0.false);
      fits = omega arith;
    }

pub fit_spec : {M : Type 1} → statement M
fit_spec =
    tie.close
    (tie.spec
    invariant-loop decreases-loop
    (λ c. search rules)
    (λ c. record { k = 0; q = c.args.p; wide = refl; even = sym (mul-one c.args.p); fits = omega arith })
    (λ c. omega arith)
    (λ c. omega (arith, some c.before.loop-w.invariant))
    (λ c.
    let a = c.before.before.before.args in
    let w = c.before.before.loop-w.w in
    most_fits a.p a.to w c.before.before.loop-w.invariant
    (λ m e g. c.if-p-next-ne0.true (ap (λ (n : ℕ). n % (w * 8)) (e ∙ ap (λ (n : ℕ). m * n) (mul_comm 8 w)) ∙ mul-mod_left m (w * 8))))
    (λ c. omega (arith, some c.before.before.loop-w.invariant))
    loop_again
    (λ c.
    let a = c.before.before.args in
    most_fits a.p a.to c.before.loop-w.w c.before.loop-w.invariant (λ m e g. omega arith)))
