-- `cells::inner::number_of` meets its contract. The recursion follows `number`; the measure is n. Assumes nothing.
use Rattle.std.proofs.Common.{ℕ, ◌-◌, ◌/◌, ◌<◌, arith}
use borrow.Fn.Kinds.{In}
use borrow.Fn.PlainCycle.{Measures, is, falls, and}
use Rattle.cells.proofs.Places.{number_lt, number_none, number_rec}
use Rattle.cells.proofs.Power.{pow8_pred}
use Rattle.cells.proofs.Words.{codes_fit}
use Rattle.cells.proofs.inner.number_of.Reads as number_of_lem
use Rattle.cells.proofs.inner.number_of.Kinds as number-of-kinds
use Rattle.cells.proofs.inner.+number_of.Lts-number_of as number-of-lts
use Rattle.cells.proofs.inner.+number_of.{statement}
use Rattle.cells.proofs.inner.+number_of.Tie.{close}

abbrev μ_number_of : Measures 0 number-of-kinds.ps ℕ
μ_number_of κs a = a.0

abbrev number_of_at : ℕ → In 0 number-of-kinds.ps
number_of_at t = and 0 number-of-kinds.ps (is 0 number-of-kinds.ps μ_number_of t) number_of_lem.Pre

abbrev number_of_below : ℕ → In 0 number-of-kinds.ps
number_of_below t = and 0 number-of-kinds.ps (falls 0 number-of-kinds.ps ◌<◌ μ_number_of t) number_of_lem.Pre

pub +number_of_spec : {M : Type 1} → statement M
+number_of_spec =
    close
    μ_number_of
    λ t. number-of-lts.spec
    (number_of_below t, number_of_lem.Post)
    (number_of_at t)
    number_of_lem.Post
    (λ c. number_none _ _ _ _ c.if-n-eq0.true)
    (λ c. omega arith)
    (λ c κs. omega arith)
    (λ c. let a = c.before.before.args in omega (arith, c.number_of.ensures, number_lt (a.n - 1) (a.x / 2) (a.y / 2) (a.z / 2), pow8_pred a.n (omega arith), codes_fit a.n (omega arith)))
    (λ c. omega arith)
    (λ c. omega arith)
    (λ c. omega arith)
    (λ c. omega arith)
    (λ c. let a = c.before.before.args in omega (arith, c.number_of.ensures, number_lt (a.n - 1) (a.x / 2) (a.y / 2) (a.z / 2), pow8_pred a.n (omega arith), codes_fit a.n (omega arith)))
    (λ c. let a = c.before.before.args in rw c.number_of.ensures (number_rec a.n a.x a.y a.z (omega arith)))
