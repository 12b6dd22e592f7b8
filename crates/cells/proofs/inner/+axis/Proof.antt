-- `cells::inner::axis` meets its contract. The recursion follows `along`; the measure is n. Assumes nothing.
use Rattle.std.proofs.Common.{ℕ, ◌-◌, ◌/◌, ◌<◌, arith}
use borrow.Fn.Kinds.{In}
use borrow.Fn.PlainCycle.{Measures, is, falls, and}
use Rattle.cells.proofs.Places.{along_lt, along_none, along_rec}
use Rattle.cells.proofs.Words.{pow2_small}
use Rattle.cells.proofs.inner.axis.Reads as axis
use Rattle.cells.proofs.inner.axis.Kinds as axis-kinds
use Rattle.cells.proofs.inner.+axis.Lts-axis as axis-lts
use Rattle.cells.proofs.inner.+axis.{statement}
use Rattle.cells.proofs.inner.+axis.Tie.{close}

abbrev μ_axis : Measures 0 axis-kinds.ps ℕ
μ_axis κs a = a.1.0

abbrev axis_at : ℕ → In 0 axis-kinds.ps
axis_at t = and 0 axis-kinds.ps (is 0 axis-kinds.ps μ_axis t) axis.Pre

abbrev axis_below : ℕ → In 0 axis-kinds.ps
axis_below t = and 0 axis-kinds.ps (falls 0 axis-kinds.ps ◌<◌ μ_axis t) axis.Pre

pub +axis_spec : {M : Type 1} → statement M
+axis_spec =
    close
    μ_axis
    λ t. axis-lts.spec
    (axis_below t, axis.Post)
    (axis_at t)
    axis.Post
    (λ c. along_none _ _ _ c.if-n-eq0.true)
    (λ c. omega arith)
    (λ c κs. omega arith)
    (λ c. let a = c.before.before.args in omega (arith, c.axis.ensures, along_lt a.b (a.n - 1) (a.v / 8), pow2_small (a.n - 1) (omega arith)))
    (λ c. omega arith)
    (λ c. let a = c.before.before.args in omega (arith, c.axis.ensures, along_lt a.b (a.n - 1) (a.v / 8), pow2_small (a.n - 1) (omega arith)))
    (λ c. let a = c.before.before.args in rw c.axis.ensures (along_rec a.b a.n a.v (omega arith)))
