-- `records::inner::next_run` meets its contract. Assumes nothing.
use mathlib.Core.Path.{sym}
use Prim.Native.Nat.{◌-◌}
use mathlib.Core.Bool.{and-false}
use native.Mathlib.Omega.{arith}
use lib.Dec.{leb}
use borrow.Author.Tests.{ne_eqb}
use borrow.Author.Rules.{rules}
use Rattle.records.proofs.Rows.{next_first, next_more, next_none}
use Rattle.records.proofs.inner.next_run.Statement.{statement}
use Rattle.records.proofs.inner.next_run.Tie as tie

returns_2 : tie.Need-returns-then-run-eq0
returns_2 c =
    let s = c.before.before.args in
    sym (next_none s.last s.run s.code c.before.if-code-eq0.false (rw c.if-run-eq0.true))

returns_3 : tie.Need-returns-then-code-last
returns_3 c =
    let at_if1 = c.before.before in
    let s = at_if1.before.args in
    omega (arith, next_more s.last s.run s.code at_if1.if-code-eq0.false (omega (arith, c.before.if-run-eq0.false)) c.if-code-last.true, at_if1.before.requires c.before.if-run-eq0.false, c.if-code-last.true, at_if1.if-code-eq0.false)

returns_4 : tie.Need-returns
returns_4 c =
    let s = c.before.before.before.args in
    sym (next_none s.last s.run s.code c.before.before.if-code-eq0.false (rw (ne_eqb (s.code - 1) s.last c.if-code-last.false) (and-false (leb 1 s.run))))

pub next_run_spec : {M : Type 1} → statement M
next_run_spec = tie.close (tie.spec (λ c. let s = c.before.args in omega (arith, next_first s.last s.run s.code c.if-code-eq0.true, c.if-code-eq0.true)) returns_2 (λ c. search rules) (λ c. omega (arith, c.before.before.before.requires c.before.if-run-eq0.false)) returns_3 returns_4)
