-- `shifts::inner::labels::within` meets its contract: a union that adds nothing. Assumes nothing.
use mathlib.Core.Path.{sym, ◌∙◌}
use lib.Bits.{bit_or}
use borrow.Author.Tests.{eqb-true, eqb-false}
use Rattle.shifts.proofs.Bits.{uses_of, uses_join}
use Rattle.shifts.proofs.Tables.{or_is}
use Rattle.shifts.proofs.inner.labels.within.Statement.{statement}
use Rattle.shifts.proofs.inner.labels.within.Tie as tie

pub within_spec : {M : Type 1} → statement M
within_spec =
    tie.close
    (tie.spec
    (λ c.
    let a = c.args in
    let e = or_is a.f a.q c.requires.0 c.requires.1 in (
      (λ t. uses_of a.f a.q (sym e ∙ eqb-true (bit_or a.f a.q) a.f t)),
      λ t u. eqb-false (bit_or a.f a.q) a.f t (e ∙ uses_join a.f a.q c.requires.0 u),
    )))
