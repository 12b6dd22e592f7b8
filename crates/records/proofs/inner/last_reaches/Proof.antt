-- `records::inner::last_reaches` meets its contract. Assumes nothing.
use mathlib.Core.Path.{◌≡◌, sym, ap, ◌∙◌}
use mathlib.Core.Bool.{true}
use Prim.Native.Nat.{ℕ, ◌-◌}
use native.Mathlib.Omega.{arith}
use lib.Dec.{ltb}
use lib.ListN.{get_or}
use borrow.Author.Rules.{rules}
use Rattle.cells.specs.Cell.{proper}
use Rattle.cells.proofs.Words.{end_fits}
use Rattle.records.proofs.Search.{proper_at, reaches_none, reaches_is}
use Rattle.records.proofs.inner.last_reaches.Statement.{statement}
use Rattle.records.proofs.inner.last_reaches.Tie as tie

-- ---- the leaf before the place

module _ (c : tie.Else-at-eq0) where
  abbrev start : tie.Start
  start = c.before.before

  abbrev leaf : ℕ
  leaf = get_or start.args.l.now (start.args.at - 1) 0

  is : proper start.args.depth leaf ≡ true
  is = proper_at start.args.depth start.args.l.now start.requires.1 (start.args.at - 1) (omega (arith, c.if-at-eq0.false, start.requires.2))

pub last_reaches_spec : {M : Type 1} → statement M
last_reaches_spec =
    tie.close
    (tie.spec
    (λ c. let a = c.before.before.args in sym (reaches_none a.depth a.l.now a.at a.v c.if-at-eq0.true))
    (λ c. search rules) (λ c. search rules) (λ c. search rules)
    (λ c κs. let else1 = c.before in ((start else1).requires.0, is else1))
    (λ c κs. let else1 = c.before.before in ((start else1).requires.0, is else1))
    (λ c.
    let else1 = c.before.before.before in
    let a = (start else1).args in
    omega (arith, c.before.first.ensures, c.width.ensures, end_fits a.depth (leaf else1) (start else1).requires.0 (is else1)))
    (λ c.
    let at_if1 = c.before.before.before in
    let a = (start at_if1).args in
    ap (ltb a.v) (omega (arith, c.before.first.ensures, c.width.ensures)) ∙ sym (reaches_is a.depth a.l.now a.at a.v (omega (arith, at_if1.if-at-eq0.false)))))
