-- `records::lookups::levels_behind` meets its contract: the last voxel of the leaf before the place bounds the cell. Assumes nothing.
use mathlib.Core.Path.{◌≡◌}
use mathlib.Core.Bool.{true}
use Prim.Native.Nat.{ℕ, ◌+◌, ◌-◌}
use native.Mathlib.Omega.{arith}
use borrow.Author.Rules.{rules}
use lib.ListN.{get_or}
use Rattle.cells.specs.Cell.{proper, end}
use Rattle.cells.proofs.Words.{end_fits}
use Rattle.records.proofs.Search.{proper_at}
use Rattle.records.proofs.Gaps.{leaf_before, last_before, behind_none, behind_free}
use Rattle.records.proofs.lookups.levels_behind.Statement.{statement}
use Rattle.records.proofs.lookups.levels_behind.Tie as tie

-- ---- the leaf before the place

module _ (c : tie.Else-at-eq0) where
  abbrev start : tie.Start
  start = c.before.before

  abbrev D : ℕ
  D = start.args.depth

  abbrev leaf : ℕ
  leaf = get_or start.args.list.now (start.args.at - 1) 0

  is : proper D leaf ≡ true
  is = proper_at D start.args.list.now start.requires.source.ordered (start.args.at - 1) (leaf_before start.requires (omega (arith, c.if-at-eq0.false)))

module _ (c : tie.After-width) where
  abbrev else1 : tie.Else-at-eq0
  else1 = c.before.before.before

  -- where it ends
  past : c.before.first.result + c.width.result ≡ end (D else1) (leaf else1)
  past = omega (arith, c.before.first.ensures, c.width.ensures)

pub levels_behind_spec : {M : Type 1} → statement M
levels_behind_spec =
    tie.close
    (tie.spec
    (λ c. let start = c.before.before in behind_none start.requires c.if-at-eq0.true)
    (λ c. search rules) (λ c. search rules) (λ c. search rules)
    (λ c κs. let else1 = c.before in ((start else1).requires.source.deep, is else1))
    (λ c κs. let else1 = c.before.before in ((start else1).requires.source.deep, is else1))
    (λ c. omega (arith, past c, end_fits (D (else1 c)) (leaf (else1 c)) (start (else1 c)).requires.source.deep (is (else1 c))))
    (λ c. omega (arith, past c, last_before (start (else1 c)).requires (omega (arith, (else1 c).if-at-eq0.false))))
    (λ c κs e. omega (arith, e, past c, last_before (start (else1 c)).requires (omega (arith, (else1 c).if-at-eq0.false))))
    (λ c.
    let at_width = c.before in
    behind_free (start (else1 at_width)).requires (omega (arith, (else1 at_width).if-at-eq0.false)) c.part_at.result (rw (past at_width) at c.part_at.ensures)))
