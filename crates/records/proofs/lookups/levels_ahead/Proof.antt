-- `records::lookups::levels_ahead` meets its contract: the first voxel of the leaf at the place bounds the cell. Assumes nothing.
use mathlib.Core.Path.{◌≡◌}
use mathlib.Core.Bool.{true}
use Prim.Native.Nat.{ℕ}
use native.Mathlib.Omega.{arith}
use borrow.Author.Rules.{rules}
use lib.ListN.{get_or}
use Rattle.cells.specs.Cell.{proper}
use Rattle.records.proofs.Search.{proper_at}
use Rattle.records.proofs.Gaps.{first_after, ahead_none, ahead_free}
use Rattle.records.proofs.lookups.levels_ahead.Statement.{statement}
use Rattle.records.proofs.lookups.levels_ahead.Tie as tie

module _ (c : tie.Else-list-at) where
  abbrev start : tie.Start
  start = c.before.before

  abbrev leaf : ℕ
  leaf = get_or start.args.list.now start.args.at 0

  is : proper start.args.depth leaf ≡ true
  is = proper_at start.args.depth start.args.list.now start.requires.source.ordered start.args.at (omega (arith, c.if-list-at.false))

pub levels_ahead_spec : {M : Type 1} → statement M
levels_ahead_spec =
    tie.close
    (tie.spec
    (λ c. let start = c.before.before in ahead_none start.requires (omega (arith, c.if-list-at.true)))
    (λ c. search rules) (λ c. search rules)
    (λ c κs. let else1 = c.before in ((start else1).requires.source.deep, is else1))
    (λ c κs e. let else1 = c.before.before in omega (arith, e, c.first.ensures, first_after (start else1).requires (omega (arith, else1.if-list-at.false))))
    (λ c.
    let at_first = c.before in
    let else1 = at_first.before.before in
    ahead_free (start else1).requires (omega (arith, else1.if-list-at.false)) c.part_at.result (rw at_first.first.ensures at c.part_at.ensures)))
