-- `records::lookups::white_level` meets its contract: the smaller of the two cells is free of all leaves, and cannot grow. Assumes nothing.
use native.Mathlib.Omega.{arith}
use borrow.Author.Rules.{rules}
use Rattle.records.proofs.Gaps.{by_behind, by_ahead}
use Rattle.records.proofs.lookups.white_level.Statement.{statement}
use Rattle.records.proofs.lookups.white_level.Tie as tie

-- what both leaves say
module _ (c : tie.After-levels_ahead-ahead) where
  abbrev start : tie.Start
  start = c.before.before.before

returns : tie.Need-returns-then-behind-ahead
returns c =
    let at_ahead = c.before in
    by_behind (start at_ahead).requires at_ahead.before.levels_behind-behind.result at_ahead.levels_ahead-ahead.result at_ahead.before.levels_behind-behind.ensures at_ahead.levels_ahead-ahead.ensures (omega (arith, c.if-behind-ahead.true))

returns_2 : tie.Need-returns
returns_2 c =
    let at_ahead = c.before in
    by_ahead (start at_ahead).requires at_ahead.before.levels_behind-behind.result at_ahead.levels_ahead-ahead.result at_ahead.before.levels_behind-behind.ensures at_ahead.levels_ahead-ahead.ensures (omega (arith, c.if-behind-ahead.false))

pub white_level_spec : {M : Type 1} → statement M
white_level_spec = tie.close (tie.spec (λ c κs. search rules) (λ c κs. search rules) (λ c. search rules) returns (λ c. search rules) returns_2)
