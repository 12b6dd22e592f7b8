-- The next leaf starts here, or later. Assumes nothing.
use Rattle.std.proofs.Common.{arith, ap, ◌∙◌}
use Rattle.cells.specs.Cell.{start}
use Rattle.records.proofs.Search.{proper_at}
use Rattle.plain.proofs.Cursor.{started_later, started_here}
use Rattle.plain.proofs.conversions.started.Goals as goal

pub first-requires : goal.first-requires
first-requires c =
    let a = c.args in
    let (inside, is) = c.in-Some.ensures.lookup.3 in
    (omega arith, rw (is 0) (proper_at a.depth a.list.now c.requires.1 a.at inside))

pub returns-in-Some : goal.returns-in-Some
returns-in-Some c =
    let a = c.args in
    let (inside, is) = c.in-Some.ensures.lookup.3 in
    let e = c.first.ensures ∙ ap (start a.depth) (is 0) in
    started_here a.depth a.list.now c.requires.1 a.v a.at c.requires.2 inside (omega (arith, c.if-first-v.true, e))

pub returns-in_default : goal.returns-in_default
returns-in_default c =
    let a = c.args in
    let (inside, is) = c.in-Some.ensures.lookup.3 in
    let e = c.first.ensures ∙ ap (start a.depth) (is 0) in
    started_later a.depth a.list.now c.requires.1 a.v a.at c.requires.2 (omega (arith, c.if-first-v.false, e))
