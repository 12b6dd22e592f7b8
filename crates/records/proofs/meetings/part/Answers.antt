-- The searches find the leaves that start in the cell, and the one before them.
use Rattle.std.proofs.Common.{◌≡◌, Bool, true, false, List, ℕ, ◌+◌, ◌-◌, ◌≤◌, ◌<◌, sym, ap, ◌∙◌, arith, length}
use Rattle.cells.specs.Cell.{start, span, end}
use Rattle.cells.proofs.Words.{end_fits}
use Rattle.records.specs.Record.{Ordered}
use Rattle.records.specs.Inner.{Starts, reaches}
use Rattle.records.specs.Met.{MetPart}
use Rattle.records.proofs.Search.{starts_same, reaches_true, part_from, part_before}
use Rattle.records.proofs.meetings.part.Goals as goal

-- the leaves from `at` up to `to` start in the cell m, and r tells whether the one before reaches into it
module _ (D : ℕ) (l : List ℕ) (m from wide at to : ℕ) (r : Bool) (o : Ordered D 0 l) (begins : from ≡ start D m) (spans : wide ≡ span D m)
    (first : Starts D l from 0 (length l) at) (last : Starts D l (from + wide) at (length l) to) (tested : r ≡ reaches D l at from) where
  here : Starts D l (start D m) 0 (length l) at
  here = starts_same begins first

  past : Starts D l (end D m) at (length l) to
  past = starts_same (omega (arith, begins, spans)) last

  test : r ≡ reaches D l at (start D m)
  test = tested ∙ ap (reaches D l at) begins

  some : r ≡ true → 0 < at
  some e = (reaches_true D l at (start D m) (sym test ∙ e)).0

  with_before : r ≡ true → (at - 1 ≤ to) × MetPart D l m (at - 1) (to - (at - 1))
  with_before e = (omega (arith, past.low), part_before D l o m at to here past (sym test ∙ e))

  alone : r ≡ false → (at ≤ to) × MetPart D l m at (to - at)
  alone e = (past.low, part_from D l o m at to here past (sym test ∙ e))

pub overflow_add-from : goal.overflow_add-from
overflow_add-from c = record { fits = omega (arith, c.first-from.ensures, c.width.ensures, end_fits c.args.depth c.args.m c.requires.0 c.requires.2) }

pub overflow_sub-result : goal.overflow_sub-result
overflow_sub-result c =
    omega (
      arith,
      some c.args.depth c.args.list.now c.args.m c.first-from.result c.width.result c.first_from-at.result c.first_from-end.result c.last_reaches.result
          c.requires.1 c.first-from.ensures c.width.ensures c.first_from-at.ensures c.first_from-end.ensures c.last_reaches.ensures c.if-last_reaches.true,
    )

pub returns-then-last_reaches : goal.returns-then-last_reaches
returns-then-last_reaches c =
    with_before c.args.depth c.args.list.now c.args.m c.first-from.result c.width.result c.first_from-at.result c.first_from-end.result c.last_reaches.result
    c.requires.1 c.first-from.ensures c.width.ensures c.first_from-at.ensures c.first_from-end.ensures c.last_reaches.ensures c.if-last_reaches.true

pub returns : goal.returns
returns c =
    alone c.args.depth c.args.list.now c.args.m c.first-from.result c.width.result c.first_from-at.result c.first_from-end.result c.last_reaches.result
    c.requires.1 c.first-from.ensures c.width.ensures c.first_from-at.ensures c.first_from-end.ensures c.last_reaches.ensures c.if-last_reaches.false
