-- `records::inner::slots::cell_from` meets its contract: the slot's first leaf lies in the cell. Assumes nothing.
use native.Mathlib.Nat.{div-add-mod'}
use native.Mathlib.Omega.{arith}
use borrow.Author.Rules.{rules}
use lib.ListN.{get_or}
use Rattle.cells.proofs.Cells.{within}
use Rattle.cells.proofs.Words.{pow8_small}
use Rattle.records.proofs.SlotLaws.{at_cell, slot_proper, slot_cell}
use Rattle.records.proofs.inner.slots.cell_from.Statement.{statement}
use Rattle.records.proofs.inner.slots.cell_from.Tie as tie

returns : tie.Need-returns
returns c = λ b y.
    let p = c.before.before.before.before.requires in
    rw (c.first.ensures, c.before.before.pow8-w.ensures, slot_cell (at_cell p.0 y) p.1)

pub cell_from_spec : {M : Type 1} → statement M
cell_from_spec =
    tie.close
    (tie.spec
    (λ c κs. search rules) (λ c. search rules) (λ c. search rules)
    (λ c κs. let p = c.before.before.before.requires in (p.0.source.deep, slot_proper p.0 p.1 _ p.1.0))
    (λ c. search rules)
    (λ c.
    let start = c.before.before.before.before in
    let a = start.args in
    let low = within a.depth (get_or a.l.now a.s.lo 0) (slot_proper start.requires.0 start.requires.1 _ start.requires.1.0) in
    record { fits = omega (arith, c.first.ensures, low, pow8_small a.depth start.requires.0.source.deep, div-add-mod' c.first.result c.before.before.pow8-w.result) })
    returns)
