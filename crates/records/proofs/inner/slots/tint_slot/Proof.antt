-- `records::inner::slots::tint_slot` meets its contract. Assumes nothing.
use native.Mathlib.Omega.{arith}
use borrow.Author.Rules.{rules}
use Rattle.records.proofs.Search.{proper_at}
use Rattle.records.proofs.inner.slots.tint_slot.Statement.{statement}
use Rattle.records.proofs.inner.slots.tint_slot.Tie as tie

width_requires : tie.Need-width-requires
width_requires c κs =
    let start = c.before.before.before.before in
    let o = start.requires.0 in
    (o.deep, proper_at start.args.depth start.args.l.now o.ordered start.args.s.lo (omega (arith, c.before.if-s-lo.false, start.requires.1)))

pub tint_slot_spec : {M : Type 1} → statement M
tint_slot_spec =
    tie.close
    (tie.spec (λ c. search rules) (λ c. search rules) (λ c. search rules) width_requires (λ c. search rules) (λ c. search rules))
