-- `cells::inner::part_at` meets its contract. By `part_leading`. Assumes nothing.
use Rattle.std.proofs.Common.{arith}
use Rattle.cells.proofs.Parting.{top_bit, part_leading}
use Rattle.cells.proofs.Words.{word_bits}
use Rattle.cells.proofs.inner.part_at.Statement.{statement}
use Rattle.cells.proofs.inner.part_at.Tie as tie

pub part_at_spec : {M : Type 1} → statement M
part_at_spec =
    tie.close
    (tie.spec
    (λ c. let (j, e, _, _) = top_bit word_bits c.args.a c.args.b c.ranges.a.fits c.ranges.b.fits c.requires in omega arith)
    (λ c. part_leading word_bits c.args.a c.args.b c.ranges.a.fits c.ranges.b.fits c.requires))
