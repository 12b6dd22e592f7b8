-- `shifts::inner::labels::join_label` meets its contract, by the test of all cases. Assumes nothing.
use Rattle.shifts.proofs.Bits.{join_lt}
use Rattle.shifts.proofs.Tables.{or_is, label_told}
use Rattle.shifts.proofs.inner.labels.join_label.Statement.{statement}
use Rattle.shifts.proofs.inner.labels.join_label.Tie as tie

pub join_label_spec : {M : Type 1} → statement M
join_label_spec = tie.close (tie.spec (λ c. let a = c.args in label_told (or_is a.a a.b c.requires.0 c.requires.1) (join_lt a.a a.b)))
