-- `shifts::inner::labels::sum_label` meets its contract, by the test of all cases. Assumes nothing.
use Rattle.shifts.proofs.Bits.{sum_lt}
use Rattle.shifts.proofs.Tables.{xor_is, label_told}
use Rattle.shifts.proofs.inner.labels.sum_label.Statement.{statement}
use Rattle.shifts.proofs.inner.labels.sum_label.Tie as tie

pub sum_label_spec : {M : Type 1} → statement M
sum_label_spec = tie.close (tie.spec (λ c. let a = c.args in label_told (xor_is a.h a.m a.q c.requires.0 c.requires.1 c.requires.2) (sum_lt a.h a.m a.q)))
