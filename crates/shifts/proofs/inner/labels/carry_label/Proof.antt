-- `shifts::inner::labels::carry_label` meets its contract, by the test of all cases. Assumes nothing.
use Rattle.shifts.proofs.Bits.{carry_lt}
use Rattle.shifts.proofs.Tables.{majority_is, label_told}
use Rattle.shifts.proofs.inner.labels.carry_label.Statement.{statement}
use Rattle.shifts.proofs.inner.labels.carry_label.Tie as tie

pub carry_label_spec : {M : Type 1} → statement M
carry_label_spec = tie.close (tie.spec (λ c. let a = c.args in label_told (majority_is a.h a.m a.q c.requires.0 c.requires.1 c.requires.2) (carry_lt a.h a.m a.q)))
