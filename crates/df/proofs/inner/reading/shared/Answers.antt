-- The first child, one that begins as the others do, one that does not. Assumes nothing.
use Rattle.std.proofs.Common.{rules, ◌≡◌, None, Some}
use Rattle.df.proofs.Readings.{common_more, common_mixed}
use Rattle.df.proofs.inner.reading.shared.Goals as goal

pub returns-in-None : goal.returns-in-None
returns-in-None c f m x head = common_more f m None c.args.head head (rw c.in-None.is at x) (λ b e. cc)

pub returns-then-eq : goal.returns-then-eq
returns-then-eq c f m x head =
    let same : c.in-Some.other ≡ c.args.head = search rules in
    common_more f m (Some c.in-Some.other) c.args.head head (rw c.in-Some.is at x) (λ b e. cc)

pub returns-else-eq : goal.returns-else-eq
returns-else-eq c f m x head = common_mixed f m c.in-Some.other c.args.head head (rw c.in-Some.is at x) (search rules)
