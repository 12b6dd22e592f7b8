-- The codes asked for are those of the list.
use Rattle.std.proofs.Common.{rules, of_calls}
use Rattle.records.proofs.inner.judge.Goals as goal

pub walk_along-requires : goal.walk_along-requires
walk_along-requires c = (c.requires, record { may = λ i h. search (rules, of_calls, h); list = c.args.list.now; tells = λ i x h p. search (rules, of_calls) })

pub returns : goal.returns
returns c = c.walk_along.ensures c.args.list.now (λ i x h p. search (rules, of_calls))
