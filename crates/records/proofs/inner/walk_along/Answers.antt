-- The walk begins with nothing passed, and each step passes the next code.
use Rattle.std.proofs.Common.{ℕ, arith, subst}
use Rattle.records.specs.Walk.{Faultless}
use Rattle.records.proofs.Walks.{walk_begins}
use Rattle.records.proofs.inner.walk_along.Goals as goal

pub loop-i-init : goal.loop-i-init
loop-i-init g c xs told = walk_begins c.args.depth xs c.default-walk.result c.default-walk.ensures

pub step-requires : goal.step-requires
step-requires g c = let r = c.requires in record { deep = r.0; list = r.1.list; index = c.loop-i.i; kept = c.loop-i.invariant r.1.list r.1.tells }

pub returns : goal.returns
returns g c xs told = subst (λ (k : ℕ). Faultless c.args.depth xs k c.loop-i.walk) (omega (arith, c.loop-i-test.false, c.loop-i.auto.i-end)) (c.loop-i.invariant xs told)
