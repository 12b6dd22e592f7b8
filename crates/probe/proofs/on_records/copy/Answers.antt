-- Each code is stored behind those before it. Assumes nothing.
use Rattle.std.proofs.Common.{◌≡◌, ℕ, ◌++◌, List, length, min, take, drop, set, get_or, refl, ap, ◌∙◌, arith}
use Rattle.probe.proofs.Words.{copied_more}
use Rattle.probe.proofs.on_records.copy.Goals as goal

pub loop-i-init : goal.loop-i-init
loop-i-init c = refl

pub loop-i-preserved : goal.loop-i-preserved
loop-i-preserved c =
    let i = c.loop-i.i in
    let from = c.args.from.now in
    let to = c.args.to.now in
    ap (λ (t : List ℕ). set t i (get_or from i 0)) c.loop-i.invariant ∙ copied_more i from to (omega (arith, c.loop-i-test.true, c.min-n.ensures)) (omega (arith, c.loop-i-test.true, c.min-n.ensures))

pub returns : goal.returns
returns c =
    let from = c.args.from.now in
    let to = c.args.to.now in
    let e : c.loop-i.i ≡ min (length from) (length to) = omega (arith, c.loop-i-test.false, c.loop-i.auto.i-end, c.min-n.ensures) in
    c.loop-i.invariant ∙ ap (λ (n : ℕ). take n from ++ drop n to) e
