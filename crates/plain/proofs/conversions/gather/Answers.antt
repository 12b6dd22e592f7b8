-- A black voxel is put as a run by itself. Assumes nothing.
use Rattle.std.proofs.Common.{rules, arith, refl, sym, ap, ◌∙◌, ◌+◌}
use Rattle.emit.specs.Inner.{Feeds}
use Rattle.emit.proofs.Runs.{ready_none, fed_none, fed_to, fed_then, finished}
use Rattle.plain.specs.Bits.{black_in}
use Rattle.plain.proofs.conversions.gather.Goals as goal

pub loop-v-init : goal.loop-v-init
loop-v-init c =
    let b = c.args.bits in
    let m = c.new-made.result in
    let none : Feeds b.depth (black_in b.depth b.bytes.now) 0 0 m m = fed_none _ _ 0 m.out.now m.runs (rw c.new-made.ensures.runs ready_none) in
    record { same = refl; depth = c.new-made.ensures.depth; fed = none }

pub loop-v-preserved : goal.loop-v-preserved
loop-v-preserved c =
    let b = c.args.bits in
    let inv = c.loop-v.invariant in
    let pushed : Feeds b.depth (black_in b.depth b.bytes.now) c.loop-v.v (c.loop-v.v + 1) c.loop-v.made c.push.new.self =
    rw inv.depth at (c.push.ensures.fed (black_in b.depth b.bytes.now) (λ w m n. ap (black_in b.depth b.bytes.now) (omega arith) ∙ sym c.is_black.ensures)) in
    record { same = c.push.ensures.same ∙ inv.same; depth = c.push.ensures.depth ∙ inv.depth; fed = fed_then _ _ inv.fed pushed }

pub returns : goal.returns
returns c =
    let b = c.args.bits in
    let inv = c.loop-v.invariant in
    let f = inv.fed in
    finished c.new-made.ensures.codes c.new-made.ensures.runs
    (fed_to _ (black_in b.depth b.bytes.now) (omega (arith, f.ready.root, c.loop-v-test.false, c.pow8-full.ensures)) f) inv.depth c.finish.ensures.list (search rules)
