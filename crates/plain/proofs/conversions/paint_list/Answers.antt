-- One voxel more is written in each step. Assumes nothing.
use Rattle.std.proofs.Common.{arith, sym, ◌∙◌}
use Rattle.records.proofs.Search.{starts_same, black_last}
use Rattle.plain.proofs.BitLaws.{bytes_enough, progress_more, progress_all}
use Rattle.plain.proofs.conversions.paint_list.Goals as goal

pub mark-requires : goal.mark-requires
mark-requires c = omega (arith, c.loop-v-test.true, c.pow8-v-end.ensures, bytes_enough c.args.depth, c.loop-v.auto.bits, c.requires.2)

pub loop-v-preserved : goal.loop-v-preserved
loop-v-preserved c =
    let a = c.args in
    let e = c.last_reaches.ensures ∙ black_last a.depth a.list.now c.requires.1 c.loop-v.v c.started-at.result (starts_same (omega arith) c.started-at.ensures) in
    record {
      written = progress_more c.last_reaches.result c.loop-v.invariant.written (omega (arith, c.loop-v-test.true, c.pow8-v-end.ensures, bytes_enough a.depth, c.loop-v.auto.bits, c.requires.2)) c.mark.ensures (λ b. sym e ∙ b, λ b. e ∙ b);
      started = c.started-at.ensures;
    }

pub returns : goal.returns
returns c = progress_all c.args.depth c.loop-v.invariant.written (omega (arith, c.loop-v-test.false, c.pow8-v-end.ensures, c.loop-v.auto.v-end)) c.requires.2
