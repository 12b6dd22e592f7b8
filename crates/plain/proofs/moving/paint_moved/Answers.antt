-- One voxel more is written in each step. Assumes nothing.
use Rattle.std.proofs.Common.{arith}
use Rattle.plain.proofs.BitLaws.{bytes_enough, progress_more, progress_all}
use Rattle.plain.proofs.moving.paint_moved.Goals as goal

pub mark-requires : goal.mark-requires
mark-requires c = omega (arith, c.loop-v-test.true, c.pow8-v-end.ensures, bytes_enough c.args.bits.depth, c.loop-v.auto.out, c.requires)

pub loop-v-preserved : goal.loop-v-preserved
loop-v-preserved c by split =
    progress_more c.was_black.result (c.loop-v.invariant by split) (omega (arith, c.loop-v-test.true, c.pow8-v-end.ensures, bytes_enough c.args.bits.depth, c.loop-v.auto.out, c.requires)) c.mark.ensures (c.was_black.ensures by split)

pub returns : goal.returns
returns c by split = progress_all c.args.bits.depth (c.loop-v.invariant by split) (omega (arith, c.loop-v-test.false, c.pow8-v-end.ensures, c.loop-v.auto.v-end)) c.requires
