-- One voxel more is written in each step. Assumes nothing.
use Rattle.std.proofs.Common.{arith, sym, ap, ap₂, ◌∙◌, ℕ}
use Rattle.sets.specs.Inner.{chosen}
use Rattle.sets.proofs.Pieces.{chosen_exactly}
use Rattle.plain.specs.Bits.{black_in}
use Rattle.plain.proofs.BitLaws.{bytes_enough, progress_more, progress_all}
use Rattle.plain.proofs.operations.paint_chosen.Goals as goal

pub mark-requires : goal.mark-requires
mark-requires c = omega (arith, c.loop-v-test.true, c.pow8-v-end.ensures, bytes_enough c.args.a.depth, c.loop-v.auto.out, c.requires.room)

pub loop-v-preserved : goal.loop-v-preserved
loop-v-preserved c =
    let a = c.args in
    let of_b = c.is_black-in-loop-v.ensures ∙ ap (λ (n : ℕ). black_in n a.b.bytes.now c.loop-v.v) c.requires.same in
    let e = c.choose.ensures ∙ ap₂ (chosen a.op) c.is_black.ensures of_b in
    let x = chosen_exactly a.op (black_in a.a.depth a.a.bytes.now c.loop-v.v) (black_in a.a.depth a.b.bytes.now c.loop-v.v) in
    progress_more c.choose.result c.loop-v.invariant (omega (arith, c.loop-v-test.true, c.pow8-v-end.ensures, bytes_enough a.a.depth, c.loop-v.auto.out, c.requires.room)) c.mark.ensures (λ t. x.0 (sym e ∙ t), λ t. e ∙ x.1 t)

pub returns : goal.returns
returns c = progress_all c.args.a.depth c.loop-v.invariant (omega (arith, c.loop-v-test.false, c.pow8-v-end.ensures, c.loop-v.auto.v-end)) c.requires.room
