-- The file has as many bytes as its blocks.
use Rattle.std.proofs.Common.{◌≡◌, ◌*◌, length, refl, ap, ◌∙◌, arith}
use Rattle.records.proofs.Writing.{sets_front}
use Rattle.blocks.specs.Block.{block_bytes, tabulated}
use Rattle.blocks.specs.File.{blocks_of, file_of}
use Rattle.blocks.specs.Inner.{begun}
use Rattle.blocks.proofs.Files.{file_length}
use Rattle.blocks.proofs.writer.put_blocks.Goals as goal

pub loop-i-init : goal.loop-i-init
unfolding tabulated
loop-i-init c = refl

pub returns : goal.returns
unfolding file_of
returns c =
    let a = c.args in
    let (number, few, room) = c.requires in
    let e : block_bytes * c.loop-i.i ≡ block_bytes * blocks_of (length a.list.now) = omega (arith, c.loop-i-test.false, c.loop-i.auto.i-end, number) in
    c.loop-i.invariant ∙ ap (begun a.depth a.list.now a.bytes.now) e ∙ sets_front a.bytes.now (file_of a.depth a.list.now) (omega (arith, file_length a.depth a.list.now, number, room))
