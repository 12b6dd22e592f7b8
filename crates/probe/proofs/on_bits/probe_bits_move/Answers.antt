-- The library's answer, told.
use Rattle.std.proofs.Common.{inr, arith, w32}
use mir.ValLaws.{to_z-of_z}
use Rattle.probe.proofs.on_bits.probe_bits_move.Goals as goal

pub returns : goal.returns
returns c =
    let a = c.args in
    let f = c.ranges in
    let moved = rw (to_z-of_z w32 a.dx f.dx, to_z-of_z w32 a.dy f.dy, to_z-of_z w32 a.dz f.dz) at c.move_bits-r.ensures in
    inr (omega arith, (_, moved, rw c.from.ensures at c.tell.ensures))
