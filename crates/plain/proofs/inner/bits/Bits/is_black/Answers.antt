-- A voxel's colour is its bit, and its bit is there. Assumes nothing.
use Rattle.std.proofs.Common.{sym, ◌∙◌, arith}
use Rattle.plain.proofs.BitLaws.{bytes_enough}
use Rattle.plain.proofs.Voxels.{black_bit}
use Rattle.plain.proofs.inner.bits.Bits.is_black.Goals as goal

pub is_one-requires : goal.is_one-requires
is_one-requires c = omega (arith, c.args.self.whole, c.requires, bytes_enough c.args.self.depth)

pub returns : goal.returns
returns c = c.is_one.ensures ∙ sym (black_bit c.args.self.depth c.args.self.bytes.now c.args.v c.requires)
