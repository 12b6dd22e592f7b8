-- A black voxel leaves where it comes to none. Assumes nothing.
use Rattle.std.proofs.Common.{sym, ◌∙◌}
use Rattle.plain.proofs.Voxels.{leaves_exactly}
use Rattle.plain.proofs.moving.leaves.Goals as goal

pub returns : goal.returns
returns c by split =
    leaves_exactly c.args.bits.depth by c.args.bits.bytes.now c.args.u c.displace.result c.is_none.result (c.displace.ensures.comes by split) (sym c.is_black.ensures ∙ c.if-not-is_black.false) c.is_none.ensures
