-- The first coordinate that leaves the root decides, else the voxel. Assumes nothing.
use Rattle.std.proofs.Common.{arith}
use Rattle.cells.proofs.Places.{number_lt}
use Rattle.plain.proofs.Voxels.{voxel_out, voxel_to}
use Rattle.plain.proofs.inner.displaced.displace.Goals as goal

pub returns-in_err-x-clause-comes : goal.returns-in_err-x-clause-comes
returns-in_err-x-clause-comes c by split =
    rw c.from_residual.ensures (voxel_out c.args.depth by c.args.u 0 (omega arith) _ _ c.pow2-side.ensures c.axis.ensures (c.in_err-x.ensures (by 0) (split 0 (omega arith))))

pub returns-in_err-y-clause-comes : goal.returns-in_err-y-clause-comes
returns-in_err-y-clause-comes c by split =
    rw c.from_residual-in_err-y.ensures (voxel_out c.args.depth by c.args.u 1 (omega arith) _ _ c.pow2-side.ensures c.axis-2.ensures (c.in_err-y.ensures (by 1) (split 1 (omega arith))))

pub returns-in_err-z-clause-comes : goal.returns-in_err-z-clause-comes
returns-in_err-z-clause-comes c by split =
    rw c.from_residual-in_err-z.ensures (voxel_out c.args.depth by c.args.u 2 (omega arith) _ _ c.pow2-side.ensures c.axis-3.ensures (c.in_err-z.ensures (by 2) (split 2 (omega arith))))

pub returns-clause-root : goal.returns-clause-root
returns-clause-root c = rw c.number_of.ensures (number_lt c.args.depth c.in_ok-x.x c.in_ok-y.y c.in_ok-z.z)

pub returns-clause-comes : goal.returns-clause-comes
returns-clause-comes c by split =
    rw c.number_of.ensures
    (voxel_to c.args.depth by c.args.u _ _ _ _ c.in_ok-x.x c.in_ok-y.y c.in_ok-z.z c.pow2-side.ensures c.axis.ensures c.axis-2.ensures c.axis-3.ensures
    (c.in_ok-x.ensures (by 0) (split 0 (omega arith))) (c.in_ok-y.ensures (by 1) (split 1 (omega arith))) (c.in_ok-z.ensures (by 2) (split 2 (omega arith))))
