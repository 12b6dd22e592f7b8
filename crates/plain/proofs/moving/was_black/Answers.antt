-- The colour of where the voxel leads back to; from outside the root nothing comes. Assumes nothing.
use Rattle.std.proofs.Common.{neg_ℤ, refl}
use Rattle.cells.proofs.Bools.{clash}
use Rattle.plain.proofs.Voxels.{from_outside, from_inside}
use Rattle.plain.proofs.moving.was_black.Goals as goal

pub returns-in-Some : goal.returns-in-Some
returns-in-Some c by split =
    let b = c.args.bits in
    rw c.is_black.ensures (from_inside b.depth by b.bytes.now c.args.v c.requires c.in-Some.u (c.in-Some.ensures.comes (λ a. neg_ℤ (by a)) split))

pub returns-in-None : goal.returns-in-None
returns-in-None c by split = let b = c.args.bits in (λ e. absurd (clash e refl), λ f. absurd (from_outside b.depth by b.bytes.now c.args.v (c.in-None.ensures.comes (λ a. neg_ℤ (by a)) split) f))
