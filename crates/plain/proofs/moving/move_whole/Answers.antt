-- The buffers, then the first voxel that leaves, else the moved bits. Assumes nothing.
use Rattle.std.proofs.Common.{ℕ, ℤ, refl, inl, inr}
use Rattle.cells.specs.Place.{axes}
use Rattle.cells.proofs.Decisions.{passes_first}
use Rattle.plain.proofs.PlainLaws.{bits_long, gives_painted}
use Rattle.plain.proofs.moving.move_whole.Goals as goal

pub returns-in-Some-first_leaving : goal.returns-in-Some-first_leaving
returns-in-Some-first_leaving c =
    let a = c.args in
    let (d, b) = c.in-Some.ensures in
    let by : ℕ → ℤ = axes a.by.x a.by.y a.by.z in
    inr (
      bits_long a.depth _ refl a.bits.now (rw (d, b) at c.in-Some.bits.whole),
      inr (
        bits_long a.depth _ c.bytes_for-need.ensures a.out.now c.if-out-need.false,
        inl (_, (c.in-Some-first_leaving.u, rw (d, b) at (c.in-Some-first_leaving.ensures by c.from-d.ensures), refl), refl),
      ),
    )

pub returns : goal.returns
returns c =
    let a = c.args in
    let (d, b) = c.in-Some.ensures in
    let by : ℕ → ℤ = axes a.by.x a.by.y a.by.z in
    inr (
      bits_long a.depth _ refl a.bits.now (rw (d, b) at c.in-Some.bits.whole),
      inr (
        bits_long a.depth _ c.bytes_for-need.ensures a.out.now c.if-out-need.false,
        inr (
          passes_first (rw (d, b) at (c.in_default-first_leaving.ensures by c.from-d.ensures)),
          gives_painted a.depth _ c.bytes_for-need.ensures (rw (d, b) at (c.paint_moved.ensures by (c.other_way.ensures by c.from-d.ensures))) refl,
        ),
      ),
    )
