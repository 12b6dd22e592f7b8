-- Acceptance, a pass on the empty part that counts, and one on all of the buffer that writes. Assumes nothing.
use Rattle.std.proofs.Common.{◌≡◌, ℕ, ◌<◌, ◌^◌, ◌↔◌, Bool, true, false, List, length, get_or, ℤ, refl, inl}
use Rattle.cells.specs.Place.{axes, Came}
use Rattle.records.specs.Record.{black, Ordered}
use Rattle.records.specs.Carried.{FromBlack}
use Rattle.records.proofs.Carrying.{Accepted}
use Rattle.emit.proofs.Answers.{crowded, written}
use Rattle.shifts.specs.Shift.{shifted}
use Rattle.moves.specs.Inner.{AllSplit, parts, leaf_keeps, back}
use Rattle.moves.specs.declared.inner.Parted.{Parted}
use Rattle.moves.proofs.Acceptance.{first_strays, all_stay}
use Rattle.moves.proofs.Back.{shifted_exactly}
use Rattle.moves.proofs.MoveLaws.{room_told}
use Rattle.moves.proofs.move_whole.Goals as goal

-- where no leaf strays, the list shifted back has the displaced voxels
module _ (D : ℕ) (d : ℕ → ℤ) (p : ℕ → Parted) (split : AllSplit d p) (l : List ℕ) (ordered : Ordered D 0 l) (none : (i : ℕ) → i < length l → leaf_keeps D p (get_or l i 0) ≡ false → ⊥) where
  kept : (t : Bool) → (t ≡ false → ⊥) → t ≡ true
  kept true h = refl
  kept false h = absurd (h refl)

  accepted : Accepted D (Came D d) l
  accepted = all_stay D d p split l ordered (λ i h. kept (leaf_keeps D p (get_or l i 0)) (none i h))

  voxels : (w : ℕ) → w ≡ back D p → (v : ℕ) → v < 8 ^ D → (shifted D l w v ≡ true) ↔ FromBlack (Came D d) (black D l) v
  voxels w is v h = rw is (shifted_exactly D d p split l ordered accepted v h)

pub returns-in-Some : goal.returns-in-Some
returns-in-Some c =
    let a = c.args in
    let first = first_strays a.depth (axes a.by.x a.by.y a.by.z) (parts c.from-d.result) c.from-d.ensures a.list.now c.requires.1 c.in-Some.ensures in
    inl (_, (c.in-Some.i, first, refl), refl)

pub returns-then-out-need : goal.returns-then-out-need
returns-then-out-need c =
    let a = c.args in
    let d = axes a.by.x a.by.y a.by.z in
    room_told a.depth a.list.now d a.out.now _ (accepted a.depth d (parts c.from-d.result) c.from-d.ensures a.list.now c.requires.1 c.in_default.ensures)
    (crowded _ _ _ (voxels a.depth d (parts c.from-d.result) c.from-d.ensures a.list.now c.requires.1 c.in_default.ensures c.backwards-w.result c.backwards-w.ensures) c.shift_list-need.ensures refl c.if-out-need.true)

pub returns : goal.returns
returns c =
    let a = c.args in
    let d = axes a.by.x a.by.y a.by.z in
    room_told a.depth a.list.now d a.out.now _ (accepted a.depth d (parts c.from-d.result) c.from-d.ensures a.list.now c.requires.1 c.in_default.ensures)
    (written _ _ _ (voxels a.depth d (parts c.from-d.result) c.from-d.ensures a.list.now c.requires.1 c.in_default.ensures c.backwards-w.result c.backwards-w.ensures) c.shift_list-need.ensures refl c.if-out-need.false c.shift_list.ensures)
