-- Demand 3: moves keep the black volume; the volumes of the join and the intersection add up to those of the two lists. A volume is the place of an answer
-- that fits the volume call. Assumes nothing.
use mathlib.Core.Path.{◌≡◌, sym, ap, ap₂, ◌∙◌}
use mathlib.Core.Logic.{inl, inr}
use mathlib.Core.List.{List}
use Prim.Native.Nat.{ℕ, ◌+◌, ◌^◌, ◌<◌, ◌≤◌}
use Rattle.cells.specs.Answer.{given, deepest}
use Rattle.cells.specs.declared.Answer.{Answer}
use Rattle.cells.proofs.Bools.{same_truth}
use Rattle.records.specs.Record.{black, Good, ListOf}
use Rattle.records.specs.Calls.{VolumeOf}
use Rattle.records.proofs.First.{good_passes}
use Rattle.records.proofs.Volumes.{blacks, join_volume}
use Rattle.records.proofs.Carrying.{carried_volume}
use Rattle.sets.specs.declared.Op.{Op}
use Rattle.sets.specs.declared.Op.TheVariants.{Join, Intersect}
use Rattle.sets.specs.Sets.{Chosen, InResult, SetOf}
use Rattle.sets.specs.Inner.{both}
use Rattle.sets.proofs.Pieces.{exactly}
use Rattle.demands.specs.Laws.{Carrier, move, wrote, KeepsVolume, VolumesAddUp}
use Rattle.demands.specs.Impostors.{Combines}
use Rattle.demands.proofs.Outcomes.{not_deep, Moved, Carries, move_carries, Resulting, Combined, combine_succeeds}

-- ---- the volume call on a good list

pub volume_is : (D : ℕ) (l : List ℕ) (v : Answer) → D ≤ deepest → Good D l → VolumeOf D l v → v ≡ given (blacks D l)
volume_is D l v h g (inl (a, t, _)) = absurd (not_deep D h a t)
volume_is D l v h g (inr (_, inl (a, t, _))) = absurd (good_passes D l 1 g a t)
volume_is D l v h g (inr (_, inr (_, e))) = e

-- ---- a call that carries a list, and so the move

pub carrier_keeps_volume : {X : Type 0} {M : Carrier X} {R : ℕ → X → ℕ → ℕ → Type 0} {Takes : X → Type 0} → Carries M R Takes → KeepsVolume M
carrier_keeps_volume {X} {M} {R} {Takes} carries D l x o o' r moved z v w of-l of-m =
    let m : Moved D l (R D x) o o' r = carries.moved D l x o o' r moved z in
    let p : v ≡ given (blacks D l) = volume_is D l v m.depth m.good of-l in
    let q : w ≡ given (blacks D (wrote r o')) = volume_is D (wrote r o') w m.depth m.gives.list.good of-m in
    let same : blacks D l ≡ blacks D (wrote r o') = carried_volume D (R D x) (carries.carrying D x) l (wrote r o') m.good m.accepted m.gives.list in
    (ap (λ (a : Answer). a.number) p, q ∙ ap given (sym same) ∙ sym p)

pub keeps_volume : KeepsVolume move
keeps_volume = carrier_keeps_volume move_carries

-- ---- two lists made one

-- Where the list j of the voxels that T takes and the list i of those that U takes have as many black voxels as the lists a and b, volumes add up.
pub add_up : (T U : Type 0 → Type 0 → Type 0)
    → ((D : ℕ) (a b j i : List ℕ) → Good D a → Good D b → ListOf D (Resulting T D a b) j → ListOf D (Resulting U D a b) i → blacks D j + blacks D i ≡ blacks D a + blacks D b)
    → VolumesAddUp (Combines T) (Combines U)
add_up T U sums D a b o o' r joined z p p' s met z' v w j i of-a of-b of-j of-i =
    let x : Combined T D a b o o' r = combine_succeeds T D a b o o' r joined z in
    let y : Combined U D a b p p' s = combine_succeeds U D a b p p' s met z' in
    let ev = volume_is D a v x.depth x.good_first of-a in
    let ew = volume_is D b w x.depth x.good_second of-b in
    let ej = volume_is D (wrote r o') j x.depth x.gives.list.good of-j in
    let ei = volume_is D (wrote s p') i x.depth y.gives.list.good of-i in
    let number : Answer → ℕ = λ a. a.number in
    let place : Answer → ℕ = λ a. a.place in
    let plus : ℕ → ℕ → ℕ = λ a b. a + b in (
      ap number ev,
      ap number ew,
      ap number ej,
      ap number ei,
      ap₂ plus (ap place ej) (ap place ei) ∙ sums D a b (wrote r o') (wrote s p') x.good_first x.good_second x.gives.list y.gives.list ∙ ap₂ plus (sym (ap place ev)) (sym (ap place ew)),
    )

-- a voxel's colour in the result, from its colours in the two lists
pub colour_made : (op : Op) (D : ℕ) (a b c : List ℕ) → ListOf D (InResult op D a b) c → (v : ℕ) → v < 8 ^ D → black D c v ≡ both op D a b v
colour_made op D a b c x v h =
    let e = x.exactly v h in
    let f = exactly op D a b v h in
    same_truth (black D c v) (both op D a b v) (λ t. f.1 (e.0 t), λ t. e.1 (f.0 t))

pub volumes_add_up : VolumesAddUp (SetOf Join) (SetOf Intersect)
unfolding both
volumes_add_up = add_up (Chosen Join) (Chosen Intersect) (λ D a b j i ga gb x y. join_volume D a b j i (colour_made Join D a b j x) (colour_made Intersect D a b i y))
