-- No second answer fits a packed call where none fits the library's; and for each call an answer that fits and one that does not. Assumes nothing.
use mathlib.Core.Path.{◌≡◌, refl, sym, ap, ◌∙◌}
use mathlib.Core.List.{List, [], ◌∷◌}
use Prim.Native.Nat.{ℕ, ◌*◌, ◌^◌}
use native.Mathlib.Omega.{arith}
use lib.IntN.{ℤ, pos, negsuc}
use Rattle.cells.specs.declared.Answer.{Answer}
use Rattle.cells.specs.Answer.{answer, given}
use Rattle.cells.specs.Neighbour.{NeighbourOf}
use Rattle.cells.specs.Place.{axes}
use Rattle.cells.proofs.Decisions.{One}
use Rattle.cells.proofs.NeighbourLaws.{one_neighbour_of}
use Rattle.cells.proofs.Instances.{neighbour_holds}
use Rattle.blocks.specs.File.{file_of}
use Rattle.blocks.specs.Calls.{BlockCheckOf, StoredVolumeOf}
use Rattle.blocks.proofs.CallLaws.{one_check_blocks, one_stored_volume}
use Rattle.blocks.proofs.Instances.{block_check_holds, block_check_refuses, stored_volume_holds}
use Rattle.cab.specs.Packed.{packed, Packed}

pub one_packed : (F : Answer → Type 0) → One F → One (Packed F)
one_packed F one v w (a, p, e) (b, q, f) = e ∙ ap packed (one a b p q) ∙ sym f

pub one_cab_neighbour : (D c : ℕ) (d : ℕ → ℤ) → One (Packed (NeighbourOf D c d))
one_cab_neighbour D c d = one_packed (NeighbourOf D c d) (one_neighbour_of D c d)

pub one_cab_check_blocks : (b : List ℕ) → One (Packed (BlockCheckOf b))
one_cab_check_blocks b = one_packed (BlockCheckOf b) (one_check_blocks b)

pub one_cab_stored_volume : (b : List ℕ) → One (Packed (StoredVolumeOf b))
one_cab_stored_volume b = one_packed (StoredVolumeOf b) (one_stored_volume b)

-- ---- instances

-- r742 with steps (-1, +1, +1) gives r675
pub cab_neighbour_holds : Packed (NeighbourOf 3 994 (axes (negsuc 0) (pos 1) (pos 1))) 957
cab_neighbour_holds = (given 957, neighbour_holds, refl)

pub cab_neighbour_fails : Packed (NeighbourOf 3 994 (axes (negsuc 0) (pos 1) (pos 1))) 956 → ⊥
cab_neighbour_fails h = let e : ◌≡◌ {A = ℕ} 956 957 = one_cab_neighbour 3 994 (axes (negsuc 0) (pos 1) (pos 1)) _ _ h cab_neighbour_holds in omega arith

-- depth 3, [r057] stored: one leaf, one voxel; no byte at all: 9 and no block
pub cab_check_blocks_holds : Packed (BlockCheckOf (file_of 3 (559 ∷ []))) 1
cab_check_blocks_holds = (given 1, block_check_holds, refl)

pub cab_check_blocks_refuses : Packed (BlockCheckOf []) (9 * 2 ^ 32)
cab_check_blocks_refuses = (answer 9 0 0, block_check_refuses, refl)

pub cab_check_blocks_fails : Packed (BlockCheckOf []) 0 → ⊥
cab_check_blocks_fails h = let e : 0 ≡ 9 * 2 ^ 32 = one_cab_check_blocks [] _ _ h cab_check_blocks_refuses in omega arith

pub cab_stored_volume_holds : Packed (StoredVolumeOf (file_of 3 (559 ∷ []))) 1
cab_stored_volume_holds = (given 1, stored_volume_holds, refl)

pub cab_stored_volume_fails : Packed (StoredVolumeOf (file_of 3 (559 ∷ []))) 512 → ⊥
cab_stored_volume_fails h = let e : ◌≡◌ {A = ℕ} 512 1 = one_cab_stored_volume (file_of 3 (559 ∷ [])) _ _ h cab_stored_volume_holds in omega arith
