-- INNER: for the contract of `in_voxels`. What its `Result` says of a move: document 01's number, place and list, or the whole voxels, for each of its cases. Definitions only.
use Rattle.std.specs.Prelude.{◌≡◌, ◌⊎◌, ℕ, ℤ, Result, Ok, Err}
use Rattle.std.proofs.Common.{inl, inr}
use Rattle.cells.specs.Answer.{Decided}
use Rattle.cells.specs.Refusals.{refused}
use Rattle.cells.specs.Place.{axes}
use Rattle.cells.specs.declared.Answer.{Answer}
use Rattle.cells.specs.declared.refusals.NoWholeMove.{NoWholeMove}
use Rattle.cells.specs.declared.refusals.Refusal.TheVariants.{NoMove}
use Rattle.metres.specs.Metres.{move_tests, Becomes}
use Rattle.metres.specs.declared.Move.{Move}
use Rattle.metres.specs.declared.inner.Steps.{Steps}

-- a bad move is number 5 of the table, with its place and list 0
abbrev pub told : NoWholeMove → Answer
told e = refused (NoMove e)

-- any other is the voxels along x, y and z
abbrev pub outcome : Result Steps NoWholeMove → Answer ⊎ (ℤ × ℤ × ℤ)
outcome (Err e) = inl (told e)
outcome (Ok v) = inr (v.x, v.y, v.z)

-- what the move m becomes, t: the first test that fails decides, else the whole voxels
abbrev pub TakenOf : Move → Result Steps NoWholeMove → Type 0
TakenOf m t = Decided inl (move_tests m) (λ r. (i : ℤ) × (j : ℤ) × (k : ℤ) × Becomes m (axes i j k) × (r ≡ inr (i, j, k))) (outcome t)
