-- For each call answers that fit its definition at a named input, and one that does not: the empty record arrives, of our depth and of another, and two empty
-- records are merged. Assumes nothing.
use mathlib.Core.Path.{◌≡◌, refl, sym, ap}
use mathlib.Core.Logic.{inl, inr}
use mathlib.Core.List.{List, []}
use Prim.Native.Nat.{ℕ}
use native.Mathlib.Omega.{arith}
use lib.IntN.{pos}
use Rattle.cells.specs.Answer.{answer, given}
use Rattle.cells.proofs.Decisions.{passes, passes_first, opening_known}
use Rattle.cells.proofs.Bools.{clash}
use Rattle.records.specs.Record.{black, Good, ListOf}
use Rattle.records.proofs.First.{good_passes}
use Rattle.records.proofs.CallLaws.{checks}
use Rattle.records.proofs.Writing.{writes_fitting, too_short}
use Rattle.sets.specs.Sets.{InResult, SetOf}
use Rattle.sets.specs.declared.Op.TheVariants.{Join}
use Rattle.metres.specs.declared.Move.{Move}
use Rattle.metres.specs.declared.Move.TheVariants.{Voxels}
use Rattle.moves.specs.Moves.{MoveOf}
use Rattle.moves.proofs.MoveLaws.{move_of}
use Rattle.blocks.specs.Block.{whole}
use Rattle.blocks.specs.File.{file_of}
use Rattle.blocks.specs.Calls.{ReadAnswer, ReadOf, WriteOf}
use Rattle.blocks.proofs.Files.{file_length}
use Rattle.blocks.proofs.Theorems.{reads_file}
use Rattle.arrivals.specs.Arrivals.{Step, ArriveOf, MergeOf}
use Rattle.arrivals.proofs.Steps.{arrive_other, arrive_moved, merge_written}
use Rattle.arrivals.proofs.Theorems.{one_arrive, one_merge}

-- the empty record of depth 3, its file, and a move to the east
pub good_none : Good 3 []
good_none = (opening_known (checks 3 []) (given 0) (inr (passes (λ h. omega arith), inr (passes_first (λ i h. absurd (omega arith)), refl))) refl).good

-- it is the list of any set without a voxel
none_listed : (P : ℕ → Type 0) → ((v : ℕ) → P v → ⊥) → ListOf 3 P []
unfolding black
none_listed P none = record { good = good_none; exactly = λ v h. (λ e. absurd (clash e refl), λ p. absurd (none v p)) }

abbrev stored : List ℕ
stored = file_of 3 []

abbrev east : Move
east = Voxels (pos 1) (pos 0) (pos 0)

-- ---- arrive

-- no byte at all: 9, with no whole block
pub arrive_refuses : ArriveOf 3 [] east [] [] (answer 9 0 0, [], [])
unfolding whole
arrive_refuses = inl (_, inl (refl, refl), refl)

abbrev reading : ReadAnswer
reading = record { answer = given 0; depth = 3 }

reads_none : ReadOf stored [] reading []
reads_none = reads_file 3 [] [] (omega arith) good_none (omega arith)

-- the empty record takes every move
moves_none : MoveOf 3 [] east [] (given 0) []
unfolding black
moves_none =
    move_of 3 [] east [] (given 0) [] (omega arith) good_none
    (pos 1, pos 0, pos 0, (λ a h. refl), inr (passes_first (λ i h. absurd (omega arith)), ([], none_listed _ (λ v (u, e, _). clash e refl), writes_fitting [] [] (omega arith))))

pub arrive_holds : ArriveOf 3 stored east [] [] (given 0, [], [])
arrive_holds = arrive_moved 3 stored east [] [] reading [] reads_none refl refl (given 0) [] moves_none

-- at another depth it is refused
pub arrive_other_depth : ArriveOf 2 stored east [] [] (answer 1 0 0, [], [])
arrive_other_depth = arrive_other 2 stored east [] [] reading [] reads_none refl (λ (e : ◌≡◌ {A = ℕ} 3 2). omega arith)

pub arrive_fails : ArriveOf 2 stored east [] [] (given 0, [], []) → ⊥
arrive_fails h = let e : ◌≡◌ {A = ℕ} 0 1 = ap (λ (t : Step). t.0.number) (one_arrive 2 stored east [] [] _ _ h arrive_other_depth) in omega arith

-- ---- merge

-- two empty records: their file needs 512 bytes, where none is lent
joins_none : SetOf Join 3 [] [] [] (given 0) []
unfolding black
joins_none =
    let joined : ListOf 3 (InResult Join 3 [] []) [] = none_listed _ (λ v. elim [ inl e ↦ clash e refl | inr e ↦ clash e refl ]) in
    inr (passes (λ h. omega arith), inr (good_passes 3 [] 1 good_none, inr (good_passes 3 [] 2 good_none, ([], joined, writes_fitting [] [] (omega arith)))))

writes_none : WriteOf 3 [] [] (answer 8 512 0) []
writes_none =
    let short = too_short (file_of 3 []) [] 512 (sym (file_length 3 [])) (answer 8 512 0) [] (omega arith) refl refl in
    inr (passes (λ h. omega arith), inr (good_passes 3 [] 1 good_none, short))

pub merge_refuses : MergeOf 3 [] [] [] [] (answer 8 512 0, [], [])
merge_refuses = merge_written 3 [] [] [] [] (given 0) [] joins_none refl (answer 8 512 0) [] writes_none

pub merge_fails : MergeOf 3 [] [] [] [] (given 0, [], []) → ⊥
merge_fails h = let e : ◌≡◌ {A = ℕ} 0 8 = ap (λ (t : Step). t.0.number) (one_merge 3 [] [] [] [] _ _ h merge_refuses) in omega arith
