-- The laws of the calls on stored files: what a call that begins by judging the file takes from it, and no second answer fits. Assumes nothing.
use Rattle.std.proofs.Common.{◌≡◌, ℕ, List, [], ◌∷◌, length, Result, Ok, Err, refl, ap}
use Rattle.cells.specs.Answer.{given, Test, Decided, alone}
use Rattle.cells.specs.declared.Answer.{Answer}
use Rattle.cells.proofs.Decisions.{One, one_equal, one_refuses, one_refuses_first, one_decided, decided_first, decided_passed, decided_next, Passed, Opening}
use Rattle.records.specs.Record.{Good}
use Rattle.records.specs.Fault.{Faulty}
use Rattle.records.specs.Writing.{TooShort}
use Rattle.records.proofs.First.{not_faulty, faulty_numbered}
use Rattle.records.proofs.Writing.{one_list_writes}
use Rattle.blocks.specs.Block.{depth_of, codes}
use Rattle.blocks.specs.File.{file_of}
use Rattle.blocks.specs.Calls.{ReadAnswer, Unsound, BlockCheckOf, StoredVolumeOf, unread, ReadOf, WriteOf}
use Rattle.blocks.specs.Inner.{Sound, held, HoldingOf}
use Rattle.blocks.specs.declared.inner.held.Holding.{Holding}
use Rattle.blocks.proofs.Sound.{unsound_numbered, one_unsound, not_unsound}

-- ---- past the tests 9 and 2 to 4

-- what the answer `given n` of these tests says
pub record Held (b : List ℕ) (n : ℕ) : Type 0 where
  pub is_sound : Sound b
  pub good : Good (depth_of b) (codes b)
  pub is_length : n ≡ length (codes b)

-- a call that opens with `check_blocks`
pub checks_blocks : (b : List ℕ) → Opening (Unsound b ∷ []) (λ r. r ≡ given (length (codes b))) (λ r. Sound b × (r ≡ given (length (codes b))))
checks_blocks b = record { numbered = (unsound_numbered b, tt); succeeds = λ r e. ap (λ (x : Answer). x.number) e; known = λ r (unsound, _) e. (not_unsound b unsound, e) }

-- and with the judgement of the file: the blocks, then the list that they hold
pub judges_file : (b : List ℕ) → Opening (Unsound b ∷ Faulty (depth_of b) (codes b) 1 ∷ []) (λ r. r ≡ given (length (codes b))) (λ r. Held b r.place × (r ≡ given (length (codes b))))
judges_file b = record {
  numbered = (unsound_numbered b, (faulty_numbered (depth_of b) (codes b) 1, tt));
  succeeds = λ r e. ap (λ (x : Answer). x.number) e;
  known = λ r (unsound, (clean, _)) e.
      (record { is_sound = not_unsound b unsound; good = not_faulty (depth_of b) (codes b) 1 clean; is_length = ap (λ (x : Answer). x.place) e }, e);
}

-- what a call that opens with the judgement of a file takes from `holding_of`: its refusal is passed on
pub holding_refuses : {S : Type 0} (refuse : Answer → S) (Gs : List Test) (Q : S → Type 0) (b : List ℕ) (a : Answer) → HoldingOf b (Err a)
    → Decided refuse (Unsound b ∷ (Faulty (depth_of b) (codes b) 1 ∷ Gs)) Q (refuse a)
holding_refuses {S} refuse Gs Q b a d = decided_first told Err (Unsound b ∷ Faulty (depth_of b) (codes b) 1 ∷ []) Gs (λ r. r ≡ Ok (held b)) Q (Err a) (λ e. absurd (cc)) d
  where
    told : Result Holding Answer → S
    told (Err x) = refuse x
    told (Ok h) = refuse a

-- and past it, what is held is known, and further tests decide
module _ (b : List ℕ) (h : Holding) (d : HoldingOf b (Ok h)) where
  passed : Passed (Unsound b ∷ Faulty (depth_of b) (codes b) 1 ∷ []) × (h ≡ held b)
  passed =
      let (tests, e) = decided_passed number Err (λ a. refl) (Unsound b ∷ Faulty (depth_of b) (codes b) 1 ∷ []) (λ r. r ≡ Ok (held b)) (Ok h) (judges_file b).numbered refl d in
      (tests, (cc))
    where
      number : Result Holding Answer → ℕ
      number (Err a) = a.number
      number (Ok x) = 0

  pub holding_known : Held b h.leaves × (h ≡ held b)
  holding_known =
      let ((unsound, (clean, _)), e) = passed in
      (record { is_sound = not_unsound b unsound; good = not_faulty (depth_of b) (codes b) 1 clean; is_length = ap (λ (x : Holding). x.leaves) e }, e)

  pub holding_passes : {S : Type 0} (refuse : Answer → S) (Gs : List Test) (Q : S → Type 0) (s : S) → Decided refuse Gs Q s → Decided refuse (Unsound b ∷ (Faulty (depth_of b) (codes b) 1 ∷ Gs)) Q s
  holding_passes refuse Gs Q s q = decided_next refuse (Unsound b ∷ Faulty (depth_of b) (codes b) 1 ∷ []) Gs Q s passed.0 q

-- ---- no second answer

module _ (b : List ℕ) where
  pub one_check_blocks : One (BlockCheckOf b)
  one_check_blocks = one_decided alone (Unsound b ∷ []) _ (one_unsound b, tt) one_equal

  pub one_stored_volume : One (StoredVolumeOf b)
  one_stored_volume = one_decided alone (Unsound b ∷ Faulty (depth_of b) (codes b) 1 ∷ []) _ (one_unsound b, (one_refuses_first, tt)) one_equal

  -- the answer with the depth, and the buffer afterwards
  pub one_read : (o : List ℕ) → One (λ (t : ReadAnswer × List ℕ). ReadOf b o t.0 t.1)
  one_read o = one_decided (unread o) (Unsound b ∷ Faulty (depth_of b) (codes b) 1 ∷ TooShort (length (codes b)) o ∷ []) _ (one_unsound b, (one_refuses_first, (one_refuses, tt))) one_equal

-- the answer, and the bytes afterwards
pub one_write : (D : ℕ) (l o : List ℕ) → One (λ (t : Answer × List ℕ). WriteOf D l o t.0 t.1)
one_write D l o = one_list_writes (file_of D l) o D l
