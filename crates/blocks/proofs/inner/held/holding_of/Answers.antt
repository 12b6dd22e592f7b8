-- The blocks' tests, then the list's.
use Rattle.std.proofs.Common.{◌≡◌, ℕ, List, [], ◌∷◌, length, Ok, Err, refl, ap, subst, inl, inr, arith}
use Rattle.cells.specs.Answer.{given}
use Rattle.cells.specs.Refusals.{refused}
use Rattle.cells.specs.declared.Answer.{Answer}
use Rattle.cells.specs.declared.refusals.Refusal.{Refusal}
use Rattle.cells.proofs.Decisions.{opening_refuses, opening_known}
use Rattle.cells.proofs.Refused.{refused_numbered}
use Rattle.records.specs.Fault.{Faulty}
use Rattle.records.specs.Walk.{Walked}
use Rattle.records.proofs.Walks.{stopped_refuses, walked_passes, walked_volume}
use Rattle.blocks.specs.Block.{depth_of, codes}
use Rattle.blocks.specs.Calls.{BlockCheckOf}
use Rattle.blocks.specs.Inner.{Sound, held}
use Rattle.blocks.proofs.Sound.{some_block, all_blocks, sound_passes}
use Rattle.blocks.proofs.CallLaws.{checks_blocks}
use Rattle.blocks.proofs.inner.held.holding_of.Goals as goal

-- what `check_blocks` tells where it does not refuse
checked : (b : List ℕ) (n : ℕ) → BlockCheckOf b (given n) → Sound b × (n ≡ length (codes b))
checked b n d = let (s, e) = opening_known (checks_blocks b) (given n) d refl in (s, ap (λ (a : Answer). a.place) e)

pub returns-in-Err : goal.returns-in-Err
returns-in-Err c =
    let b = c.args.bytes.now in
    let e = c.in-Err.refusal in
    opening_refuses (checks_blocks b) (refused e) c.in-Err.ensures Err (Faulty (depth_of b) (codes b) 1 ∷ []) (λ r. r ≡ Ok (held b)) (refused_numbered e)

pub word_at-depth-requires : goal.word_at-depth-requires
word_at-depth-requires c =
    let b = c.args.bytes.now in
    let s = (checked b c.in-Ok.leaves c.in-Ok.ensures).0 in
    omega (arith, some_block b s, all_blocks b s)

pub judge_stored-requires : goal.judge_stored-requires
judge_stored-requires c = let (s, e) = checked c.args.bytes.now c.in-Ok.leaves c.in-Ok.ensures in (s, c.word_at-depth.ensures, e)

pub returns-in-Ok-judge_stored : goal.returns-in-Ok-judge_stored
returns-in-Ok-judge_stored c =
    let b = c.args.bytes.now in
    let (s, e) = checked b c.in-Ok.leaves c.in-Ok.ensures in
    let w = subst (λ (d : ℕ). Walked d (codes b) (length (codes b)) (Ok c.in-Ok-judge_stored.walk)) c.word_at-depth.ensures c.in-Ok-judge_stored.ensures in
    inr (sound_passes b s, inr (walked_passes (depth_of b) (codes b) c.in-Ok-judge_stored.walk w 1, rw (e, c.word_at-depth.ensures, walked_volume (depth_of b) (codes b) c.in-Ok-judge_stored.walk w)))

pub returns-in-Err-judge_stored : goal.returns-in-Err-judge_stored
returns-in-Err-judge_stored c =
    let b = c.args.bytes.now in
    let s = (checked b c.in-Ok.leaves c.in-Ok.ensures).0 in
    let w = subst (λ (d : ℕ). Walked d (codes b) (length (codes b)) (Err c.in-Err-judge_stored.stop)) c.word_at-depth.ensures c.in-Err-judge_stored.ensures in
    inr (sound_passes b s, inl (_, stopped_refuses (depth_of b) (codes b) c.in-Err-judge_stored.stop w 1, ap (λ (r : Refusal). Err (refused r)) c.of_list.ensures))
