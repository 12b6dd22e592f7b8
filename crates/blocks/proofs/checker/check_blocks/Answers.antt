-- The length decides first, then the first unsound block.
use Rattle.std.proofs.Common.{◌≡◌, ℕ, ◌/◌, false, List, length, sym, refl, ap, inl, inr}
use Rattle.cells.specs.Answer.{answer, given}
use Rattle.cells.specs.declared.Answer.{Answer}
use Rattle.blocks.specs.Block.{block_bytes, whole}
use Rattle.blocks.specs.Calls.{BlockCheckOf}
use Rattle.blocks.specs.Inner.{Sound}
use Rattle.blocks.proofs.Sound.{no_block, a_rest, is_whole, sound_passes}
use Rattle.blocks.proofs.checker.check_blocks.Goals as goal

-- the length is wrong: 9 with the count of whole blocks
bad_length : (b : List ℕ) (r : Answer) → whole b ≡ false → r ≡ answer 9 (length b / block_bytes) 0 → BlockCheckOf b r
bad_length b r w e = inl (_, inl (w, refl), e)

pub returns-then-n-eq0 : goal.returns-then-n-eq0
returns-then-n-eq0 c =
    let b = c.args.bytes.now in
    let z : length b / block_bytes ≡ 0 = c.if-n-eq0.true in
    bad_length b _ (no_block b z) (ap (λ (n : ℕ). answer 9 n 0) (sym z))

pub returns-then-bytes-ne0 : goal.returns-then-bytes-ne0
returns-then-bytes-ne0 c = bad_length c.args.bytes.now _ (a_rest c.args.bytes.now c.if-n-eq0.false c.if-bytes-ne0.true) refl

pub first_unsound-requires : goal.first_unsound-requires
first_unsound-requires c = (is_whole c.args.bytes.now c.if-n-eq0.false c.if-bytes-ne0.false, refl)

pub returns-in-Some : goal.returns-in-Some
returns-in-Some c = inl (_, inr (is_whole c.args.bytes.now c.if-n-eq0.false c.if-bytes-ne0.false, (_, c.in-Some.ensures, refl)), refl)

pub leaves_of-requires : goal.leaves_of-requires
leaves_of-requires c = (record { is_whole = is_whole c.args.bytes.now c.if-n-eq0.false c.if-bytes-ne0.false; each = c.in-None.ensures }, refl)

pub returns-in-None : goal.returns-in-None
returns-in-None c =
    let sound : Sound c.args.bytes.now = record { is_whole = is_whole c.args.bytes.now c.if-n-eq0.false c.if-bytes-ne0.false; each = c.in-None.ensures } in
    inr (sound_passes c.args.bytes.now sound, ap given c.leaves_of.ensures)
