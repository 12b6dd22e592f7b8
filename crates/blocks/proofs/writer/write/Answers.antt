-- Past the tests the list is good, and its file takes the blocks that its codes take.
use Rattle.std.proofs.Common.{◌≡◌, ℕ, ◌*◌, ◌^◌, ◌<◌, List, length, sym, refl, ap, ◌∙◌, arith}
use Rattle.cells.specs.Answer.{given}
use Rattle.cells.specs.declared.Answer.{Answer}
use Rattle.cells.proofs.Decisions.{opening_known}
use Rattle.cells.proofs.Words.{pow8_small}
use Rattle.records.specs.Calls.{CheckOf}
use Rattle.records.specs.Writing.{WritesOf}
use Rattle.records.proofs.CallLaws.{Checked, checks}
use Rattle.records.proofs.Writing.{too_short, standing, list_written}
use Rattle.blocks.specs.Block.{block_bytes}
use Rattle.blocks.specs.File.{blocks_of, file_of}
use Rattle.blocks.specs.Calls.{WriteOf}
use Rattle.blocks.proofs.Files.{file_length}
use Rattle.blocks.proofs.writer.write.Goals as goal

-- ---- how many blocks a good list of `count` leaves takes

module _ (D : ℕ) (l o : List ℕ) (count n : ℕ) (checked : CheckOf D l (given count)) (told : n ≡ blocks_of count) where
  good : Checked D l count
  good = opening_known (checks D l) (given count) checked refl

  is_blocks : n ≡ blocks_of (length l)
  is_blocks = told ∙ ap blocks_of good.is_length

  few : n < 2 ^ 32
  few = omega (arith, is_blocks, good.few, pow8_small D good.shallow)

  need : block_bytes * n ≡ length (file_of D l)
  need = ap (λ (n : ℕ). block_bytes * n) is_blocks ∙ sym (file_length D l)

  leaves_file : {r : Answer} {after : List ℕ} → WritesOf (file_of D l) o (r, after) → WriteOf D l o r after
  leaves_file w = list_written (file_of D l) o D l _ (given count) checked refl _ _ w

pub overflow_mul-need : goal.overflow_mul-need
overflow_mul-need c = omega (arith, few c.args.depth c.args.list.now c.args.bytes.now c.in_ok-count.count c.blocks_of-n.result c.in_ok-count.ensures c.blocks_of-n.ensures)

pub returns-then-bytes-need : goal.returns-then-bytes-need
returns-then-bytes-need c =
    let D = c.args.depth in
    let l = c.args.list.now in
    let o = c.args.bytes.now in
    let k = c.in_ok-count.ensures in
    let b = c.blocks_of-n.ensures in
    leaves_file D l o _ _ k b (too_short (file_of D l) o _ (need D l o _ _ k b) _ _ c.if-bytes-need.true refl refl)

pub put_blocks-requires : goal.put_blocks-requires
put_blocks-requires c =
    let D = c.args.depth in
    let l = c.args.list.now in
    let o = c.args.bytes.now in
    let k = c.in_ok-count.ensures in
    let b = c.blocks_of-n.ensures in
    (is_blocks D l o _ _ k b, few D l o _ _ k b, c.if-bytes-need.false)

pub returns : goal.returns
returns c =
    let D = c.args.depth in
    let l = c.args.list.now in
    let o = c.args.bytes.now in
    let k = c.in_ok-count.ensures in
    let b = c.blocks_of-n.ensures in
    leaves_file D l o _ _ k b (standing (file_of D l) o _ (need D l o _ _ k b) _ _ c.if-bytes-need.false refl c.put_blocks.ensures)
