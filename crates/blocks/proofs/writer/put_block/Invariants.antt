-- The words before w are written and taken into the check.
use Rattle.std.proofs.Common.{◌≡◌, ℕ, ◌+◌, ◌*◌, List}
use Rattle.blocks.specs.Block.{block_bytes, check}
use Rattle.blocks.specs.File.{plain}
use Rattle.blocks.specs.Inner.{begun}
use Rattle.blocks.proofs.writer.put_block.Given as goal

-- the words before w of block i are written over o
abbrev pub Reached : ℕ → List ℕ → ℕ → List ℕ → List ℕ → ℕ → Type 0
Reached D l i before bytes w = (o : List ℕ) → before ≡ begun D l o (block_bytes * i) → bytes ≡ begun D l o (block_bytes * i + 4 * w)

abbrev pub invariant-loop-w : goal.invariant-loop-w
invariant-loop-w l = (l.sums ≡ check (plain l.depth l.list l.i) l.w) × Reached l.depth l.list l.i l.initial.bytes l.bytes l.w
