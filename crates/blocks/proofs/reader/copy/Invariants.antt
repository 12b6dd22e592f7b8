-- The first i codes are stored.
use Rattle.std.proofs.Common.{◌≡◌, ℕ, ◌+◌, ◌/◌, ◌%◌, List}
use lib.Seq.{sets}
use Rattle.blocks.specs.Block.{block_codes, word, tabulated}
use Rattle.blocks.proofs.reader.copy.Given as goal

-- code j
abbrev pub code : List ℕ → ℕ → ℕ
code b j = word b (j / block_codes) (4 + j % block_codes)

abbrev pub invariant-loop-i : goal.invariant-loop-i
invariant-loop-i l = l.out ≡ sets l.initial.out 0 (tabulated (code l.bytes) l.i)
