-- Each code is stored behind those before it.
use Rattle.std.proofs.Common.{◌≡◌, ℕ, ◌+◌, ◌-◌, ◌*◌, List, set, refl, ap, ◌∙◌, arith}
use lib.Seq.{sets}
use Rattle.records.proofs.Writing.{sets_front}
use Rattle.blocks.specs.Block.{block_codes, word, blocks, tabulated, codes}
use Rattle.blocks.proofs.Tables.{sets_more}
use Rattle.blocks.proofs.Sound.{codes_length, code_within}
use Rattle.blocks.proofs.reader.copy.Invariants.{code}
use Rattle.blocks.proofs.reader.copy.Goals as goal

pub loop-i-init : goal.loop-i-init
unfolding tabulated
loop-i-init c = refl

pub code_at-requires : goal.code_at-requires
code_at-requires c = code_within c.args.bytes.now c.requires.0 c.loop-i.i (omega (arith, c.requires.1, c.loop-i-test.true))

pub loop-i-preserved : goal.loop-i-preserved
loop-i-preserved c =
    let i = c.loop-i.i in
    ap (λ (l : List ℕ). set l i c.code_at.result) c.loop-i.invariant ∙ sets_more (code c.args.bytes.now) c.args.out.now i (i + 1) c.code_at.result refl c.code_at.ensures

pub returns : goal.returns
unfolding codes
returns c =
    let b = c.args.bytes.now in
    let o = c.args.out.now in
    let e : c.loop-i.i ≡ block_codes * (blocks b - 1) + word b (blocks b - 1) 3 = omega (arith, c.loop-i-test.false, c.loop-i.auto.i-end, c.requires.1, codes_length b) in
    c.loop-i.invariant ∙ ap (λ (n : ℕ). sets o 0 (tabulated (code b) n)) e ∙ sets_front o (codes b) (omega (arith, c.requires.1, c.requires.2))
