-- The words from the first unused one on are 0, or one is not.
use Rattle.std.proofs.Common.{ℕ, ◌+◌, ◌-◌, Bool, eqb, sym, ◌∙◌, arith, eqb-true}
use Rattle.records.specs.Fault.{all_from}
use Rattle.cells.proofs.Bools.{refuted}
use Rattle.records.proofs.Fill.{all_true}
use Rattle.records.proofs.Fault.{all_made}
use Rattle.blocks.specs.Block.{block_codes, word}
use Rattle.blocks.proofs.inner.soundness.unused_zero.Goals as goal

pub returns-then-word_at-ne0 : goal.returns-then-word_at-ne0
returns-then-word_at-ne0 c =
    let k = c.args.k in
    let zero_at : ℕ → Bool = λ v. eqb (word c.args.bytes.now c.args.i v) 0 in
    sym
    (refuted (all_from zero_at (4 + k) (block_codes - k))
    (λ t. c.if-word_at-ne0.true (c.word_at.ensures ∙ eqb-true _ 0 (all_true zero_at (4 + k) (block_codes - k) t c.loop-w.w (omega (arith, c.loop-w.auto.w)) (omega (arith, c.loop-w-test.true, c.requires.1))))))

pub returns : goal.returns
returns c =
    let a = c.args in
    sym (all_made (λ w. eqb (word a.bytes.now a.i w) 0) (4 + a.k) (block_codes - a.k) (λ v lo hi. c.loop-w.invariant v (omega (arith, c.loop-w-test.false, c.requires.1)) lo))
