-- The tests of the highest one bit are those of a proper code, by `Levels`.
use Rattle.std.proofs.Common.{sym, ◌∙◌, arith, eqb-true}
use Rattle.cells.specs.Cell.{proper}
use Rattle.cells.proofs.Levels.{leading_proper, leading_test}
use Rattle.cells.proofs.Bools.{refuted}
use Rattle.cells.proofs.Words.{word_bits}
use Rattle.cells.proofs.inner.is_proper.Goals as goal

pub returns-then-zeros-gt-TOP_BIT : goal.returns-then-zeros-gt-TOP_BIT
returns-then-zeros-gt-TOP_BIT c =
    sym (refuted (proper c.args.depth c.args.code) (λ p. omega (arith, leading_proper word_bits c.args.depth c.args.code (omega (arith, c.requires)) p)))

pub returns-then-top-eq0 : goal.returns-then-top-eq0
returns-then-top-eq0 c = leading_test word_bits c.args.depth c.args.code (omega (arith, c.requires)) c.ranges.code.fits (omega arith) c.if-top-eq0.true

pub returns-else-top-eq0 : goal.returns-else-top-eq0
returns-else-top-eq0 c =
    refuted _ (λ e. c.if-top-eq0.false (eqb-true _ _ e))
    ∙ sym (refuted (proper c.args.depth c.args.code) (λ p. c.if-top-eq0.false (omega (arith, leading_proper word_bits c.args.depth c.args.code (omega (arith, c.requires)) p))))
