-- Each test is the fault's own, on what is kept of the leaves before.
use Rattle.std.proofs.Common.{refl, sym, ◌∙◌, arith}
use Rattle.cells.proofs.Words.{end_fits}
use Rattle.cells.specs.declared.refusals.Fault.TheVariants.{NotProper, Early, EightSiblings}
use Rattle.records.proofs.Rows.{run_last}
use Rattle.records.proofs.Walks.{improper, too_early, eighth, stops, goes}
use Rattle.records.proofs.inner.Walk.step.Goals as goal

pub returns-then-not-is_proper : goal.returns-then-not-is_proper
returns-then-not-is_proper c l i k e = stops k e NotProper (λ z. omega arith) (improper k e (sym c.is_proper.ensures ∙ c.if-not-is_proper.true))

pub returns-then-from-self : goal.returns-then-from-self
returns-then-from-self c l i k e =
    stops k e Early (λ z. omega arith) (too_early k e (sym c.is_proper.ensures ∙ c.if-not-is_proper.false) (omega (arith, c.first-from.ensures, c.if-from-self.true)))

pub next_run-run-requires : goal.next_run-run-requires
next_run-run-requires c some =
    let k = c.requires.kept in
    omega (arith, run_last _ _ (λ z. some (k.is_run ∙ z)), k.is_run, k.is_last)

pub returns-then-run-eq8 : goal.returns-then-run-eq8
returns-then-run-eq8 c l i k e =
    stops k e EightSiblings (λ z. omega arith)
    (eighth k e (sym c.is_proper.ensures ∙ c.if-not-is_proper.false) (omega (arith, c.first-from.ensures, c.if-from-self.false)) (sym c.next_run-run.ensures ∙ c.if-run-eq8.true))

-- the end of the leaf fits
pub overflow_add-self-2 : goal.overflow_add-self-2
overflow_add-self-2 c =
    let a = c.args in
    record { fits = omega (arith, c.first-from.ensures, c.width-voxels.ensures, end_fits a.depth a.code c.requires.deep (sym c.is_proper.ensures ∙ c.if-not-is_proper.false)) }

-- the leaves passed have no more voxels than lie before it
pub overflow_add-self-3 : goal.overflow_add-self-3
overflow_add-self-3 c =
    let a = c.args in
    record {
      fits = omega (arith, c.first-from.ensures, c.if-from-self.false, c.width-voxels.ensures, c.requires.kept.few, end_fits a.depth a.code c.requires.deep (sym c.is_proper.ensures ∙ c.if-not-is_proper.false));
    }

pub returns : goal.returns
returns c l i k e =
    goes k e (sym c.is_proper.ensures ∙ c.if-not-is_proper.false) (omega (arith, c.first-from.ensures, c.if-from-self.false)) (λ z. c.if-run-eq8.false (c.next_run-run.ensures ∙ z)) _ refl refl
    (omega (arith, c.first-from.ensures, c.width-voxels.ensures)) c.next_run-run.ensures (omega (arith, c.width-voxels.ensures))
