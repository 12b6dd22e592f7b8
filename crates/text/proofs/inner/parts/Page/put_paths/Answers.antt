-- A path more is put after those before it.
use Rattle.std.proofs.Common.{ℕ, refl, ◌∙◌, sym, ap, arith, take}
use Rattle.std.proofs.Math.Numerals.{add-one}
use Rattle.std.proofs.lemmas.List.{take_all}
use Rattle.records.proofs.Fault.{member_at}
use Rattle.records.proofs.Leaves.{member}
use Rattle.text.specs.Text.{path_lines}
use Rattle.text.proofs.Puts.{put_none, put_append, put_as}
use Rattle.text.proofs.Digits.{paths_more}
use Rattle.text.proofs.inner.parts.Page.put_paths.Goals as goal

pub loop-code-init : goal.loop-code-init
unfolding path_lines
loop-code-init c = record { same = refl; near = omega arith; text = λ D o. put_none }

pub put_path-requires : goal.put_path-requires
put_path-requires c = omega (arith, c.loop-code.invariant.near, c.loop-code-test.true, c.requires)

pub loop-code-preserved : goal.loop-code-preserved
loop-code-preserved c =
    let l = c.args.list.now in
    let i = c.loop-code.code-index in
    record {
      same = c.put_path.ensures.same ∙ c.loop-code.invariant.same;
      near = omega (arith, c.loop-code.invariant.near, c.put_path.ensures.near);
      text = λ D o.
          put_as (sym (paths_more D l i c.loop-code-test.true) ∙ ap (λ (m : ℕ). path_lines D (take m l)) (sym (add-one i)))
          (put_append (c.loop-code.invariant.text D o) (c.put_path.ensures.text D (member D 0 _ _ o (member_at l i c.loop-code-test.true)).0));
    }

pub returns-clause-text : goal.returns-clause-text
returns-clause-text c = λ D o. put_as (ap (path_lines D) (take_all c.loop-code.code-index c.args.list.now c.loop-code-test.false)) (c.loop-code.invariant.text D o)
