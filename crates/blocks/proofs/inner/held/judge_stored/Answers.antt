-- The codes asked for are read where they stand in the blocks.
use Rattle.std.proofs.Common.{ℕ, sym, ◌∙◌, subst, arith, rules, of_calls}
use Rattle.records.specs.Walk.{Walked}
use Rattle.blocks.specs.Block.{codes}
use Rattle.blocks.proofs.Sound.{codes_at, shallow_file, code_within}
use Rattle.blocks.proofs.inner.held.judge_stored.Goals as goal

pub walk_along-requires : goal.walk_along-requires
walk_along-requires c =
    let b = c.args.bytes.now in
    let (sound, is-depth, is-length) = c.requires in (
      omega (arith, is-depth, shallow_file b sound),
      record {
        may = λ i h. let within = code_within b sound i (omega (arith, h, is-length)) in search (rules, of_calls, within);
        list = codes b;
        tells = λ i x h p. codes_at b i (omega (arith, h, is-length)) ∙ sym (search (rules, of_calls));
      },
    )

pub returns : goal.returns
returns c =
    let b = c.args.bytes.now in
    subst (λ (n : ℕ). Walked c.args.depth (codes b) n c.walk_along.result) c.requires.2
    (c.walk_along.ensures (codes b) (λ i x h p. codes_at b i (omega (arith, h, c.requires.2)) ∙ sym (search (rules, of_calls))))
