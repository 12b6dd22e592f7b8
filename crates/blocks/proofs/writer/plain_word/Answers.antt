-- The four words of the head, then the codes, and 0 after them.
use Rattle.std.proofs.Common.{ℕ, Option, sym, ap, ◌∙◌, arith}
use Rattle.std.specs.Option.{unwrap_or}
use native.Mathlib.Nat.{le_refl}
use Rattle.blocks.specs.File.{plain}
use Rattle.blocks.proofs.Files.{plain_code}
use Rattle.blocks.proofs.writer.plain_word.Goals as goal

pub returns-in-0 : goal.returns-in-0
unfolding plain
returns-in-0 c = rw c.in-0.is

pub returns-in-1 : goal.returns-in-1
unfolding plain
returns-in-1 c = rw c.in-1.is c.requires.0.number

pub returns-in-2 : goal.returns-in-2
unfolding plain
returns-in-2 c = rw c.in-2.is

pub returns-in-3 : goal.returns-in-3
unfolding plain
returns-in-3 c = rw c.in-3.is (omega (arith, c.min.ensures))

pub returns-in_default : goal.returns-in_default
returns-in_default c =
    let a = c.args in
    c.unwrap_or.ensures
    ∙ ap (λ (o : Option ℕ). unwrap_or o 0) c.copied.ensures
    ∙ c.get.ensures.lookup.4 (le_refl _) 0
    ∙ sym (plain_code a.depth a.list.now a.i a.w (omega arith) c.requires.1)
