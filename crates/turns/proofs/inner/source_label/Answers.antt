-- By a computed test of every label for each of the three turns. Assumes nothing.
use Rattle.std.proofs.Common.{arith, ◌≡◌, refl, ◌∙◌, ℕ, ◌-◌, ◌/◌, ◌%◌, ◌<◌}
use Rattle.records.specs.Fault.{all_from}
use Rattle.turns.specs.Inner.{label_of, from_label, source_label}
use Rattle.turns.proofs.Labels.{same_labels, label_told}
use Rattle.turns.proofs.inner.source_label.Goals as goal

-- ---- the halves of a label turned back once, twice and three times

once : (m : ℕ) → m < 8 → label_of (m / 2 % 2) (1 - m % 2) (m / 4) ≡ source_label 1 m
unfolding from_label source_label all_from
once = same_labels (λ m. label_of (m / 2 % 2) (1 - m % 2) (m / 4)) (source_label 1) refl

twice : (m : ℕ) → m < 8 → label_of (1 - m % 2) (1 - m / 2 % 2) (m / 4) ≡ source_label 2 m
unfolding from_label source_label all_from
twice = same_labels (λ m. label_of (1 - m % 2) (1 - m / 2 % 2) (m / 4)) (source_label 2) refl

thrice : (m : ℕ) → m < 8 → label_of (1 - m / 2 % 2) (m % 2) (m / 4) ≡ source_label 3 m
unfolding from_label source_label all_from
thrice = same_labels (λ m. label_of (1 - m / 2 % 2) (m % 2) (m / 4)) (source_label 3) refl

-- ---- no turn, and each number of turns

pub returns-in-0 : goal.returns-in-0
unfolding source_label
returns-in-0 c = label_told c.args.turns c.args.m 0 (omega arith) c.requires refl

pub returns-in-1 : goal.returns-in-1
returns-in-1 c = label_told c.args.turns c.args.m 1 (omega arith) c.requires (c.label.ensures ∙ once c.args.m c.requires)

pub returns-in-2 : goal.returns-in-2
returns-in-2 c = label_told c.args.turns c.args.m 2 (omega arith) c.requires (c.label-in-2.ensures ∙ twice c.args.m c.requires)

pub returns-in_default : goal.returns-in_default
returns-in_default c = label_told c.args.turns c.args.m 3 (omega arith) c.requires (c.label-in_default.ensures ∙ thrice c.args.m c.requires)
