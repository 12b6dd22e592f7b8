-- The checked examples of document 01, gathered in one table under one claim: each row fits the definition that is the call's contract. Assumes nothing.
use mathlib.Core.Path.{◌≡◌, refl}
use mathlib.Core.Bool.{true}
use lib.Ieee.{neg, of_bits}
use Rattle.cells.specs.Cell.{level, proper, index, side, start, span, holds}
use Rattle.cells.specs.Payeur.{digit_of, under, rule, stepped, carried}
use Rattle.cells.specs.Place.{along, number, corner}
use Rattle.records.specs.Count.{count}
use Rattle.records.specs.Fault.{all_from, early, eight_at, fault}
use Rattle.records.specs.Record.{black}
use Rattle.records.proofs.Fill.{upto, leaves, good_list}
use Rattle.sets.specs.Inner.{both}
use Rattle.metres.proofs.Rounding.{rounded}
use Rattle.shifts.specs.LabelSums.{sum_label, carry_label}
use Rattle.shifts.specs.Shift.{shift, shifted}
use Rattle.moves.specs.Inner.{keeps_along, leaf_keeps, reversed, back}
use Rattle.demands.specs.Examples.{Fits, All, table}
use Rattle.demands.proofs.Worked.{all_work, all_fit}

all_work_lem : all_work table ≡ true
unfolding level proper index side start span holds digit_of under rule stepped carried along number corner count all_from early eight_at fault black upto leaves good_list both rounded neg of_bits sum_label carry_label shift shifted keeps_along leaf_keeps reversed back
all_work_lem = refl

pub starred : All Fits table
starred = all_fit table all_work_lem
