-- Past the tests, the voxel's colour and the cell of that colour. Assumes nothing.
use Rattle.std.proofs.Common.{refl, sym, ap, ◌∙◌, inr, ◌-◌, Bool}
use Rattle.cells.specs.Place.{number}
use Rattle.cells.proofs.Bools.{clash}
use Rattle.cells.proofs.Decisions.{passes, deep_enough}
use Rattle.cells.proofs.Places.{number_lt}
use Rattle.records.specs.Lookups.{seen}
use Rattle.records.proofs.Sizes.{free_largest}
use Rattle.plain.specs.Bits.{black_in}
use Rattle.plain.proofs.PlainLaws.{bits_long}
use Rattle.plain.proofs.lookups.lookup_bits.Goals as goal

pub is_black-black-requires : goal.is_black-black-requires
is_black-black-requires c = rw (c.in-Some.ensures.0, c.number_of-v.ensures) (number_lt c.args.depth _ _ _)

pub levels_of_one_colour-requires-clause-root : goal.levels_of_one_colour-requires-clause-root
levels_of_one_colour-requires-clause-root c = rw (c.in-Some.ensures.0, c.number_of-v.ensures) (number_lt c.args.depth _ _ _)

pub returns : goal.returns
returns c =
    let a = c.args in
    let (d, b) = c.in-Some.ensures in
    let v = number a.depth a.x a.y a.z in
    let k = a.depth - c.levels_of_one_colour.result in
    let black = rw (d, b, c.number_of-v.ensures) at c.is_black-black.ensures in
    let free = rw (black, d, b, c.number_of-v.ensures) at c.levels_of_one_colour.ensures in
    inr (
      passes (deep_enough c.if-depth-gt-DEEPEST_PLAIN.false),
      inr (
        passes (clash (sym c.in_root.ensures ∙ c.if-not-in_root.false)),
        inr (
          bits_long a.depth _ refl a.bits.now (rw (d, b) at c.in-Some.bits.whole),
          (k, free_largest a.depth (black_in a.depth a.bits.now) v c.levels_of_one_colour.result (number_lt a.depth a.x a.y a.z) free, ap (λ (t : Bool). seen t k) black),
        ),
      ),
    )
