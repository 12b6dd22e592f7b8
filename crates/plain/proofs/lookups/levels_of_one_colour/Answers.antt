-- The next larger cell as a run of bits. Assumes nothing.
use Rattle.std.proofs.Common.{◌≡◌, ℕ, suc, ◌+◌, ◌*◌, ◌/◌, ◌^◌, ◌<◌, ◌≤◌, arith, sym, ap, ◌∙◌}
use Rattle.cells.proofs.Parting.{alike_within}
use Rattle.cells.proofs.Power.{pow8_pos, pow8_mono}
use Rattle.plain.proofs.BitLaws.{bytes_enough}
use Rattle.plain.proofs.Outwards.{some_other, no_other}
use Rattle.plain.proofs.lookups.levels_of_one_colour.Goals as goal

-- it lies in the root
within : {n : ℕ} (D v m : ℕ) → m ≡ 8 ^ n → v < 8 ^ D → n ≤ D → v / m * m + m ≤ 8 ^ D
within {n} D v m is root h = rw is (alike_within D n v h root)

pub nonzero_div-v : goal.nonzero_div-v
nonzero_div-v c = rw c.pow8-count.ensures (pow8_pos _)

pub first_other-requires : goal.first_other-requires
first_other-requires c =
    let b = c.args.bits in
    let w = within b.depth c.args.v c.pow8-count.result c.pow8-count.ensures c.requires.root (omega arith) in
    (omega (arith, w, pow8_mono b.shallow), omega (arith, w, b.whole, bytes_enough b.depth))

pub returns-then-is_some : goal.returns-then-is_some
returns-then-is_some c =
    let b = c.args.bits in
    let n : ℕ = suc c.loop-levels.levels in
    let is : c.pow8-count.result ≡ 8 ^ n = c.pow8-count.ensures ∙ ap (λ (k : ℕ). 8 ^ k) (omega arith) in
    record {
      levels = omega arith;
      none = c.loop-levels.invariant;
      some = λ _. some_other b.depth c.args.v b.bytes.now c.args.black c.requires.root n _ c.pow8-count.result (omega arith) (ap (λ (k : ℕ). c.args.v / k * k) is) is c.first_other.result (sym c.is_some.ensures ∙ c.if-is_some.true) c.first_other.ensures;
    }

pub loop-levels-preserved : goal.loop-levels-preserved
loop-levels-preserved c =
    let b = c.args.bits in
    let is = c.pow8-count.ensures in
    no_other b.depth c.args.v b.bytes.now c.args.black c.requires.root (c.loop-levels.levels + 1) _ c.pow8-count.result (omega arith) (ap (λ (k : ℕ). c.args.v / k * k) is) is c.first_other.result (sym c.is_some.ensures ∙ c.if-is_some.false) c.first_other.ensures
