-- The neighbour rules of document 001, proved once over all entries of tables II to IV by a test that antt computes: each is the rule of document 01 on each axis.
-- An axis is a number a below 3: x, y, z. Its bit in a label is 2 ^ a, its digit in a direction has the weight 3 ^ a. Assumes nothing.
use Rattle.std.proofs.Common.{◌≡◌, ℕ, ◌+◌, ◌*◌, ◌/◌, ◌%◌, ◌^◌, ◌<◌, eqb, ltb, arith, eqb→eq, ltb→lt}
use Rattle.cells.specs.Place.{EachAxis}
use Rattle.cells.specs.Labels.{flips, carries}
use Rattle.cells.specs.Payeur.{under, rule}
use Rattle.cells.proofs.Table.{at2, at3}

-- the entry e for the label v and the direction d is document 01's rule on axis a
pub record ByRule (a v d e : ℕ) : Type 0 where
  pub label : e % 8 / 2 ^ a % 2 ≡ flips (v / 2 ^ a % 2) (d / 3 ^ a % 3)
  pub carry : e / 8 / 3 ^ a % 3 ≡ carries (v / 2 ^ a % 2) (d / 3 ^ a % 3)

-- what the test tells of the label v and the direction d
pub record Fair (v d : ℕ) : Type 0 where
  pub small : rule v d < 216
  pub axis : EachAxis (λ a. ByRule a v d (rule v d))

pub fair : (v d : ℕ) → v < 8 → d < 27 → Fair v d
unfolding under rule
fair v d hv hd = record {
  small = ltb→lt _ _ (at2 (λ v d. ltb (rule v d) 216) 8 27 tt v d hv hd);
  axis = λ a h. record {
    label = eqb→eq _ _ (at3 (λ a v d. eqb (rule v d % 8 / 2 ^ a % 2) (flips (v / 2 ^ a % 2) (d / 3 ^ a % 3))) 3 8 27 tt a v d h hv hd);
    carry = eqb→eq _ _ (at3 (λ a v d. eqb (rule v d / 8 / 3 ^ a % 3) (carries (v / 2 ^ a % 2) (d / 3 ^ a % 3))) 3 8 27 tt a v d h hv hd);
  };
}

-- ---- the rule as an equation of numbers

-- a digit of a direction (0 for none, 1 for forth, 2 for back) as the step and one more: 1, 2, 0
abbrev pub forth : ℕ → ℕ
forth s = (s + 1) % 3

-- the bit and the step are the new bit and two times the carry; one is added to each step, so that none is below 0
rule_sums : (h s : ℕ) → h < 2 → s < 3 → h + forth s + 1 ≡ flips h s + 2 * forth (carries h s)
rule_sums h s a b = eqb→eq _ _ (at2 (λ h s. eqb (h + forth s + 1) (flips h s + 2 * forth (carries h s))) 2 3 tt h s a b)

pub turn : (a v d : ℕ) → a < 3 → v < 8 → d < 27
    → v / 2 ^ a % 2 + forth (d / 3 ^ a % 3) + 1 ≡ rule v d % 8 / 2 ^ a % 2 + 2 * forth (rule v d / 8 / 3 ^ a % 3)
turn a v d ha hv hd =
    let r = (fair v d hv hd).axis a ha in
    rw (r.label, r.carry) (rule_sums (v / 2 ^ a % 2) (d / 3 ^ a % 3) (omega arith) (omega arith))
