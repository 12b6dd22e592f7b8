-- A step along one axis on the bits of that axis: what is added to them and where the root ends; and three such steps. Assumes nothing.
use Rattle.std.proofs.Common.{◌≡◌, ℕ, ◌+◌, ◌-◌, ◌*◌, ◌%◌, ◌^◌, ◌<◌, ◌≤◌, None, Some, ℤ, pos, negsuc, sym, ap, ◌∙◌, subst, ⊎_elim, arith}
use native.Mathlib.Nat.{pow-le-pow_right}
use lib.Bits.{bit_and, bit_or}
use Rattle.cells.specs.AhujaNash.{added}
use Rattle.cells.specs.Inner.{in_each, OnAxis, OneStep}
use Rattle.cells.specs.Place.{along, Displaced}
use Rattle.cells.proofs.Congruent.{Congruent}
use Rattle.cells.proofs.Dilated.{spread, spread_none, spread_all, along_spread, dilated, masked}
use Rattle.cells.proofs.Displacements.{displaced_parts}
use Rattle.cells.proofs.Integers.{above, below}
use Rattle.cells.proofs.Places.{along_lt}
use Rattle.cells.proofs.Power.{le_or_lt, pow2_pos, pow8_bits}
use Rattle.cells.proofs.Sums.{added_came}

-- ---- the step d on the bits of axis a of k labels

-- `one` is added: t on those bits and a carry c, together the two's complement of d. The root ends where those bits are `border`: at the coordinate `last`.
pub record Adds (a k : ℕ) (d : ℤ) (one border : ℕ) : Type 0 where
  pub t : ℕ
  pub c : ℕ
  pub carry : c < 2
  pub is_one : one ≡ spread a k t + c
  pub complement : Congruent (2 ^ k) (t + c + below d) (above d)
  pub last : ℕ
  pub within : last < 2 ^ k
  pub is_border : border ≡ spread a k last
  pub ends : (x : ℕ) → x < 2 ^ k → Displaced d last x → ⊥
  pub goes : (x : ℕ) → x < 2 ^ k → (x ≡ last → ⊥) → (y : ℕ) × (y < 2 ^ k) × Displaced d x y

module _ (a k one border : ℕ) where
  pub adds_forth : one ≡ 1 → border ≡ in_each (2 ^ a) k → Adds a k (pos 1) one border
  adds_forth is_one is_border = record {
    t = 0;
    c = 1;
    carry = omega arith;
    is_one = omega (arith, spread_none a k);
    complement = record { j = 0; k = 0; same = omega arith };
    last = 2 ^ k - 1;
    within = omega (arith, pow2_pos k);
    is_border = is_border ∙ sym (spread_all a k);
    ends = λ x h e. omega (arith, (displaced_parts (pos 1) (2 ^ k - 1) x).0 e, pow2_pos k);
    goes = λ x h n. (x + 1, omega (arith, pow2_pos k), (displaced_parts (pos 1) x (x + 1)).1 (omega arith));
  }

  pub adds_back : one ≡ in_each (2 ^ a) k → border ≡ 0 → Adds a k (negsuc 0) one border
  adds_back is_one is_border = record {
    t = 2 ^ k - 1;
    c = 0;
    carry = omega arith;
    is_one = omega (arith, spread_all a k);
    complement = record { j = 0; k = 1; same = omega (arith, pow2_pos k) };
    last = 0;
    within = pow2_pos k;
    is_border = is_border ∙ sym (spread_none a k);
    ends = λ x h e. omega (arith, (displaced_parts (negsuc 0) 0 x).0 e);
    goes = λ x h n. (x - 1, omega arith, (displaced_parts (negsuc 0) x (x - 1)).1 (omega arith));
  }

-- ---- the step in a word of w bits

-- the bits above the labels and the leading one
above_labels : (w k i : ℕ) → 8 ^ k + i < 2 ^ w → (m : ℕ) × (m + 3 * k ≡ w) × (0 < m)
above_labels w k i h =
    ⊎_elim (λ (g : w ≤ 3 * k). let p : 2 ^ w ≤ 2 ^ (3 * k) = pow-le-pow_right {n = 2} (omega arith) g in absurd (omega (arith, pow8_bits k)))
    (λ (g : 3 * k < w). (w - 3 * k, omega arith, omega arith)) (le_or_lt w (3 * k))

module _ (w a k i code mask : ℕ) (fits : code < 2 ^ w) (on : OnAxis a k i code mask) (d : ℤ) (one border : ℕ) (adds : Adds a k d one border) where
  abbrev room : (m : ℕ) × (m + 3 * k ≡ w) × (0 < m)
  room = above_labels w k i (omega (arith, on.is_code))

  -- the bits of the axis
  here : bit_and code mask ≡ spread a k (along (2 ^ a) k i)
  here = rw (on.is_code, on.is_mask) (masked k i a on.labels on.axis)

  -- they are those of the border just where the cell stands last
  at_last : bit_and code mask ≡ border → along (2 ^ a) k i ≡ adds.last
  at_last e =
      sym (along_spread a on.axis k (along (2 ^ a) k i) (along_lt (2 ^ a) k i))
      ∙ ap (along (2 ^ a) k) (sym here ∙ e ∙ adds.is_border)
      ∙ along_spread a on.axis k adds.last adds.within

  not_last : (bit_and code mask ≡ border → ⊥) → along (2 ^ a) k i ≡ adds.last → ⊥
  not_last n e = n (here ∙ ap (spread a k) e ∙ sym adds.is_border)

  pub step_leaves : bit_and code mask ≡ border → OneStep a k i d None
  step_leaves e = record { leaves = λ _ x h to. adds.ends x h (subst (λ (y : ℕ). Displaced d y x) (at_last e) to); stays = λ m is. absurd (cc) }

  pub step_stays : (bit_and code mask ≡ border → ⊥) → OneStep a k i d (Some (bit_or (bit_and ((bit_or code (2 ^ w - 1 - mask) + one) % 2 ^ w) mask) (bit_and code (2 ^ w - 1 - mask))))
  step_stays n =
      let J : ℕ = added a k i adds.t adds.c in
      let is : bit_or (bit_and ((bit_or code (2 ^ w - 1 - mask) + one) % 2 ^ w) mask) (bit_and code (2 ^ w - 1 - mask)) ≡ 8 ^ k + J =
      rw (on.is_code, on.is_mask, adds.is_one) (dilated k i a on.labels on.axis w room.0 room.1 room.2 adds.t adds.c adds.carry) in
      let (y, low, to) = adds.goes (along (2 ^ a) k i) (along_lt (2 ^ a) k i) (not_last n) in
      record { leaves = λ none. absurd (cc); stays = λ m of. (J, (cc) ∙ is, added_came a k i on.axis d adds.t adds.c adds.carry adds.complement y low to) }
