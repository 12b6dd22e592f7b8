-- Document 000's table 2: each entry is the unit step of document 01's rule, and adding a displacement to a path by the table, the last carry dropped, gives the
-- displaced voxel's path. An axis is a number a below 3: x, y, z; its bit in a label is 2 ^ a. Assumes nothing.
use Rattle.std.proofs.Common.{◌≡◌, ℕ, ◌+◌, ◌*◌, ◌/◌, ◌%◌, ◌^◌, ◌<◌, Bool, true, false, eqb, ltb, [], get_or, ℤ, pos, negsuc, sym, refl, subst, add-mul, arith, eqb→eq, ltb→lt, eqb-true}
use Rattle.cells.specs.Labels.{flips, carries}
use Rattle.cells.specs.Inner.{only}
use Rattle.cells.specs.AhujaNash.{table2, plus, added, twos, summed}
use Rattle.cells.specs.Place.{EachAxis, along, Displaced, Came}
use Rattle.cells.proofs.Places.{along_lt, bit_of}
use Rattle.cells.proofs.Labelwise.{labelwise}
use Rattle.cells.proofs.Table.{everywhere, at, at2, at3, at4}
use Rattle.cells.proofs.Congruent.{Congruent, congruent_equal, twos_congruent}
use Rattle.cells.proofs.Displacements.{displaced_parts, one_came, still_y, still_z, walked}
use Rattle.cells.proofs.Integers.{above, below}

-- ---- the table's rule, over the whole table

-- the entry for the label v along axis a; the digit of a unit step along a, on axis b
abbrev entry : ℕ → ℕ → ℕ
entry a v = get_or (get_or table2 v []) a 0

abbrev unit : Bool → ℕ
unit true = 1
unit false = 0

-- The entry is a label and a carry, and document 01's rule for a unit step along a: on axis a it flips the bit and carries, the other bits stay.
pub record UnitStep (a v : ℕ) : Type 0 where
  pub label : entry a v % 10 < 8
  pub carry : entry a v / 10 ≡ carries (bit_of a v) 1
  pub bits : EachAxis (λ b. bit_of b (entry a v % 10) ≡ flips (bit_of b v) (unit (eqb a b)))

pub unit_step : (a v : ℕ) → a < 3 → v < 8 → UnitStep a v
unit_step a v ha hv = record {
  label = ltb→lt _ _ (at2 (λ a v. ltb (entry a v % 10) 8) 3 8 tt a v ha hv);
  carry = eqb→eq _ _ (at2 (λ a v. eqb (entry a v / 10) (carries (bit_of a v) 1)) 3 8 tt a v ha hv);
  bits = λ b h. eqb→eq _ _ (at3 (λ a v b. eqb (bit_of b (entry a v % 10)) (flips (bit_of b v) (unit (eqb a b)))) 3 8 3 tt a v b ha hv h);
}

-- ---- a label, a bit t of the displacement along axis a, and a carry c: the new label and the carry out

abbrev pub new : ℕ → ℕ → ℕ → ℕ → ℕ
new a v t c = plus a (plus a v t % 10) c % 10

abbrev pub out : ℕ → ℕ → ℕ → ℕ → ℕ
out a v t c = plus a v t / 10 + plus a (plus a v t % 10) c / 10

-- x on the axis of the displacement, nothing on the others
abbrev pub on : Bool → ℕ → ℕ
on true x = x
on false x = 0

pub record LabelSum (a v t c : ℕ) : Type 0 where
  pub label : new a v t c < 8
  pub carry : out a v t c < 2
  pub bits : EachAxis (λ b. bit_of b (new a v t c) + 2 * on (eqb a b) (out a v t c) ≡ bit_of b v + on (eqb a b) (t + c))

pub label_sum : (a v t c : ℕ) → a < 3 → v < 8 → t < 2 → c < 2 → LabelSum a v t c
unfolding plus
label_sum a v t c ha hv ht hc = record {
  label = ltb→lt _ _ (at4 (λ a v t c. ltb (new a v t c) 8) 3 8 2 2 tt a v t c ha hv ht hc);
  carry = ltb→lt _ _ (at4 (λ a v t c. ltb (out a v t c) 2) 3 8 2 2 tt a v t c ha hv ht hc);
  bits = λ b h.
      eqb→eq _ _
      (at (λ b. eqb (bit_of b (new a v t c) + 2 * on (eqb a b) (out a v t c)) (bit_of b v + on (eqb a b) (t + c))) 3
      (at4 (λ a v t c. everywhere (λ b. eqb (bit_of b (new a v t c) + 2 * on (eqb a b) (out a v t c)) (bit_of b v + on (eqb a b) (t + c))) 3) 3 8 2 2 tt a v t c ha hv ht hc) b h);
}

-- ---- all labels

-- the labels that are left, the bits that are added to them, and the carry to the last of them
abbrev Sum : Type 0
Sum = (v : ℕ) × (t : ℕ) × (c : ℕ) × (c < 2)

module _ (a : ℕ) (axis : a < 3) where
  last_sum : (s : Sum) → LabelSum a (s.0 % 8) (s.1 % 2) s.2
  last_sum (v, t, c, h) = label_sum a (v % 8) (t % 2) c axis (omega arith) (omega arith) h

  -- the displacement is added on its axis, less what is lost out of the first label, and the other coordinates stay
  pub added_sum : (n v t c : ℕ) → c < 2
      → (added a n v t c < 8 ^ n) × EachAxis (λ b. (l : ℕ) × (along (2 ^ b) n (added a n v t c) + l * 2 ^ n ≡ along (2 ^ b) n v + on (eqb a b) (t + c)))
  unfolding along added
  added_sum n v t c h =
      let x = labelwise {S = Sum}
      (λ s. new a (s.0 % 8) (s.1 % 2) s.2)
      (λ s. (s.0 / 8, s.1 / 2, out a (s.0 % 8) (s.1 % 2) s.2, (last_sum s).carry))
      (λ n s. added a n s.0 s.1 s.2)
      (λ b n s. along (2 ^ b) n s.0 + on (eqb a b) (s.1 + s.2))
      (λ s. (last_sum s).label) (λ s. refl) (λ n s. refl)
      (λ b l n s. go (eqb a b) (along (2 ^ b) n (s.0 / 8)) _ _ s.1 _ _ ((last_sum s).bits b l)) n (v, t, c, h) in
      (x.0, λ b l. (_, x.1 b l))
    where
      go : (s : Bool) (A B o t c N : ℕ) → N + 2 * on s o ≡ B + on s (t % 2 + c) → 2 * A + B + on s (t + c) ≡ 2 * (A + on s (t / 2 + o)) + N
      go true A B o t c N f = omega arith
      go false A B o t c N f = omega arith

-- ---- where t and the carry c are together the two's complement of d: the coordinate is displaced by d, and the other two stay

module _ (a k i : ℕ) (axis : a < 3) (d : ℤ) (t c : ℕ) (carry : c < 2) (complement : Congruent (2 ^ k) (t + c + below d) (above d)) where
  pub added_came : (y : ℕ) → y < 2 ^ k → Displaced d (along (2 ^ a) k i) y → Came k (only a d) i (added a k i t c)
  added_came y low leads = record { root = (added_sum a axis k i t c carry).0; each = λ b h. let (l, e) = (added_sum a axis k i t c carry).1 b h in go b l (eqb a b) refl e }
    where
      go : (b l : ℕ) (s : Bool) → eqb a b ≡ s → along (2 ^ b) k (added a k i t c) + l * 2 ^ k ≡ along (2 ^ b) k i + on s (t + c)
          → Displaced (elim s [ true ↦ d | false ↦ pos 0 ]) (along (2 ^ b) k i) (along (2 ^ b) k (added a k i t c))
      go b l true q e =
          let to : Displaced d (along (2 ^ b) k i) y = subst (λ (x : ℕ). Displaced d (along (2 ^ x) k i) y) (eqb-true a b q) leads in
          let same : along (2 ^ b) k (added a k i t c) ≡ y =
          congruent_equal (2 ^ k) _ _ (along_lt (2 ^ b) k (added a k i t c)) low
          (record {
            j = l + complement.j;
            k = complement.k;
            same = omega (arith, e, complement.same, (displaced_parts d (along (2 ^ b) k i) y).0 to, add-mul l complement.j (2 ^ k));
          }) in
          subst (Displaced d (along (2 ^ b) k i)) (sym same) to
      go b l false q e =
          let same : along (2 ^ b) k (added a k i t c) ≡ along (2 ^ b) k i =
          congruent_equal (2 ^ k) _ _ (along_lt (2 ^ b) k (added a k i t c)) (along_lt (2 ^ b) k i) (record { j = l; k = 0; same = omega (arith, e) }) in
          (displaced_parts (pos 0) (along (2 ^ b) k i) (along (2 ^ b) k (added a k i t c))).1 (omega (arith, same))

-- ---- THE LAW OF 000: where the displaced voxel lies in the root, adding the displacement by table 2, the last carry dropped, gives its path

module _ (D : ℕ) (d : ℕ → ℤ) (u v : ℕ) (came : Came D d u v) where
  -- along one axis, from a voxel that stands there where u does
  along_axis : (a : ℕ) → a < 3 → (w : ℕ) → along (2 ^ a) D w ≡ along (2 ^ a) D u → Came D (only a (d a)) w (added a D w (twos D (d a)) 0)
  along_axis a h w e =
      let c = twos_congruent D (d a) in
      added_came a D w h (d a) (twos D (d a)) 0 (omega arith) (record { j = c.j; k = c.k; same = omega (arith, c.same) }) (along (2 ^ a) D v) (along_lt (2 ^ a) D v)
      (subst (λ (x : ℕ). Displaced (d a) x (along (2 ^ a) D v)) (sym e) (came.each a h))

  pub sum_came : summed 3 D d u ≡ v
  unfolding summed
  sum_came =
      let first = along_axis 0 (omega arith) u refl in
      let second = along_axis 1 (omega arith) (summed 1 D d u) (still_y D d u (summed 1 D d u) first) in
      let third = along_axis 2 (omega arith) (summed 2 D d u) (still_z D d u (summed 1 D d u) first (summed 2 D d u) second) in
      one_came D d u (summed 3 D d u) v (walked D d u (summed 1 D d u) first (summed 2 D d u) second (summed 3 D d u) third) came

-- ---- the paths of document 000: r057 + 101 = r275 along y, and r275 + 011 = r057, its last carry lost

pub r057_by_5 : (twos 3 (pos 5) ≡ 5) × (added 1 3 47 5 0 ≡ 189)
unfolding added plus twos
r057_by_5 = (refl, refl)

pub r275_by_minus_5 : (twos 3 (negsuc 4) ≡ 3) × (added 1 3 189 3 0 ≡ 47)
unfolding added plus twos
r275_by_minus_5 = (refl, refl)
