-- Ticket 3: "d and -d give opposite whole numbers wherever both are accepted", of a coordinate, and of a move in metres along each axis.
--     opposite_whole, opposite_becomes     what d and -d become is opposite
--     whole_opposite                       where d becomes n, -d becomes -n, if n is not -2^31
--     whole_back, becomes_back             and becomes a number exactly then
-- Assumes nothing.
use Rattle.std.proofs.Common.{◌≡◌, ℕ, suc, ◌^◌, true, false, ◌↔◌, ℤ, pos, negsuc, neg_ℤ, refl, ap, arith, le→leb, lt→ltb}
use lib.Ieee.{Float, neg}
use Rattle.cells.specs.Place.{EachAxis}
use Rattle.cells.proofs.Places.{each_axis}
use Rattle.metres.specs.Metres.{Whole, coordinates, Becomes}
use Rattle.metres.specs.Opposite.{lowest, opposite}
use Rattle.metres.specs.declared.Metres.{Metres}
use Rattle.metres.specs.declared.Move.TheVariants as MoveV
use Rattle.metres.proofs.NearestLaws.{nearest_unique, nearest_opposite}
use Rattle.metres.proofs.Rounding.{In32, in32_bounds, in32_yes}

-- ---- a coordinate

pub opposite_whole : (s : ℕ) (d : Float) (n n' : ℤ) → Whole s d n → Whole s (neg d) n' → n' ≡ neg_ℤ n
opposite_whole s d n n' h h' = nearest_unique s (neg d) n' (neg_ℤ n) h'.0 (nearest_opposite s d n h.0)

-- the opposite of a number in range is in range, but for one
opposite_in_range : (n : ℤ) → In32 n → (n ≡ lowest → ⊥) → In32 (neg_ℤ n)
opposite_in_range (pos a) i other = in32_yes true a (le→leb a (2 ^ 31) (omega (arith, (in32_bounds (pos a) i).0)))
opposite_in_range (negsuc a) i other = in32_yes false (suc a) (lt→ltb (suc a) (2 ^ 31) (omega (arith, (in32_bounds (negsuc a) i).1, other_size)))
  where
    other_size : suc a ≡ 2 ^ 31 → ⊥
    other_size e = other (ap (λ (k : ℕ). neg_ℤ (pos k)) e)

lowest_alone : In32 (neg_ℤ lowest) → ⊥
lowest_alone i = omega (arith, (in32_bounds (neg_ℤ lowest) i).0)

pub whole_opposite : (s : ℕ) (d : Float) (n : ℤ) → Whole s d n → (n ≡ lowest → ⊥) → Whole s (neg d) (neg_ℤ n)
whole_opposite s d n h other = let i = opposite_in_range n (h.1, h.2) other in (nearest_opposite s d n h.0, i.0, i.1)

pub whole_back : (s : ℕ) (d : Float) (n : ℤ) → Whole s d n → ((n' : ℤ) × Whole s (neg d) n') ↔ (n ≡ lowest → ⊥)
whole_back s d n h = (
  λ (n', h') e.
      let i : In32 n' = (h'.1, h'.2) in
      lowest_alone (rw (opposite_whole s d n n' h h', e) at i),
  λ other. (neg_ℤ n, whole_opposite s d n h other),
)

-- ---- a move

module _ (m : Metres) where
  negated_each : EachAxis (λ a. coordinates (opposite m) a ≡ neg (coordinates m a))
  negated_each = each_axis _ refl refl refl

  pub opposite_becomes : (d e : ℕ → ℤ) → Becomes (MoveV.Metres m) d → Becomes (MoveV.Metres (opposite m)) e → EachAxis (λ a. e a ≡ neg_ℤ (d a))
  opposite_becomes d e p q a h = opposite_whole m.s (coordinates m a) (d a) (e a) (p a h) (rw (negated_each a h) at (q a h))

  pub becomes_back : (d : ℕ → ℤ) → Becomes (MoveV.Metres m) d → ((e : ℕ → ℤ) × Becomes (MoveV.Metres (opposite m)) e) ↔ EachAxis (λ a. d a ≡ lowest → ⊥)
  becomes_back d p = (
    λ (e, q) a h. (whole_back m.s (coordinates m a) (d a) (p a h)).0 (e a, rw (negated_each a h) at (q a h)),
    λ other. (λ a. neg_ℤ (d a), λ a h. rw (negated_each a h) (whole_opposite m.s (coordinates m a) (d a) (p a h) (other a h))),
  )
