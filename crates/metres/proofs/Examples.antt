-- The checked examples of document 01 on metres, as ticket 3 has them, in one table under one claim: at the edge number s the `f64` of the bit pattern `bits` becomes n,
-- and nothing else. What other tie rules would give is a second table: none of it fits. Then a move in metres, its outcome, and outcomes that it does not have.
-- Assumes nothing.
use Rattle.std.proofs.Common.{◌≡◌, ℕ, ◌+◌, ◌*◌, false, eqb, List, [], ◌∷◌, pos, negsuc, refl, ap, subst, arith, ℤ, Option, Some, None, Result, Ok, Err}
use borrow.Author.Tests.{eqb-false}
use lib.Ieee.{binary64, of_bits}
use Rattle.metres.specs.declared.Metres.{Metres}
use Rattle.metres.specs.declared.Move.TheVariants as MoveV
use Rattle.metres.specs.declared.inner.Steps.{Steps}
use Rattle.cells.specs.declared.refusals.NoWholeMove.{NoWholeMove}
use Rattle.cells.specs.declared.refusals.NoWholeMove.TheVariants.{EdgeNumber}
use Rattle.metres.specs.Taken.{TakenOf}
use Rattle.metres.specs.Inner.{Rounded}
use Rattle.metres.proofs.TakenLaws.{together_taken, one_taken, edge_taken}
use Rattle.metres.proofs.Rounding.{rounded, rounded_exists, one_rounded}

pub record Example : Type 0 where
  pub s : ℕ
  pub bits : ℕ
  pub n : Option ℤ

-- The starred ones come first. The others are the ends of the range and what is rejected, from the rule.
abbrev pub samples : List Example
samples =
    record { s = 3; bits = 0x3fb0_0000_0000_0000; n = Some (pos 1) }  -- 0.0625
    ∷ record { s = 3; bits = 0xbfb0_0000_0000_0000; n = Some (negsuc 0) }  -- -0.0625
    ∷ record { s = 3; bits = 0x3fc8_0000_0000_0000; n = Some (pos 2) }  -- 0.1875
    ∷ record { s = 3; bits = 0xbfc8_0000_0000_0000; n = Some (negsuc 1) }  -- -0.1875
    ∷ record { s = 0; bits = 0x8000_0000_0000_0000; n = Some (pos 0) }  -- minus zero
    ∷ record { s = 10; bits = 0x0000_0000_0000_0001; n = Some (pos 0) }  -- 2^-1074
    ∷ record { s = 10; bits = 0x8000_0000_0000_0001; n = Some (pos 0) }  -- -2^-1074
    ∷ record { s = 0; bits = 0x41df_ffff_ffdf_ffff; n = Some (pos 2147483647) }  -- 2^31 - 0.5, less the least bit
    ∷ record { s = 0; bits = 0x41df_ffff_ffe0_0000; n = None }  -- 2^31 - 0.5
    ∷ record { s = 0; bits = 0xc1e0_0000_000f_ffff; n = Some (negsuc 2147483647) }  -- -2^31 - 0.5, plus the least bit
    ∷ record { s = 0; bits = 0xc1e0_0000_0010_0000; n = None }  -- -2^31 - 0.5
    ∷ record { s = 0; bits = 0x7ff0_0000_0000_0000; n = None }  -- an infinity
    ∷ record { s = 0; bits = 0x7ff8_0000_0000_0000; n = None }  -- a NaN
    ∷ []

abbrev Computes : List Example → Type 0
Computes [] = Unit {0}
Computes (x ∷ l) = (rounded x.s (of_bits binary64 x.bits) ≡ x.n) × Computes l

computes : Computes samples
unfolding rounded of_bits
computes = (refl, (refl, (refl, (refl, (refl, (refl, (refl, (refl, (refl, (refl, (refl, (refl, (refl, tt)))))))))))))

-- n fits, and no other rounded does
abbrev pub RoundsTo : Example → Type 0
RoundsTo x = Rounded x.s (of_bits binary64 x.bits) x.n × ((w : Option ℤ) → Rounded x.s (of_bits binary64 x.bits) w → w ≡ x.n)

abbrev pub Hold : List Example → Type 0
Hold [] = Unit {0}
Hold (x ∷ l) = RoundsTo x × Hold l

all_round : (l : List Example) → Computes l → Hold l
all_round [] c = tt
all_round (x ∷ l) c =
    let d = of_bits binary64 x.bits in
    let r : Rounded x.s d x.n = subst (λ (w : Option ℤ). Rounded x.s d w) c.0 (rounded_exists x.s d) in
    ((r, λ w h. one_rounded x.s d w x.n h r), all_round l c.1)

pub examples : Hold samples
examples = all_round samples computes

-- ---- other tie rules

-- what they make of a half: 0.0625, 0.1875 and 0.3125 metres, or the negative ones, are 1/2, 3/2 and 5/2 voxels
abbrev pub others : List Example
others =
    record { s = 3; bits = 0xbfb0_0000_0000_0000; n = Some (pos 0) }  -- up: -1/2 to 0
    ∷ record { s = 3; bits = 0xbfc8_0000_0000_0000; n = Some (negsuc 0) }  -- up: -3/2 to -1
    ∷ record { s = 3; bits = 0x3fb0_0000_0000_0000; n = Some (pos 0) }  -- towards zero, and to even: 1/2 to 0
    ∷ record { s = 3; bits = 0x3fc8_0000_0000_0000; n = Some (pos 1) }  -- towards zero: 3/2 to 1
    ∷ record { s = 3; bits = 0x3fd4_0000_0000_0000; n = Some (pos 2) }  -- to even: 5/2 to 2
    ∷ record { s = 3; bits = 0xbfd4_0000_0000_0000; n = Some (negsuc 1) }  -- to even: -5/2 to -2
    ∷ []

-- a coordinate's outcome as one number, to be told from another
abbrev as_number : Option ℤ → ℕ
as_number None = 0
as_number (Some (pos a)) = 2 * a + 1
as_number (Some (negsuc a)) = 2 * a + 2

abbrev Differs : List Example → Type 0
Differs [] = Unit {0}
Differs (x ∷ l) = (eqb (as_number x.n) (as_number (rounded x.s (of_bits binary64 x.bits))) ≡ false) × Differs l

differs : Differs others
unfolding rounded of_bits
differs = (refl, (refl, (refl, (refl, (refl, (refl, tt))))))

abbrev pub NoneFits : List Example → Type 0
NoneFits [] = Unit {0}
NoneFits (x ∷ l) = (Rounded x.s (of_bits binary64 x.bits) x.n → ⊥) × NoneFits l

none_rounds : (l : List Example) → Differs l → NoneFits l
none_rounds [] c = tt
none_rounds (x ∷ l) c =
    let d = of_bits binary64 x.bits in
    (λ h. eqb-false _ _ c.0 (ap as_number (one_rounded x.s d x.n (rounded x.s d) h (rounded_exists x.s d))), none_rounds l c.1)

pub other_rules : NoneFits others
other_rules = none_rounds others differs

-- ---- whole moves

-- 0.0625, -0.0625 and 0.1875 metres at the edge number s
abbrev sixteenths : ℕ → Metres
sixteenths s = record { x = of_bits binary64 0x3fb0_0000_0000_0000; y = of_bits binary64 0xbfb0_0000_0000_0000; z = of_bits binary64 0x3fc8_0000_0000_0000; s = s }

abbrev steps : ℤ → ℤ → ℤ → Result Steps NoWholeMove
steps i j k = Ok (record { x = i; y = j; z = k })

-- along y
abbrev y_of : Result Steps NoWholeMove → ℤ
y_of (Ok v) = v.y
y_of (Err e) = pos 0

pub taken_holds : TakenOf (MoveV.Metres (sixteenths 3)) (steps (pos 1) (negsuc 0) (pos 2))
taken_holds = together_taken _ (omega arith) (Some (pos 1)) (Some (negsuc 0)) (Some (pos 2)) examples.0.0 examples.1.0.0 examples.1.1.0.0

-- a half does not go up
pub taken_fails : TakenOf (MoveV.Metres (sixteenths 3)) (steps (pos 1) (pos 0) (pos 2)) → ⊥
taken_fails h =
    let e : steps (pos 1) (pos 0) (pos 2) ≡ steps (pos 1) (negsuc 0) (pos 2) = one_taken (MoveV.Metres (sixteenths 3)) _ _ h taken_holds in
    let y : pos 0 ≡ negsuc 0 = ap y_of e in
    let z : ◌≡◌ {A = ℕ} 0 1 = cc in
    omega arith

-- an edge number above 10 is told before any coordinate
pub taken_refuses : TakenOf (MoveV.Metres (sixteenths 11)) (Err EdgeNumber)
taken_refuses = edge_taken _ (omega arith)
