-- The shift back: where a move is accepted, the list shifted by `back` has just the displaced voxels. Sources wrap round modulo the root's side; one that
-- wrapped is white, since a black one stays, and so comes to the voxel itself. Assumes nothing.
use mathlib.Core.Path.{◌≡◌, sym, ap, ◌∙◌, subst}
use mathlib.Core.Logic.{◌↔◌}
use mathlib.Core.Bool.{true, false}
use mathlib.Core.List.{List}
use Prim.Native.Nat.{ℕ, ◌+◌, ◌^◌, ◌<◌}
use native.Mathlib.Nat.{add-mul}
use native.Mathlib.Omega.{arith}
use lib.IntN.{ℤ}
use Rattle.cells.specs.Place.{EachAxis, along, Came}
use Rattle.cells.proofs.Bools.{refuted}
use Rattle.cells.proofs.Congruent.{Congruent, congruent_equal, difference_lt, difference_congruent}
use Rattle.cells.proofs.Places.{along_lt, along_axes, same_voxel}
use Rattle.cells.proofs.Displacements.{displaced_parts}
use Rattle.records.specs.Record.{black, Ordered, ListOf}
use Rattle.records.specs.Carried.{FromBlack}
use Rattle.records.proofs.Lists.{black_in_root}
use Rattle.records.proofs.Carrying.{Accepted}
use Rattle.shifts.specs.Shift.{shift, shifted}
use Rattle.shifts.proofs.Bits.{zero_bit}
use Rattle.shifts.proofs.Adder.{shift_sum, shifted_in}
use Rattle.moves.specs.Inner.{Splits, reversed, back}
use Rattle.moves.specs.declared.inner.Parted.{Parted}
use Rattle.moves.proofs.Acceptance.{splits_above}

-- ---- a voxel and its source

module _ (D : ℕ) (d : ℕ → ℤ) (q : ℕ → Parted) (split : EachAxis (λ a. Splits (d a) (q a))) where
  abbrev w : ℕ
  w = back D q

  -- what is added along an axis
  along_back : EachAxis (λ a. along (2 ^ a) D w ≡ reversed D (q a))
  unfolding back reversed
  along_back = along_axes D (λ a. reversed D (q a)) (λ a h. difference_lt D (q a).down (q a).up)

  -- u comes to t, and the source of v, displaced in the same way, to v, modulo the side
  side_by_side : (u t v : ℕ) → Came D d u t → EachAxis (λ a. Congruent (2 ^ D) (along (2 ^ a) D u + along (2 ^ a) D v) (along (2 ^ a) D (shift D w 0 v) + along (2 ^ a) D t))
  unfolding reversed
  side_by_side u t v came a h =
      let (m, e) = (shift_sum D w 0 v).1 a h in
      let c = difference_congruent D (q a).down (q a).up in
      let s = splits_above (d a) (q a) (split a h) in
      let f = (displaced_parts (d a) (along (2 ^ a) D u) (along (2 ^ a) D t)).0 (came.each a h) in
      record { j = c.k; k = m + c.j; same = omega (arith, e, c.same, zero_bit a, along_back a h, add-mul m c.j (2 ^ D)) }

  -- so where the source stays it comes to v
  pub source_came : (v t : ℕ) → v < 8 ^ D → Came D d (shift D w 0 v) t → t ≡ v
  source_came v t h came =
      same_voxel D t v came.root h
      (λ a l. let c = side_by_side (shift D w 0 v) t v came a l in congruent_equal (2 ^ D) _ _ (along_lt (2 ^ a) D t) (along_lt (2 ^ a) D v) (record { j = c.k; k = c.j; same = omega (arith, c.same) }))

  -- and what came to v is its source
  pub came_source : (v u : ℕ) → u < 8 ^ D → Came D d u v → shift D w 0 v ≡ u
  came_source v u h came =
      same_voxel D (shift D w 0 v) u (shift_sum D w 0 v).0 h
      (λ a l. let c = side_by_side u v v came a l in congruent_equal (2 ^ D) _ _ (along_lt (2 ^ a) D (shift D w 0 v)) (along_lt (2 ^ a) D u) (record { j = c.k; k = c.j; same = omega (arith, c.same) }))

  -- ---- the list shifted back has the displaced voxels
  pub shifted_exactly : (l : List ℕ) → Ordered D 0 l → Accepted D (Came D d) l → (v : ℕ) → v < 8 ^ D → (shifted D l w v ≡ true) ↔ FromBlack (Came D d) (black D l) v
  shifted_exactly l o ok v h = (to, back_again)
    where
      to : shifted D l w v ≡ true → FromBlack (Came D d) (black D l) v
      to e =
          let b : black D l (shift D w 0 v) ≡ true = sym (shifted_in D l w v h) ∙ e in
          let (t, came) = ok (shift D w 0 v) b in
          (shift D w 0 v, b, subst (Came D d (shift D w 0 v)) (source_came v t h came) came)

      back_again : FromBlack (Came D d) (black D l) v → shifted D l w v ≡ true
      back_again (u, b, came) = shifted_in D l w v h ∙ ap (black D l) (came_source v u (black_in_root D 0 l o u b) came) ∙ b

-- ---- a voxel whose source lies outside the root is white in the result

pub outside_white : (D : ℕ) (d : ℕ → ℤ) (l m : List ℕ) → Ordered D 0 l → ListOf D (FromBlack (Came D d) (black D l)) m → (v : ℕ) → v < 8 ^ D
    → ((u : ℕ) → u < 8 ^ D → Came D d u v → ⊥) → black D m v ≡ false
outside_white D d l m o x v h none = refuted (black D m v) (λ e. let (u, b, came) = (x.exactly v h).0 e in none u (black_in_root D 0 l o u b) came)
