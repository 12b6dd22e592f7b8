-- Laws of a cursor into a list: where it is set, what the list has there, and the step to the next leaf. Assumes nothing.
use Rattle.std.proofs.Common.{◌≡◌, refl, ap, ◌∙◌, subst, arith, Bor, List, ◌∷◌, true, false, ℕ, ◌^◌, ◌<◌, ◌≤◌, length}
use Rattle.std.proofs.lemmas.List.{nil_from_length}
use Rattle.cells.specs.Cell.{proper, start, end}
use Rattle.cells.proofs.Cells.{span_pos, within}
use Rattle.records.specs.Record.{black, Ordered}
use Rattle.records.proofs.Lists.{holds_between, before_cell, after_cell, black_held, black_past, black_before}
use Rattle.sets.specs.declared.inner.Cursor.{Cursor}
use Rattle.sets.specs.Inner.{Behind, Points, Steady}

-- at the beginning all leaves are ahead
pub behind_none : {D : ℕ} {l : List ℕ} → Ordered D 0 l → Behind D l l 0
behind_none o = record { root = omega arith; same = λ w h. refl; ordered = o }

-- ---- setting a cursor

-- no leaf is left
pub points_end : {D : ℕ} {l : List ℕ} {r : Bor (List ℕ)} {v e : ℕ} → e ≡ 8 ^ D → length r.now ≡ 0 → Behind D l r.now v → Points D l (record { from = e; to = e; rest = r }) v
unfolding Ordered black
points_end {D} {l} {r} {v} {e} full h b = record {
  order = omega arith;
  some = λ k. absurd (omega arith);
  ahead = λ k. omega arith;
  before = λ w k _. b.same w k ∙ rw (nil_from_length _ h) refl;
  inside = λ w k m. absurd (omega arith);
  behind = record {
    root = omega arith;
    same = λ w k. b.same w (omega (arith, b.root));
    ordered = rw (nil_from_length _ h) tt;
  };
}

-- a leaf is left, of code c
pub head_proper : (D v : ℕ) {a : List ℕ} {c : ℕ} {b : List ℕ} → a ≡ c ∷ b → Ordered D v a → proper D c ≡ true
unfolding Ordered
head_proper D v {a} {c} {b} cut o = let x : Ordered D v (c ∷ b) = rw cut at o in x.0

-- and r are the leaves after it
pub points_at : {D : ℕ} {l a : List ℕ} {c : ℕ} {r : Bor (List ℕ)} {v from to : ℕ} → a ≡ c ∷ r.now → Behind D l a v → from ≡ start D c → to ≡ end D c
    → Points D l (record { from = from; to = to; rest = r }) v
unfolding Ordered
points_at {D} {l} {a} {c} {r} {v} {from} {to} cut b e f = record {
  order = omega arith;
  some = λ k. omega (arith, span_pos D c);
  ahead = λ k. omega (arith, head.1, span_pos D c);
  before = λ w k m. split w k ∙ black_past D c _ w (before_cell D c w (omega arith)) ∙ black_before D _ _ head.2 w (omega arith);
  inside = λ w k m. split w (omega (arith, head.1)) ∙ black_held D c _ w (holds_between D c w (omega arith) (omega arith));
  behind = record {
    root = omega (arith, within D c head.0);
    same = λ w k. split w (omega (arith, head.1)) ∙ black_past D c _ w (after_cell D c w (omega arith));
    ordered = subst (λ (x : ℕ). Ordered D x r.now) (omega arith) head.2;
  };
}
  where
    head : Ordered D v (c ∷ r.now)
    head = rw cut at b.ordered

    split : (w : ℕ) → v ≤ w → black D l w ≡ black D (c ∷ r.now) w
    split w k = b.same w k ∙ ap (λ (m : List ℕ). black D m w) cut

-- ---- looking and moving

module _ {D : ℕ} {l : List ℕ} {c : Cursor} {v : ℕ} (p : Points D l c v) where
  -- in the leaf
  pub steady_black : v < 8 ^ D → c.from ≤ v → Steady D l c v (record { black = true; until = c.to })
  steady_black h g = record { some = p.ahead h; reach = omega arith; same = λ w k m. p.inside w (omega arith) m }

  -- before it
  pub steady_white : v < c.from → Steady D l c v (record { black = false; until = c.from })
  steady_white h = record { some = h; reach = p.order; same = λ w k m. p.before w k m }

  -- to a later voxel before the leaf's end
  pub points_later : {w : ℕ} → v ≤ w → (w < 8 ^ D → w < c.to) → Points D l c w
  points_later {w} h g = record {
    order = p.order;
    some = p.some;
    ahead = g;
    before = λ u k m. p.before u (omega arith) m;
    inside = p.inside;
    behind = p.behind;
  }

  -- to its end
  pub behind_next : {w : ℕ} → w ≤ c.to → c.to ≤ w → Behind D l c.rest.now w
  behind_next {w} h g = subst (λ (x : ℕ). Behind D l c.rest.now x) (omega arith) p.behind
