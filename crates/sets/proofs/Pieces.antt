-- Laws of the two lists together: pieces of one colour in both, and the jump over what is white in both. Assumes nothing.
use mathlib.Core.Path.{◌≡◌, refl, ap₂, ◌∙◌}
use mathlib.Core.Logic.{◌⊎◌, inl, inr, ⊎_elim, ◌↔◌}
use mathlib.Core.List.{List}
use mathlib.Core.Bool.{Bool, true, false, false≢true}
use Prim.Native.Nat.{ℕ, ◌^◌, ◌<◌, ◌≤◌, min, max}
use native.Mathlib.Omega.{arith}
use Rattle.cells.proofs.Power.{le_or_lt}
use Rattle.records.specs.Record.{black}
use Rattle.emit.specs.declared.inner.Runs.{Runs}
use Rattle.emit.specs.Inner.{fresh, Fed}
use Rattle.emit.proofs.Runs.{fed_white, fed_then}
use Rattle.sets.specs.declared.Op.{Op}
use Rattle.sets.specs.declared.Op.TheVariants.{Join, Intersect, Subtract}
use Rattle.sets.specs.declared.inner.Cursor.{Cursor}
use Rattle.sets.specs.declared.inner.Side.{Side}
use Rattle.sets.specs.Sets.{Chosen, InResult}
use Rattle.sets.specs.Inner.{chosen, both, Points, Steady}
use Rattle.sets.proofs.Cursors.{points_later}

-- what is white in both lists is white in the result
chosen_none : (op : Op) → chosen op false false ≡ false
chosen_none Join = refl
chosen_none Intersect = refl
chosen_none Subtract = refl

-- the test of a voxel's colours says what the result takes
pub chosen_exactly : (op : Op) (a b : Bool) → (chosen op a b ≡ true) ↔ Chosen op (a ≡ true) (b ≡ true)
chosen_exactly Join true b = (λ e. inl refl, λ t. refl)
chosen_exactly Join false true = (λ e. inr refl, λ t. refl)
chosen_exactly Join false false = (λ e. inl e, λ t. ⊎_elim (λ e. e) (λ e. e) t)
chosen_exactly Intersect true true = (λ e. (refl, refl), λ t. refl)
chosen_exactly Intersect true false = (λ e. (refl, e), λ t. t.1)
chosen_exactly Intersect false b = (λ e. absurd (false≢true e), λ t. t.0)
chosen_exactly Subtract true true = (λ e. absurd (false≢true e), λ t. absurd (t.1 refl))
chosen_exactly Subtract true false = (λ e. (refl, false≢true), λ t. refl)
chosen_exactly Subtract false b = (λ e. absurd (false≢true e), λ t. t.0)

pub exactly : (op : Op) (D : ℕ) (a b : List ℕ) (v : ℕ) → v < 8 ^ D → (both op D a b v ≡ true) ↔ InResult op D a b v
unfolding both
exactly op D a b v h = chosen_exactly op (black D a v) (black D b v)

-- [v, next) is of one colour in both lists, and each leaf reaches its end
pub record Piece (op : Op) (D : ℕ) (a b : List ℕ) (x y : Cursor) (v : ℕ) (s t : Bool) (next : ℕ) : Type 0 where
  pub some : v < next
  pub root : next ≤ 8 ^ D
  pub same : (w : ℕ) → v ≤ w → w < next → both op D a b w ≡ chosen op s t
  pub left : next ≤ x.to
  pub right : next ≤ y.to

-- the sweep's state at voxel v
pub record Swept (op : Op) (D : ℕ) (a b o out : List ℕ) (r : Runs) (x y : Cursor) (v : ℕ) : Type 0 where
  pub fed : Fed D (both op D a b) 0 v o (fresh 0 0) out r
  pub left : Points D a x v
  pub right : Points D b y v

module _ {op : Op} {D : ℕ} {a b : List ℕ} {x y : Cursor} {v : ℕ} where
  pub piece : {s t : Side} {next : ℕ} → Points D a x v → Steady D a x v s → Steady D b y v t → next ≡ min s.until t.until → Piece op D a b x y v s.black t.black next
  unfolding both
  piece p f g e = record {
    some = omega (arith, f.some, g.some);
    root = omega (arith, f.reach, p.behind.root);
    same = λ w h k. ap₂ (chosen op) (f.same w h (omega arith)) (g.same w h (omega arith));
    left = omega (arith, f.reach);
    right = omega (arith, g.reach);
  }

  -- over what is white in both lists
  pub jump : {o out : List ℕ} {r : Runs} {w : ℕ} → w ≡ max v (min x.from y.from) → Swept op D a b o out r x y v → Swept op D a b o out r x y w
  unfolding both
  jump {o} {out} {r} {w} e s = record {
    fed = fed_then D (both op D a b) s.fed (fed_white D (both op D a b) v w out r (omega arith) (omega (arith, s.fed.ready.root, p.order, p.behind.root)) white s.fed.ready);
    left = points_later p (omega arith) (reached p (omega arith));
    right = points_later q (omega arith) (reached q (omega arith));
  }
    where
      p : Points D a x v
      p = s.left

      q : Points D b y v
      q = s.right

      white : (u : ℕ) → v ≤ u → u < w → both op D a b u ≡ false
      white u h k = ap₂ (chosen op) (p.before u h (omega arith)) (q.before u h (omega arith)) ∙ chosen_none op

      -- the jump goes no further than each leaf
      reached : {l : List ℕ} {c : Cursor} → Points D l c v → min x.from y.from ≤ c.from → w < 8 ^ D → w < c.to
      reached {l} {c} t m h = go (le_or_lt w v) (le_or_lt (8 ^ D) c.from)
        where
          go : (w ≤ v) ⊎ (v < w) → (8 ^ D ≤ c.from) ⊎ (c.from < 8 ^ D) → w < c.to
          go (inl k) g = omega (arith, t.ahead (omega arith))
          go (inr k) (inl g) = omega (arith, t.order)
          go (inr k) (inr g) = omega (arith, t.some g)
