-- The leaves of one source cell, smaller than it, copied to a target cell: a black piece for each, white between them. Assumes nothing.
use mathlib.Core.Path.{◌≡◌, refl, ◌∙◌, subst}
use mathlib.Core.List.{List}
use mathlib.Core.Bool.{Bool, true, false}
use mathlib.Core.Logic.{⊎_elim}
use Prim.Native.Nat.{ℕ, ◌+◌, ◌-◌, ◌*◌, ◌^◌, ◌<◌, ◌≤◌}
use native.Mathlib.Omega.{arith}
use lib.ListN.{get_or}
use Rattle.cells.specs.Cell.{start, span, proper, end}
use Rattle.cells.proofs.Power.{le_or_lt}
use Rattle.cells.proofs.Cells.{span_pos}
use Rattle.records.specs.Record.{black}
use Rattle.records.proofs.Lists.{holds_between, before_cell, after_cell}
use Rattle.records.proofs.Fault.{in_order}
use Rattle.emit.specs.declared.inner.Runs.{Runs}
use Rattle.emit.specs.declared.inner.Emitter.{Emitter}
use Rattle.emit.specs.Inner.{Ready, Next, Feeds}
use Rattle.emit.proofs.Runs.{fed_none, fed_white, fed_then}
use Rattle.records.specs.Slot.{OfCell, SlotTint}
use Rattle.records.specs.declared.inner.slots.Slot.{Slot}
use Rattle.records.specs.declared.inner.slots.Tint.TheVariants.{Mixed}
use Rattle.records.proofs.SlotLaws.{slot_proper, slot_low, slot_high, slot_off, black_at}

-- on the w voxels from `from` on P is what l has from `base` on
abbrev pub From : ℕ → List ℕ → ℕ → ℕ → ℕ → (ℕ → Bool) → Type 0
From D l base from w P = (v : ℕ) → from ≤ v → v < from + w → P v ≡ black D l (base + (v - from))

-- the leaves of slot s before place i are copied, up to voxel p: they took the emitter o to m
pub record Copied (D : ℕ) (l : List ℕ) (n base from : ℕ) (s : Slot) (o m : Emitter) (i : ℕ) : Type 0 where
  pub p : ℕ
  pub low : from ≤ p
  pub top : p ≤ from + 8 ^ n
  pub first : s.lo ≤ i
  pub last : i ≤ s.hi
  pub before : (j : ℕ) → s.lo ≤ j → j < i → end D (get_or l j 0) ≤ base + (p - from)
  pub next : (j : ℕ) → i ≤ j → j < s.hi → base + (p - from) ≤ start D (get_or l j 0)
  pub ready : Ready D m.runs p
  pub fed : (P : ℕ → Bool) → From D l base from (8 ^ n) P → Feeds D P from p o m
  pub same : m.out.ghost_name ≡ o.out.ghost_name
  pub depth : m.depth ≡ o.depth

-- leaf c comes next: it lies in the source cell, and its piece in the target cell
pub record Comes (D base from c : ℕ) (r : Runs) : Type 0 where
  pub is_proper : proper D c ≡ true
  pub low : base ≤ start D c
  pub piece : Next D r (from + (start D c - base)) (from + (start D c - base) + span D c)

module _ {D n base from : ℕ} {l : List ℕ} {s : Slot} {o : Emitter} (x : OfCell D l n s) (mixed : SlotTint D l (8 ^ n) s Mixed) (at : base ≡ x.cell * 8 ^ n) (root : from + 8 ^ n ≤ 8 ^ D) where
  pub copied_none : Ready D o.runs from → Copied D l n base from s o o s.lo
  copied_none h = record {
    p = from;
    low = omega arith;
    top = omega arith;
    first = omega arith;
    last = x.part.leaves.order;
    before = λ j a b. absurd (omega arith);
    next = λ j a b. omega (arith, slot_low x mixed j a b);
    ready = h;
    fed = λ P _. fed_none D P from o.out.now o.runs h;
    same = refl;
    depth = refl;
  }

  module _ {m : Emitter} {i : ℕ} (k : Copied D l n base from s o m i) where
    -- white from p up to where the next leaf is copied to, or the end
    gap : (P : ℕ → Bool) → From D l base from (8 ^ n) P → (v : ℕ) → v ≤ from + 8 ^ n → ((j : ℕ) → i ≤ j → j < s.hi → base + (v - from) ≤ start D (get_or l j 0)) → (u : ℕ) → k.p ≤ u → u < v → P u ≡ false
    gap P h v g after u a b =
        h u (omega (arith, k.low)) (omega arith)
        ∙ slot_off x.part (base + (u - from)) (omega arith) (omega (arith, k.low))
        (λ j c d.
        ⊎_elim
        (λ (e : i ≤ j). before_cell D (get_or l j 0) (base + (u - from)) (omega (arith, after j e d, k.low)))
        (λ (e : j < i). after_cell D (get_or l j 0) (base + (u - from)) (omega (arith, k.before j c e, k.low)))
        (le_or_lt i j))

    module _ (here : i < s.hi) where
      abbrev leaf : ℕ
      leaf = get_or l i 0

      -- where the leaf is copied to
      abbrev place : ℕ
      place = from + (start D leaf - base)

      low : base ≤ start D leaf
      low = omega (arith, slot_low x mixed i k.first here)

      top : place + span D leaf ≤ from + 8 ^ n
      top = omega (arith, slot_high x mixed i k.first here, low)

      past : k.p ≤ place
      past = omega (arith, k.next i (omega arith) here, k.low, low)

      -- the leaves from the one at i on do not start before it
      later : (j : ℕ) → i ≤ j → j < s.hi → start D leaf ≤ start D (get_or l j 0)
      later j a b =
          ⊎_elim
          (λ (e : j ≤ i). let q : i ≡ j = omega arith in subst (λ (m : ℕ). start D leaf ≤ start D (get_or l m 0)) q (omega arith))
          (λ (e : i < j). omega (arith, in_order D 0 l x.source.ordered i j e (omega (arith, x.part.leaves.within))))
          (le_or_lt j i)

      pub copied_leaf : Comes D base from leaf m.runs
      copied_leaf = record {
        is_proper = slot_proper x mixed i here;
        low = low;
        piece = record {
          deep = x.source.deep;
          ready = record { run = k.ready.run; past = omega (arith, k.ready.past, past); few = k.ready.few; root = omega (arith, top) };
          some = omega (arith, span_pos D leaf);
          root = omega (arith, top);
        };
      }

      -- the leaf is pushed: u is where it starts and y its span, as the code has them
      pub copied_next : {m' : Emitter} (u y : ℕ) → u ≡ start D leaf → y ≡ span D leaf → m'.out.ghost_name ≡ m.out.ghost_name → m'.depth ≡ m.depth
          → ((P : ℕ → Bool) → ((v : ℕ) → from + (u - base) ≤ v → v < from + (u - base) + y → P v ≡ true) → Feeds D P (from + (u - base)) (from + (u - base) + y) m m')
          → Copied D l n base from s o m' (i + 1)
      copied_next {m'} u y eu ey same depth push = record {
        p = place + span D leaf;
        low = omega arith;
        top = top;
        first = omega (arith, k.first);
        last = omega arith;
        before = λ j a b.
            ⊎_elim
            (λ (e : i ≤ j). let q : i ≡ j = omega arith in subst (λ (m : ℕ). end D (get_or l m 0) ≤ base + (place + span D leaf - from)) q (omega (arith, low)))
            (λ (e : j < i). omega (arith, k.before j a e, k.next i (omega arith) here, k.low, low))
            (le_or_lt i j);
        next = λ j a b. omega (arith, in_order D 0 l x.source.ordered i j (omega arith) (omega (arith, x.part.leaves.within)), low);
        ready = (pushed (λ v. true) (λ v a b. refl)).ready;
        fed = λ P h.
            let white = fed_white D P k.p place m.out.now m.runs past (omega (arith, top, root)) (gap P h place (omega (arith, top)) (λ j a b. omega (arith, later j a b, low))) k.ready in
            fed_then D P (fed_then D P (k.fed P h) white) (pushed P (black_leaf P h));
        same = same ∙ k.same;
        depth = depth ∙ k.depth;
      }
        where
          pushed : (P : ℕ → Bool) → ((v : ℕ) → place ≤ v → v < place + span D leaf → P v ≡ true) → Feeds D P place (place + span D leaf) m m'
          pushed = rw (eu, ey) at push

          black_leaf : (P : ℕ → Bool) → From D l base from (8 ^ n) P → (v : ℕ) → place ≤ v → v < place + span D leaf → P v ≡ true
          black_leaf P h v a b =
              h v (omega arith) (omega (arith, top))
              ∙ black_at D l i (base + (v - from)) (omega (arith, x.part.leaves.within)) (holds_between D leaf (base + (v - from)) (omega (arith, low)) (omega (arith, low)))

    pub copied_all : s.hi ≤ i → (P : ℕ → Bool) → From D l base from (8 ^ n) P → Feeds D P from (from + 8 ^ n) o m
    copied_all g P h =
        fed_then D P (k.fed P h)
        (fed_white D P k.p (from + 8 ^ n) m.out.now m.runs k.top root (gap P h (from + 8 ^ n) (omega arith) (λ j a b. absurd (omega arith))) k.ready)
