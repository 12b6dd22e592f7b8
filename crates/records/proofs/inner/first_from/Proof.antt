-- `records::inner::first_from` meets its contract. The loop's invariant: the leaves before a start before v, those from b on at v or after it. Assumes nothing.
use Prim.Native.Nat.{ℕ, ◌+◌, ◌-◌, ◌/◌, ◌≤◌, ◌<◌}
use mathlib.Core.List.{List}
use native.Mathlib.Omega.{arith}
use borrow.Author.Rules.{rules}
use lib.ListN.{length, get_or}
use Rattle.cells.specs.Cell.{start}
use Rattle.records.proofs.Part.{starts_rise}
use Rattle.records.proofs.Search.{proper_at}
use Rattle.records.proofs.inner.first_from.Statement.{statement}
use Rattle.records.proofs.inner.first_from.Tie as tie

record Between (D : ℕ) (l : List ℕ) (v lo hi a b : ℕ) : Type 0 where
  from : lo ≤ a
  order : a ≤ b
  to : b ≤ hi
  below : (i : ℕ) → lo ≤ i → i < a → start D (get_or l i 0) < v
  above : (i : ℕ) → b ≤ i → i < hi → v ≤ start D (get_or l i 0)

abbrev invariant-loop : tie.invariant-loop-a
invariant-loop depth l v lo hi a₀ b₀ a b = Between depth l v lo hi a b

abbrev decreases-loop : tie.decreases-loop-a
decreases-loop depth l v lo hi a₀ b₀ a b = b - a

-- ---- the leaf in the middle

module _ (c : tie.In-loop-a invariant-loop decreases-loop) where
  abbrev at_start : tie.Start invariant-loop decreases-loop
  at_start = c.before.before.before

  abbrev at_loop : tie.At-loop-a invariant-loop decreases-loop
  at_loop = c.before

  abbrev mid : ℕ
  mid = at_loop.loop-a.a + (at_loop.loop-a.b - at_loop.loop-a.a) / 2

  below_hi : mid < at_start.args.hi
  below_hi = omega (arith, at_loop.loop-a.invariant.to, c.loop-a-test.true)

  within : mid < length at_start.args.l.now
  within = omega (arith, below_hi, at_start.requires.within)

loop_again : tie.Need-loop-a-preserved-then-first-v invariant-loop decreases-loop
loop_again c =
    let in_loop = c.before.before.before in
    let a = (at_start in_loop).args in
    let o = (at_start in_loop).requires.ordered in
    let v = (at_loop in_loop).loop-a.invariant in
    record {
      from = omega (arith, v.from);
      order = omega (arith, in_loop.loop-a-test.true);
      to = v.to;
      below = λ i p q. omega (arith, starts_rise a.depth a.l.now o i (mid in_loop) (omega arith) (within in_loop), c.if-first-v.true, c.before.first.ensures);
      above = v.above;
    }

loop_again_2 : tie.Need-loop-a-preserved invariant-loop decreases-loop
loop_again_2 c =
    let in_loop = c.before.before.before in
    let a = (at_start in_loop).args in
    let o = (at_start in_loop).requires.ordered in
    let v = (at_loop in_loop).loop-a.invariant in
    record {
      from = v.from;
      order = omega arith;
      to = omega (arith, below_hi in_loop);
      below = v.below;
      above = λ i p q. omega (arith, starts_rise a.depth a.l.now o (mid in_loop) i p (omega (arith, (at_start in_loop).requires.within)), c.if-first-v.false, c.before.first.ensures);
    }

pub first_from_spec : {M : Type 1} → statement M
first_from_spec =
    tie.close
    (tie.spec
    invariant-loop decreases-loop
    (λ c. record { from = omega arith; order = omega arith; to = omega arith; below = λ i p q. absurd (omega arith); above = λ i p q. absurd (omega arith) })
    (λ c. search rules) (λ c. search rules) (λ c. search rules) (λ c. search rules)
    (λ c κs.
    let in_loop = c.before in
    ((at_start in_loop).requires.shallow, proper_at (at_start in_loop).args.depth (at_start in_loop).args.l.now (at_start in_loop).requires.ordered (mid in_loop) (within in_loop)))
    (λ c. search rules) (λ c. search rules)
    loop_again
    (λ c. search rules)
    loop_again_2
    (λ c.
    let v = c.before.loop-a.invariant in
    record { low = v.from; high = omega (arith, v.order, v.to); below = v.below; above = λ i p q. v.above i (omega (arith, c.loop-a-test.false)) q }))
