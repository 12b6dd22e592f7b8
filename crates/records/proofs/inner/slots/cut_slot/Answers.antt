-- The cell is cut at the edge of each child in turn.
use Rattle.std.proofs.Common.{◌≡◌, ℕ, suc, ◌+◌, ◌*◌, ◌^◌, refl, ap, ◌∙◌, add-one, arith, get_or}
use native.Mathlib.Nat.{zero-mul}
use Rattle.cells.proofs.Cells.{within}
use Rattle.cells.proofs.Words.{pow8_small}
use Rattle.records.specs.Inner.{Starts}
use Rattle.records.proofs.Arrays.{prefix_none, prefix_more}
use Rattle.records.proofs.Edges.{child_edge, edge_next, inside}
use Rattle.records.proofs.SlotLaws.{cut_none, cut_next, cut_part, at_cell, slot_proper, slot_low}
use Rattle.records.proofs.inner.slots.cut_slot.Goals as goal

pub loop-part-init : goal.loop-part-init
loop-part-init c b y =
    let k = c.args.k in
    let e : c.cell_from-v.result ≡ b * 8 ^ suc k = c.cell_from-v.ensures b (rw (add-one k) y) ∙ ap (λ (n : ℕ). b * 8 ^ n) (add-one k) in
    record {
      place = omega (arith, child_edge b 0 k, zero-mul (8 ^ k));
      cut = cut_none (at_cell c.requires.0 y) c.requires.1;
      filled = prefix_none _ _ 8 _ refl;
    }

pub overflow_add-v : goal.overflow_add-v
overflow_add-v c =
    let a = c.args in
    let (x, t) = c.requires in
    let m = c.loop-part.part-index in
    let known = c.loop-part.invariant x.cell x.part in
    let top = within a.depth (get_or a.l.now a.s.lo 0) (slot_proper x t _ t.0) in
    let child = inside m a.k c.loop-part-test.true in
    record { fits = omega (arith, known.place, child_edge x.cell m a.k, child, slot_low x t _ (omega arith) t.0, top, pow8_small a.depth x.source.deep, pow8_small (suc a.k) (omega (arith, x.level, x.source.deep)), c.pow8-w.ensures) }

pub first_from-hi-requires : goal.first_from-hi-requires
first_from-hi-requires c =
    let x = c.requires.0 in
    record { shallow = x.source.deep; ordered = x.source.ordered; rising = (c.loop-part.invariant x.cell x.part).cut.high; within = x.part.leaves.within }

pub loop-part-preserved : goal.loop-part-preserved
loop-part-preserved c b y =
    let a = c.args in
    let u = c.loop-part in
    let x = at_cell c.requires.0 y in
    let inv = u.invariant b y in
    let m = u.part-index in
    let next : u.v + c.pow8-w.result ≡ (8 * b + suc m) * 8 ^ a.k = omega (arith, inv.place, edge_next b m a.k, c.pow8-w.ensures) in
    let found : Starts a.depth a.l.now ((8 * b + suc m) * 8 ^ a.k) u.lo a.s.hi c.first_from-hi.result = rw next at c.first_from-hi.ensures in
    record {
      place = rw (add-one m) next;
      cut = rw (add-one m) (cut_next x c.requires.1 inv.cut found);
      filled = prefix_more _ _ 8 u.part-items m _ c.loop-part-test.true (cut_part x c.requires.1 inv.cut found c.loop-part-test.true) inv.filled;
    }

pub returns : goal.returns
returns c b y m h = (c.loop-part.invariant b y).filled.each m (omega (arith, c.loop-part-test.false))
