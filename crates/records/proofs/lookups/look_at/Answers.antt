-- Of the leaves that start at a voxel or before it, only the last can hold it, and that leaf is then its cell.
use Rattle.std.proofs.Common.{◌≡◌, Bool, true, List, ℕ, suc, ◌+◌, ◌-◌, ◌<◌, sym, ap, ◌∙◌, arith, length, get_or}
use Prim.Native.Nat.{zero-le}
use Rattle.cells.specs.Cell.{level, end, holds}
use Rattle.cells.proofs.Words.{codes_fit}
use Rattle.records.specs.Record.{black, Ordered}
use Rattle.records.specs.Inner.{Starts, reaches}
use Rattle.records.specs.Lookups.{seen}
use Rattle.records.proofs.Fault.{member_at}
use Rattle.records.proofs.Lists.{holds_between}
use Rattle.records.proofs.Search.{proper_at, starts_same, black_last, reaches_true}
use Rattle.records.proofs.Sizes.{leaf_largest}
use Rattle.records.proofs.lookups.look_at.Goals as goal

-- the leaves before `after` start at voxel v or before it, and r tells whether the last of them ends after v
module _ (D : ℕ) (l : List ℕ) (v after : ℕ) (r : Bool) (ordered : Ordered D 0 l) (first : Starts D l (v + 1) 0 (length l) after) (tested : r ≡ reaches D l after v) where
  found_at : Starts D l (suc v) 0 (length l) after
  found_at = starts_same (omega arith) first

  colour : r ≡ black D l v
  colour = tested ∙ black_last D l ordered v after found_at

  -- a black voxel: that leaf holds it
  module _ (hit : r ≡ true) where
    abbrev leaf : ℕ
    leaf = get_or l (after - 1) 0

    reached : (0 < after) × (v < end D leaf)
    reached = reaches_true D l after v (sym tested ∙ hit)

    inside : after - 1 < length l
    inside = omega (arith, reached.0, found_at.high)

    held : holds D leaf v ≡ true
    held = holds_between D leaf v (omega (arith, found_at.below (after - 1) zero-le (omega (arith, reached.0)))) reached.1

pub overflow_add-v : goal.overflow_add-v
overflow_add-v c = omega (arith, codes_fit c.args.depth c.requires.0, c.requires.2)

pub overflow_sub-after : goal.overflow_sub-after
overflow_sub-after c = omega (arith, (reached c.args.depth c.args.list.now c.args.v c.first_from-after.result c.last_reaches.result c.requires.1.ordered c.first_from-after.ensures c.last_reaches.ensures c.if-last_reaches.true).0)

pub bounds-list-after : goal.bounds-list-after
bounds-list-after c = inside c.args.depth c.args.list.now c.args.v c.first_from-after.result c.last_reaches.result c.requires.1.ordered c.first_from-after.ensures c.last_reaches.ensures c.if-last_reaches.true

pub level_of-level-requires : goal.level_of-level-requires
level_of-level-requires c =
    let a = c.args in
    let within = inside a.depth a.list.now a.v c.first_from-after.result c.last_reaches.result c.requires.1.ordered c.first_from-after.ensures c.last_reaches.ensures c.if-last_reaches.true in
    (c.requires.0, proper_at a.depth a.list.now c.requires.1.ordered (c.first_from-after.result - 1) within)

pub returns-then-last_reaches : goal.returns-then-last_reaches
returns-then-last_reaches c =
    let D = c.args.depth in
    let l = c.args.list.now in
    let v = c.args.v in
    let after = c.first_from-after.result in
    let o = c.requires.1.ordered in
    let f = c.first_from-after.ensures in
    let t = c.last_reaches.ensures in
    let hit = c.if-last_reaches.true in
    let k = level D (get_or l (after - 1) 0) in (
      k,
      leaf_largest D l c.requires.1 v (get_or l (after - 1) 0) (member_at l (after - 1) (inside D l v after c.last_reaches.result o f t hit)) (held D l v after c.last_reaches.result o f t hit),
      ap (seen true) c.level_of-level.ensures ∙ ap (λ (b : Bool). seen b k) (sym hit ∙ colour D l v after c.last_reaches.result o f t),
    )

pub white_level-level-requires : goal.white_level-level-requires
white_level-level-requires c =
    let a = c.args in
    let f = c.first_from-after.ensures in
    let o = c.requires.1.ordered in
    record {
      source = record { deep = c.requires.0; ordered = o };
      root = c.requires.2;
      white = sym (colour a.depth a.list.now a.v c.first_from-after.result c.last_reaches.result o f c.last_reaches.ensures) ∙ c.if-last_reaches.false;
      starts = found_at a.depth a.list.now a.v c.first_from-after.result c.last_reaches.result o f c.last_reaches.ensures;
    }

pub returns : goal.returns
returns c =
    let a = c.args in
    let k = c.white_level-level.result in
    let is = colour a.depth a.list.now a.v c.first_from-after.result c.last_reaches.result c.requires.1.ordered c.first_from-after.ensures c.last_reaches.ensures in
    (k, c.white_level-level.ensures, ap (λ (b : Bool). seen b k) (sym c.if-last_reaches.false ∙ is))
