-- A turn looks up to where both lists keep their colour, hands that piece to the emitter, moves the cursors and jumps to the next leaf. Assumes nothing.
use Rattle.std.proofs.Common.{rules, arith, refl, sym, ◌∙◌, ◌<◌, ◌≤◌, ◌^◌, List, ℕ}
use Rattle.emit.specs.Inner.{fresh, Feeds}
use Rattle.emit.proofs.Runs.{ready_none, fed_none, fed_to, fed_then, finished}
use Rattle.sets.specs.Inner.{both, Points, Passing}
use Rattle.sets.specs.declared.inner.Cursor.{Cursor}
use Rattle.sets.proofs.Cursors.{behind_none}
use Rattle.sets.proofs.Pieces.{Swept, Piece, piece, jump}
use Rattle.sets.proofs.inner.sweep.Goals as goal
use Rattle.sets.proofs.inner.sweep.Goals.{After-min-next, After-loop-v}

-- what a turn looks at
turn : (c : After-min-next) → Piece c.args.op c.args.depth c.args.a.now c.args.b.now c.loop-v.x c.loop-v.y c.loop-v.v c.look-s.result.black c.look-t.result.black c.min-next.result
turn c =
    let inv = c.loop-v.invariant.swept in
    let inside : c.loop-v.v < 8 ^ c.args.depth = omega (arith, c.loop-v-test.true, c.pow8-full.ensures) in
    piece inv.left (c.look-s.ensures _ _ inside inv.left) (c.look-t.ensures _ _ inside inv.right) c.min-next.ensures

-- a cursor that the piece's end does not pass comes up to it
come : (c : After-min-next) {l : List ℕ} {x : Cursor} → c.min-next.result ≤ x.to → Points c.args.depth l x c.loop-v.v → Passing c.args.depth l x c.min-next.result
come c reach p = record { deep = c.requires.0; reach = reach; from = c.loop-v.v; forth = omega (arith, (turn c).some); points = p }

pub loop-v-init : goal.loop-v-init
loop-v-init c =
    let made = c.new-made.ensures in
    let swept : Swept c.args.op c.args.depth c.args.a.now c.args.b.now c.new-made.result.out.now c.new-made.result.out.now c.new-made.result.runs c.load-x.result c.load-y.result c.min-v.result =
    rw made.runs
    (jump (omega (arith, c.min-v.ensures))
    (record {
      fed = fed_none _ _ 0 _ (fresh 0 0) ready_none;
      left = c.load-x.ensures _ 0 (behind_none c.requires.1);
      right = c.load-y.ensures _ 0 (behind_none c.requires.2);
    })) in
    record { same = refl; depth = made.depth; swept = swept }

pub push-requires : goal.push-requires
push-requires c =
    let t = turn (goal.at.push-requires c).After-min-next in
    let inv = c.loop-v.invariant in
    rw inv.depth (record { deep = c.requires.0; ready = inv.swept.fed.ready; some = t.some; root = t.root })

pub pass-x-requires : goal.pass-x-requires
pass-x-requires c = let d = (goal.at.pass-x-requires c).After-min-next in (_, come d (turn d).left c.loop-v.invariant.swept.left)

pub pass-y-requires : goal.pass-y-requires
pass-y-requires c = let d = (goal.at.pass-y-requires c).After-min-next in (_, come d (turn d).right c.loop-v.invariant.swept.right)

pub loop-v-smaller : goal.loop-v-smaller
loop-v-smaller c = omega (arith, (turn (goal.at.loop-v-smaller c).After-min-next).some, c.loop-v-test.true, c.max-v.ensures)

pub loop-v-preserved : goal.loop-v-preserved
loop-v-preserved c =
    let d = (goal.at.loop-v-preserved c).After-min-next in
    let inv = c.loop-v.invariant in
    let pushed : Feeds c.args.depth (both c.args.op c.args.depth c.args.a.now c.args.b.now) c.loop-v.v c.min-next.result c.loop-v.made c.push.new.self =
    rw inv.depth at (c.push.ensures.fed _ (λ w m n. (turn d).same w m n ∙ sym c.choose.ensures)) in
    record {
      same = c.push.ensures.same ∙ inv.same;
      depth = c.push.ensures.depth ∙ inv.depth;
      swept =
          jump (omega (arith, c.max-v.ensures, c.min.ensures))
          (record {
            fed = fed_then _ _ inv.swept.fed pushed;
            left = c.pass-x.ensures _ (come d (turn d).left inv.swept.left);
            right = c.pass-y.ensures _ (come d (turn d).right inv.swept.right);
          });
    }

-- after the loop v is the root's end
all : (c : After-loop-v) → Feeds c.args.depth (both c.args.op c.args.depth c.args.a.now c.args.b.now) 0 (8 ^ c.args.depth) c.new-made.result c.loop-v.made
all c =
    let f = c.loop-v.invariant.swept.fed in
    rw c.new-made.ensures.runs (fed_to _ _ (omega (arith, f.ready.root, c.loop-v-test.false, c.pow8-full.ensures)) f)

pub finish-requires : goal.finish-requires
finish-requires c = rw c.loop-v.invariant.depth (c.requires.0, (all (goal.at.finish-requires c).After-loop-v).ready)

pub returns : goal.returns
returns c = finished c.new-made.ensures.codes c.new-made.ensures.runs (all (goal.at.returns c).After-loop-v) c.loop-v.invariant.depth c.finish.ensures.list (search rules)
