-- The cell, by its first byte; and eight children one after the other. Assumes nothing.
use Rattle.std.proofs.Common.{rules, arith, ◌≡◌, refl, sym, ap, ◌∙◌, true, false, ℕ, ◌+◌, get_or}
use Rattle.std.proofs.lemmas.Result.{err_from_is_err_and}
use Rattle.cells.proofs.Power.{pow8_pos}
use Rattle.cells.proofs.Words.{pow8_small}
use Rattle.emit.proofs.Runs.{fed_white, fed_to}
use Rattle.df.specs.Df.{opening}
use Rattle.df.specs.Inner.{byte_of}
use Rattle.df.proofs.Spells.{letter_opens}
use Rattle.df.proofs.Halves.{stuck_here}
use Rattle.df.proofs.Readings.{leaf_read, no_head, kids_none, kids_ahead, kids_next, kids_stuck, kids_eighth, kids_gray}
use Rattle.df.proofs.inner.reading.+read_cell_read_gray.Goals as goal
use Rattle.df.proofs.inner.reading.+read_cell_read_gray.Goals.{read_cell-in-White, read_cell-in-Black}

-- ---- the cell

-- a byte that is no head, or none at all
pub read_cell-returns-in_default-clause-read : goal.read_cell-returns-in_default-clause-read
read_cell-returns-in_default-clause-read t c = no_head _ _ _ c.requires.within c.in_default.ensures

pub read_cell-overflow_add-from : goal.read_cell-overflow_add-from
read_cell-overflow_add-from t c = record { fits = omega (arith, c.pow8.ensures, c.requires.root, pow8_small c.args.depth c.requires.deep) }

pub read_cell-push-requires : goal.read_cell-push-requires
read_cell-push-requires t c = rw c.requires.depth (record {
  deep = c.requires.deep;
  ready = c.requires.ready;
  some = omega (arith, c.pow8.ensures, pow8_pos c.args.k);
  root = omega (arith, c.pow8.ensures, c.requires.root);
})

-- a gray voxel
pub read_cell-returns-then-k-eq0-clause-read : goal.read_cell-returns-then-k-eq0-clause-read
read_cell-returns-then-k-eq0-clause-read t c =
    let opens : get_or c.args.text.now c.args.at 0 ≡ opening = c.in-Some.ensures.1 ∙ ap byte_of c.in-Open.is in
    stuck_here _ _ _ c.requires.within (λ b e. letter_opens b (sym e ∙ opens)) (λ e. c.if-k-eq0.true)

-- a leaf
pub read_cell-returns-clause-read : goal.read_cell-returns-clause-read
read_cell-returns-clause-read t c =
    let (more, byte) = c.in-Some.ensures in
    elim c.match-head.branch [
      | read_cell-in-White w ↦
          rw w.made-is (leaf_read false more (byte ∙ ap byte_of w.in-White.is) (sym (ap byte_of w.in-White.is)) refl (λ P agree. fed_white _ P _ _ _ _ (omega arith) c.requires.root agree c.requires.ready))
      | read_cell-in-Black w ↦
          let wide = w.pow8.ensures in
          rw w.made-is (leaf_read true more (byte ∙ ap byte_of w.in-Black.is) (sym (ap byte_of w.in-Black.is)) refl
          (λ P agree. fed_to _ P (ap (λ (w : ℕ). c.args.from + w) wide) (rw c.requires.depth at (w.push.ensures.fed P (λ v lo hi. agree v lo (omega (arith, wide)))))))
    ]

-- ---- the children

pub read_gray-loop-m-init : goal.read_gray-loop-m-init
read_gray-loop-m-init t c = kids_none (omega (arith, c.requires.more)) c.requires.ahead.ready

pub read_gray-read_cell-requires : goal.read_gray-read_cell-requires
read_gray-read_cell-requires t c =
    let a = c.requires.ahead in
    (omega (arith, c.decreases), kids_ahead c.loop-m.invariant a.cell a.corner a c.loop-m-test.true)

-- a child is wrong
pub read_gray-returns-in_err-child-clause-read : goal.read_gray-returns-in_err-child-clause-read
read_gray-returns-in_err-child-clause-read t c =
    let a = c.requires.ahead in
    let p = err_from_is_err_and c.from_residual.result c.from_residual.ensures.1 in
    rw (p.1, p.2) (kids_stuck c.loop-m.invariant a.cell a.corner c.requires.more c.requires.opens refl c.loop-m-test.true c.in_err-child.ensures.read)

pub read_gray-overflow_add-v : goal.read_gray-overflow_add-v
read_gray-overflow_add-v t c =
    let a = c.requires.ahead in
    record { fits = omega (arith, c.pow8-span.ensures, (kids_ahead c.loop-m.invariant a.cell a.corner a c.loop-m-test.true).root, pow8_small c.args.depth a.deep) }

pub read_gray-loop-m-preserved : goal.read_gray-loop-m-preserved
read_gray-loop-m-preserved t c =
    let a = c.requires.ahead in
    rw c.pow8-span.ensures (kids_next c.loop-m.invariant a.cell a.corner c.loop-m-test.true c.in_ok-child.ensures.read c.shared.ensures c.read_cell.ensures.same c.read_cell.ensures.depth)

-- the eighth makes eight equal leaves
pub read_gray-returns-then-ne-clause-read : goal.read_gray-returns-then-ne-clause-read
read_gray-returns-then-ne-clause-read t c =
    let a = c.requires.ahead in
    let x = c.loop-m.invariant in
    kids_eighth x a.cell a.corner c.requires.more c.requires.opens refl c.loop-m-test.false (search rules) (omega (arith, x.reads.place))

pub read_gray-returns-clause-read : goal.read_gray-returns-clause-read
read_gray-returns-clause-read t c =
    let a = c.requires.ahead in
    kids_gray c.loop-m.invariant a.cell a.corner c.requires.more c.requires.opens refl c.loop-m-test.false (search rules) refl refl
