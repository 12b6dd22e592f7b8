-- No leaf is left; or a leaf is, whose code times its span is its start, counted from the root's voxels on. Assumes nothing.
use Rattle.std.proofs.Common.{arith, ◌≡◌, ap, ◌∙◌, true, ℕ, ◌+◌, ◌*◌, ◌^◌, ◌≤◌, ◌<◌}
use Rattle.cells.specs.Cell.{proper, start}
use Rattle.cells.proofs.Cells.{interval, within, span_pos}
use Rattle.cells.proofs.Words.{pow8_small}
use Rattle.sets.proofs.Cursors.{head_proper, points_end, points_at}
use Rattle.sets.proofs.inner.load.Goals as goal
use Rattle.sets.proofs.inner.load.Goals.{In-Some, After-width-w}

head : (c : In-Some) → proper c.args.depth c.in-Some.field-0-0.now ≡ true
head c = head_proper _ _ c.in-Some.ensures.cases.0 c.requires.1.1

-- the leaf's numbers
numbers : (c : After-width-w) → let d = c.args.depth in let code = c.in-Some.field-0-0.now in let w = c.width-w.result in
    (code * w ≡ c.pow8-full.result + start d code) × (start d code + w ≤ 8 ^ 10) × (8 ^ d ≤ 8 ^ 10) × (0 < w)
numbers c =
    let d = c.args.depth in
    let code = c.in-Some.field-0-0.now in
    let w = c.width-w.result in
    let p = head (goal.at.returns c).In-Some in
    let e : code * w ≡ 8 ^ d + start d code = ap (λ (x : ℕ). code * x) c.width-w.ensures ∙ interval d code p in
    omega (arith, e, c.pow8-full.ensures, c.width-w.ensures, within d code p, pow8_small d c.requires.0, span_pos d code)

pub returns-in_default : goal.returns-in_default
returns-in_default c l v b = points_end c.pow8-full.ensures c.in_default.ensures.cases b

pub width-w-requires : goal.width-w-requires
width-w-requires c = (c.requires.0, head c)

pub overflow_mul-from : goal.overflow_mul-from
overflow_mul-from c = omega (arith, numbers c)

pub overflow_sub-from : goal.overflow_sub-from
overflow_sub-from c = omega (arith, numbers c)

pub overflow_add-result : goal.overflow_add-result
overflow_add-result c = omega (arith, numbers c)

pub returns : goal.returns
returns c l v b = points_at c.in-Some.ensures.cases.0 b (omega (arith, numbers c)) (omega (arith, numbers c, c.width-w.ensures))
