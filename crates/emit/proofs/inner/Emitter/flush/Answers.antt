-- A turn puts the next cell of the run, and after the last the white voxels up to pos are behind it. Assumes nothing.
use Rattle.std.proofs.Common.{arith, ◌≡◌, ◌∙◌, ◌+◌, ◌/◌, ◌^◌, ◌≤◌, ◌<◌, set}
use Rattle.cells.proofs.Words.{pow8_small}
use Rattle.emit.proofs.Fits.{fit_some}
use Rattle.emit.proofs.Runs.{ready_cell, fed_cell, fed_flushed, fed_then}
use Rattle.emit.proofs.inner.Emitter.flush.Goals as goal
use Rattle.emit.proofs.inner.Emitter.flush.Goals.{After-fit-w}

-- in a turn, what is below the root's end
small : (c : After-fit-w) → (c.loop-p.p + c.fit-w.result ≤ 8 ^ 10) × (c.pow8-full.result ≤ 8 ^ 10) × (0 < c.fit-w.result)
small c =
    let h = c.loop-p.invariant.ready in
    omega (arith, pow8_small c.args.self.now.depth c.requires.0, c.pow8-full.ensures, h.past, h.root, c.fit-w.ensures.fits, fit_some c.fit-w.ensures)

pub overflow_add-full : goal.overflow_add-full
overflow_add-full c = record { fits = omega (arith, small (goal.at.overflow_add-full c).After-fit-w) }

pub nonzero_div-full : goal.nonzero_div-full
nonzero_div-full c = (small (goal.at.nonzero_div-full c).After-fit-w).2

pub loop-p-preserved : goal.loop-p-preserved
loop-p-preserved c =
    let inv = c.loop-p.invariant in
    let f = c.fit-w.ensures in
    let code : c.put.new.self.out.now ≡ set c.loop-p.self.out.now c.loop-p.n ((8 ^ c.args.self.now.depth + c.loop-p.p) / c.fit-w.result) = rw (← c.pow8-full.ensures) c.put.ensures.codes in
    record {
      same = c.put.ensures.same ∙ inv.same;
      depth = c.put.ensures.depth ∙ inv.depth;
      ready = ready_cell f inv.ready;
      fed = λ P. fed_then _ P (inv.fed P) (fed_cell _ P c.requires.2 f code inv.ready);
    }

pub returns-clause-fed : goal.returns-clause-fed
returns-clause-fed c = λ P. let inv = c.loop-p.invariant in fed_then _ P (inv.fed P) (fed_flushed _ P c.loop-p-test.false inv.ready)
