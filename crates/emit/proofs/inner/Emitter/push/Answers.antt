-- A black piece goes on with the pending run, or with the empty one at its beginning, once the pending run is written. Assumes nothing.
use Rattle.std.proofs.Common.{ap, ◌∙◌}
use Rattle.emit.specs.declared.inner.Runs.{Runs}
use Rattle.emit.proofs.Runs.{fed_black, fed_then}
use Rattle.emit.proofs.inner.Emitter.push.Goals as goal
use Rattle.emit.proofs.inner.Emitter.push.Goals.{then-self-from, else-self-from}

pub returns-clause-fed : goal.returns-clause-fed
returns-clause-fed c = λ P colour.
    elim c.if-self-from.branch [
      | then-self-from w ↦
          let x = w.flush.ensures.fed P in
          rw w.self-is (fed_then _ P x (fed_black _ P _ _ _ w.flush.new.self.runs (ap (λ (r : Runs). r.to) w.flush.ensures.none) c.requires.some c.requires.root (λ v lo hi. colour v lo hi ∙ c.if-not-black.false) x.ready))
      | else-self-from w ↦ rw w.self-is (fed_black _ P _ _ _ c.args.self.now.runs w.if-self-from.false c.requires.some c.requires.root (λ v lo hi. colour v lo hi ∙ c.if-not-black.false) c.requires.ready)
    ]
