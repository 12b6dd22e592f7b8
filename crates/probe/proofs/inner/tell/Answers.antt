-- `probe::inner::tell` meets its contract: seven words stored over zeros.
use Rattle.std.proofs.Common.{◌≡◌, length}
use Rattle.std.proofs.Math.ListN.{replicate}
use Rattle.probe.proofs.Words.{told_over}
use Rattle.probe.proofs.inner.tell.Goals as goal

pub returns : goal.returns
returns c =
    let a = c.args in
    let zeros : c.fill.new.self ≡ replicate (length a.answer.now) 0 = c.fill.ensures.after (λ y p. p) in
    rw zeros (told_over _ a.a.number a.a.place a.a.list a.x a.y a.z a.level c.requires)
