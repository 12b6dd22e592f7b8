-- The voxels of the leaves are the black ones.
use Rattle.std.proofs.Common.{◌≡◌, [], sym, ap, ◌∙◌}
use Rattle.std.proofs.lemmas.Result.{err_from_is_err_and}
use Rattle.cells.specs.Answer.{given, alone}
use Rattle.cells.specs.Refusals.{refused}
use Rattle.records.proofs.Volumes.{blacks, list_volume}
use Rattle.blocks.specs.Block.{depth_of, codes}
use Rattle.blocks.specs.declared.inner.held.Holding.{Holding}
use Rattle.blocks.proofs.CallLaws.{holding_refuses, holding_known, holding_passes}
use Rattle.blocks.proofs.measurer.stored_volume.Goals as goal

pub returns-in_err-held : goal.returns-in_err-held
returns-in_err-held c =
    let b = c.args.bytes.now in
    let p = err_from_is_err_and c.from_residual.result c.from_residual.ensures.1 in
    rw (p.1, p.2) (holding_refuses alone [] (λ r. r ≡ given (blacks (depth_of b) (codes b))) b (refused c.in_err-held.field-0.0) c.in_err-held.ensures)

pub returns : goal.returns
returns c =
    let b = c.args.bytes.now in
    let (k, e) = holding_known b c.in_ok-held.held c.in_ok-held.ensures in
    holding_passes b c.in_ok-held.held c.in_ok-held.ensures alone [] (λ r. r ≡ given (blacks (depth_of b) (codes b))) _
    (ap given (ap (λ (h : Holding). h.voxels) e ∙ sym (list_volume (depth_of b) 0 (codes b) k.good.ordered)))
