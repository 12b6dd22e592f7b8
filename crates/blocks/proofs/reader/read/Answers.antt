-- A file that is not judged good is refused as it is there; a good one's codes stand in the buffer, or it is too short for them.
use Rattle.std.proofs.Common.{◌≡◌, List, ℕ, [], ◌∷◌, length, refl, ap, ap₂, inl, inr, arith}
use Rattle.std.proofs.lemmas.Result.{err_from_is_err_and}
use Rattle.cells.specs.Answer.{given}
use Rattle.cells.specs.Refusals.{refused}
use Rattle.cells.proofs.Decisions.{passes}
use Rattle.records.specs.Writing.{stands, TooShort}
use Rattle.blocks.specs.Block.{depth_of, codes}
use Rattle.blocks.specs.Calls.{ReadAnswer, unread}
use Rattle.blocks.specs.declared.inner.held.Holding.{Holding}
use Rattle.blocks.proofs.CallLaws.{holding_refuses, holding_known, holding_passes}
use Rattle.blocks.proofs.reader.read.Goals as goal

-- what is left where the file is good and the buffer long enough
abbrev Done : List ℕ → List ℕ → ReadAnswer × List ℕ → Type 0
Done b o t = t ≡ (record { answer = given (length (codes b)); depth = depth_of b }, stands (codes b) o)

pub returns-in_err-held : goal.returns-in_err-held
returns-in_err-held c =
    let b = c.args.bytes.now in
    let o = c.args.out.now in
    let p = err_from_is_err_and c.from_residual.result c.from_residual.ensures.1 in
    rw (p.1, p.2) (holding_refuses (unread o) (TooShort (length (codes b)) o ∷ []) (Done b o) b (refused c.in_err-held.field-0.0) c.in_err-held.ensures)

pub returns-then-out-n : goal.returns-then-out-n
returns-then-out-n c =
    let b = c.args.bytes.now in
    let o = c.args.out.now in
    let is-length = (holding_known b c.in_ok-held.held c.in_ok-held.ensures).0.is_length in
    rw is-length
    (holding_passes b c.in_ok-held.held c.in_ok-held.ensures (unread o) (TooShort (length (codes b)) o ∷ []) (Done b o) _ (inl (_, (omega (arith, is-length, c.if-out-n.true), refl), refl)))

pub copy-requires : goal.copy-requires
copy-requires c =
    let k = (holding_known c.args.bytes.now c.in_ok-held.held c.in_ok-held.ensures).0 in
    (k.is_sound, k.is_length, c.if-out-n.false)

pub returns : goal.returns
returns c =
    let b = c.args.bytes.now in
    let o = c.args.out.now in
    let (k, e) = holding_known b c.in_ok-held.held c.in_ok-held.ensures in
    holding_passes b c.in_ok-held.held c.in_ok-held.ensures (unread o) (TooShort (length (codes b)) o ∷ []) (Done b o) _
    (inr (
      passes (λ h. omega (arith, k.is_length, c.if-out-n.false)),
      ap₂ (λ (x : ReadAnswer) (l : List ℕ). (x, l)) (ap₂ (λ (n d : ℕ). record { answer = given n; depth = d }) k.is_length (ap (λ (h : Holding). h.depth) e)) c.copy.ensures,
    ))
