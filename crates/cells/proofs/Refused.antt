-- A refusal's number is never that of success, so an answer that tells success is that of a success.
use Rattle.std.proofs.Common.{◌≡◌, ℕ, Result, Ok, Err, ap, arith}
use Rattle.cells.specs.Answer.{given}
use Rattle.cells.specs.Refusals.{refused, answer_of}
use Rattle.cells.specs.declared.Answer.{Answer}
use Rattle.cells.specs.declared.refusals.Fault.TheVariants.{NotProper, Early, EightSiblings}
use Rattle.cells.specs.declared.refusals.Refusal.{Refusal}
use Rattle.cells.specs.declared.refusals.Refusal.TheVariants.{Depth, Leaf, NoMove, NoCell, NoCorner, NoVoxel, NoDirection, NoTurn, Outside, Strays, TooShort, BadBlock, BadText}

pub refused_numbered : (r : Refusal) → (refused r).number ≡ 0 → ⊥
refused_numbered Depth e = absurd (omega arith)
refused_numbered (Leaf NotProper i k) e = absurd (omega arith)
refused_numbered (Leaf Early i k) e = absurd (omega arith)
refused_numbered (Leaf EightSiblings i k) e = absurd (omega arith)
refused_numbered (NoMove p) e = absurd (omega arith)
refused_numbered NoCell e = absurd (omega arith)
refused_numbered NoCorner e = absurd (omega arith)
refused_numbered NoVoxel e = absurd (omega arith)
refused_numbered NoDirection e = absurd (omega arith)
refused_numbered NoTurn e = absurd (omega arith)
refused_numbered Outside e = absurd (omega arith)
refused_numbered (Strays i k) e = absurd (omega arith)
refused_numbered (TooShort n) e = absurd (omega arith)
refused_numbered (BadBlock i) e = absurd (omega arith)
refused_numbered (BadText i) e = absurd (omega arith)

pub is_success : (r : Result ℕ Refusal) (n : ℕ) → answer_of r ≡ given n → r ≡ Ok n
is_success (Ok m) n e = ap Ok (ap (λ (a : Answer). a.place) e)
is_success (Err x) n e = absurd (refused_numbered x (ap (λ (a : Answer). a.number) e))
