-- `cells::inner::first` meets its contract: a code times its span is its start, counted from the root's voxels on. Assumes nothing.
use Rattle.std.proofs.Common.{◌≡◌, ℕ, ◌+◌, ◌*◌, ◌^◌, ap, ◌∙◌, arith, rules}
use Rattle.cells.specs.Cell.{start}
use Rattle.cells.proofs.Cells.{interval, within}
use Rattle.cells.proofs.Words.{codes_fit}
use Rattle.cells.proofs.inner.first.Statement.{statement}
use Rattle.cells.proofs.inner.first.Tie as tie

-- the product
product : (c : tie.After-width) → c.before.args.code * c.width.result ≡ 8 ^ c.before.args.depth + start c.before.args.depth c.before.args.code
product c = let start = c.before in ap (λ (w : ℕ). start.args.code * w) c.width.ensures ∙ interval start.args.depth start.args.code start.requires.1

mul_result : tie.Need-overflow_mul-result
mul_result c =
    let start = c.before in
    omega (arith, product c, within start.args.depth start.args.code start.requires.1, codes_fit start.args.depth start.requires.0)

pub first_spec : {M : Type 1} → statement M
first_spec = tie.close (tie.spec (λ c κs. search rules) mul_result (λ c κs. search rules) (λ c. omega (arith, product c.before, c.pow8.ensures)) (λ c. omega (arith, product c.before, c.pow8.ensures)))
