-- `line::row_places` meets its contract: a row is as long as its numbers are, each with its space. Assumes nothing.
use Rattle.std.specs.Prelude.{ℕ, ◌+◌, ◌≤◌, ◌*◌, ◌≡◌, length, sum, map}
use Rattle.std.proofs.Common.{◌∙◌, arith, rules}
use Rattle.line.specs.Line.{decimal, row_of}
use Rattle.line.specs.Fits.{row_fits}
use Rattle.line.specs.Laws.{row_sum}
use Rattle.line.proofs.row_places.Goals as goal

pub returns : goal.returns
returns c =
    let ns = c.args.numbers.now in
    let whole : c.sum.result ≡ sum (map (λ (n : ℕ). 1 + length (decimal n)) ns) = search rules in
    let few : length (row_of ns) ≤ 11 * length ns = row_fits ns (λ i. omega (arith, c.type_inv.numbers i)) in
    let known = whole ∙ row_sum ns in
    (known, omega (arith, few, known))
