-- `links::Seen::with_used` meets its contract: a child count is a byte. Assumes nothing.
use Rattle.std.proofs.Common.{arith}
use Rattle.table.specs.Fitting.{record_fits}
use Rattle.links.proofs.Seen.with_used.Goals as goal

pub overflow_add-result : goal.overflow_add-result
overflow_add-result c =
    let known = c.type_inv.t in
    let byte = (record_fits c.args.t.now c.args.s (λ i. omega (arith, known i))).count in
    omega (arith, byte, c.requires.few)
