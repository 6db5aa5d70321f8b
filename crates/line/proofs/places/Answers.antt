-- `line::places` meets its contract: the powers of ten that a number lies between tell how many digits it has. Assumes
-- nothing.
use Rattle.std.proofs.Common.{arith}
use Rattle.line.specs.Decimal.{digits_counted, few_digits_64}
use Rattle.line.proofs.places.Goals as goal

pub returns : goal.returns
returns c =
    let counted = digits_counted c.ilog10.result c.args.n (omega arith) (omega arith) in
    (omega (arith, counted), omega (arith, counted, few_digits_64 c.args.n c.ranges.n.fits))
