-- `number::get` meets its contract: the bytes that are taken out make the number that stands there. Assumes nothing.
use Rattle.std.proofs.Common.{◌∙◌, arith}
use Rattle.number.specs.Frame.{number_copied}
use Rattle.number.proofs.get.Goals as goal

pub returns : goal.returns
returns g c =
    c.from_bytes.ensures
    ∙ number_copied g.row.N _ _ c.args.t.now c.args.at (omega arith) c.copy_from_slice.ensures.after
