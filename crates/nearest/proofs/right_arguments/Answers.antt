-- `nearest::right_arguments` meets its contract: its tests are the definition's. Assumes nothing.
use Rattle.std.specs.Prelude.{◌&&◌, leb}
use Rattle.refusals.specs.Limits.{most_nearest}
use Rattle.nearest.proofs.right_arguments.Goals as goal

pub returns : goal.returns
returns c =
    let k = c.args.k in λ i. c.known_query.ensures i && (leb 1 k && leb k most_nearest)
