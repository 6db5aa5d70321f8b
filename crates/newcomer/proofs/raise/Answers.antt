-- `newcomer::raise` meets its contract: the larger of the radius and the distance is written. Assumes nothing.
use Rattle.std.proofs.Common.{rules}
use Rattle.newcomer.proofs.Writes.{raised_by}
use Rattle.newcomer.proofs.raise.Goals as goal

pub returns : goal.returns
returns c = raised_by _ _ _ _ _ c.put_radius.ensures c.requires (search rules) (search rules)
