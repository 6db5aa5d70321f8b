-- `distinct::start` meets its contract: the code is the definition. Assumes nothing.
use Rattle.std.proofs.Common.{rules}
use Rattle.distinct.specs.Seat.{start_of}
use Rattle.distinct.proofs.start.Goals as goal

pub returns : goal.returns
unfolding start_of
returns c = search rules
