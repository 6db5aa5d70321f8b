-- What a call that places leaves, of the records and the count that the rule gives.
use Rattle.table.specs.Table.{bytes_of}
use Rattle.refusals.specs.Refusal.{done}
use Rattle.refusals.specs.Outcome.{Outcome}
use Rattle.placing.specs.Place.{Placed}

-- done: the records and the distance count are as the rule has them
unfoldable pub changed : Placed → Outcome
changed p = record { refusal = done; count = p.count; table = bytes_of p.rows }
