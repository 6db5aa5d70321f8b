-- `below::clock::largest_staying` meets its contract. The loop's invariant: it is the largest of the first s. Assumes
-- nothing.
use Rattle.std.specs.Prelude.{◌≡◌}
use Rattle.table.specs.Record.{record_of}
use Rattle.survey.specs.Survey.{largest_timestamp}
use Rattle.below.specs.Loop.Clock.{unmarked}
use Rattle.below.proofs.clock.largest_staying.Given as goal

abbrev pub invariant-loop-s : goal.invariant-loop-s
invariant-loop-s l = l.largest ≡ largest_timestamp l.s (unmarked l.marks (record_of l.t))
