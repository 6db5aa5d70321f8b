-- `soundness::all_ok` meets its contract. The loop keeps that the first x records pass; one that does not is the answer
-- no. Assumes nothing.
use Rattle.std.specs.Prelude.{◌≡◌, true}
use Rattle.places.specs.Test.{all_to}
use Rattle.table.specs.Record.{record_of}
use Rattle.table.specs.Table.{records_in}
use Rattle.soundness.specs.Climb.{record_passes}
use Rattle.soundness.proofs.all_ok.Given as goal

abbrev pub invariant-loop-x : goal.invariant-loop-x
invariant-loop-x l =
    (l.n ≡ records_in l.t)
    × (true ≡ all_to l.x (record_passes (records_in l.t) (record_of l.t)))
