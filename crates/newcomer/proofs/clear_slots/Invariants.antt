-- `newcomer::clear_slots` meets its contract. The loop's invariant: the first i child slots are 65,535, and nothing
-- else has changed. Assumes nothing.
use Rattle.table.specs.Record.{record_of}
use Rattle.writing.specs.Laws.{Became}
use Rattle.newcomer.proofs.Writes.{with_slots, cleared}
use Rattle.newcomer.proofs.clear_slots.Given as goal

abbrev pub invariant-loop-i : goal.invariant-loop-i
invariant-loop-i l =
    let r = record_of l.initial.t l.s in
    Became l.initial.t l.s (with_slots r (cleared l.i r.slots)) l.t
