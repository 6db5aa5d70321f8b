-- `soundness::climb_ok` meets its contract. The loop keeps one equation: the climb from b with the levels left says
-- what the whole climb says; and b is the slot of a card, or no slot. Assumes nothing.
use Rattle.std.specs.Prelude.{◌≡◌, ◌-◌}
use Rattle.table.specs.Record.{record_of, slot_told}
use Rattle.soundness.specs.HoldsCard.{CardIfAny}
use Rattle.soundness.specs.Climb.{climb}
use Rattle.soundness.proofs.climb_ok.Given as goal

abbrev pub invariant-loop : goal.invariant-loop
invariant-loop l =
    CardIfAny l.t l.b
    × (climb (record_of l.t) l.x.query.kind l.x.query.signature.readings l.x.timestamp (l.levels - l.counter)
    (slot_told l.b)
    ≡ climb (record_of l.t) l.x.query.kind l.x.query.signature.readings l.x.timestamp l.levels (slot_told l.fn.from))
