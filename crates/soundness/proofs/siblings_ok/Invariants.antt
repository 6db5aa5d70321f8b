-- `soundness::siblings_ok` meets its contract. The loop keeps that the first i children pass; one that does not is the
-- answer no. Assumes nothing.
use Rattle.std.specs.Prelude.{◌≡◌, true}
use Rattle.places.specs.Test.{all_to}
use Rattle.table.specs.Record.{record_of, slot}
use Rattle.soundness.specs.Climb.{sibling_passes}
use Rattle.soundness.proofs.siblings_ok.Given as goal

abbrev pub invariant-loop-i : goal.invariant-loop-i
invariant-loop-i l =
    (l.count ≡ (record_of l.t l.p).count)
    × (true
    ≡ all_to l.i (λ k.
    sibling_passes (record_of l.t) l.x.query.kind l.x.query.signature.readings l.x.timestamp l.b
    (slot (record_of l.t l.p) k)))
