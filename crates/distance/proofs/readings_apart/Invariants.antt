-- `distance::readings_apart` meets its contract.
-- The loop's invariant: the sum is that of the differences passed. Assumes nothing.
use Rattle.std.specs.Prelude.{◌≤◌, ◌*◌, ◌≡◌}
use Rattle.places.specs.Sum.{sum_to}
use Rattle.distance.specs.Readings.{reading_gap}
use Rattle.distance.proofs.readings_apart.Given as goal

abbrev pub invariant-loop-i : goal.invariant-loop-i
invariant-loop-i g l =
    let readings = g.S.Readings.readings in
    (l.sum ≡ sum_to l.i (reading_gap (readings l.a) (readings l.b))) × (l.sum ≤ 65535 * l.i)
