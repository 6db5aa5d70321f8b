-- `distance::masks_apart` meets its contract.
-- The loop's invariant: the sum is that of the words passed. Assumes nothing.
use Rattle.std.specs.Prelude.{◌≤◌, ◌*◌, ◌≡◌}
use Rattle.places.specs.Sum.{sum_to}
use Rattle.distance.specs.Mask.{word_gap}
use Rattle.distance.proofs.masks_apart.Given as goal

abbrev pub invariant-loop-k : goal.invariant-loop-k
invariant-loop-k g l =
    let readings = g.S.Readings.readings in
    (l.sum ≡ sum_to l.k (word_gap (readings l.a) (readings l.b))) × (l.sum ≤ 64 * l.k)
