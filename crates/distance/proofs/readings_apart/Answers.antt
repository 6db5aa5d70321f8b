-- `distance::readings_apart` meets its contract.
-- The loop's invariant: the sum is that of the differences passed. Assumes nothing.
use Rattle.std.specs.Prelude.{◌≡◌}
use Rattle.std.proofs.Common.{ap₂, ◌∙◌, arith}
use Rattle.places.specs.Sum.{sum_more}
use Rattle.distance.specs.Readings.{gap, readings_apart}
use Rattle.distance.proofs.readings_apart.Goals as goal

pub loop-i-preserved : goal.loop-i-preserved
loop-i-preserved g c =
    let parts = ap₂ gap c.reading.ensures c.reading-in-loop-i.ensures in
    (sum_more _ _ _ _ c.loop-i.invariant.0 (c.reading_gap-sum.ensures.0 ∙ parts), omega arith)

pub returns : goal.returns
unfolding readings_apart
returns g c =
    let e : c.loop-i.i ≡ 16 = omega arith in
    (rw e at c.loop-i.invariant.0, omega arith)
