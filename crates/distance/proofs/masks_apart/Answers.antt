-- `distance::masks_apart` meets its contract.
-- The loop's invariant: the sum is that of the words passed. Assumes nothing.
use Rattle.std.specs.Prelude.{◌≡◌}
use Rattle.std.proofs.Common.{ap₂, ◌∙◌, arith}
use Rattle.places.specs.Sum.{sum_more}
use Rattle.distance.specs.Mask.{bits_apart, masks_apart}
use Rattle.distance.proofs.masks_apart.Goals as goal

pub loop-k-preserved : goal.loop-k-preserved
loop-k-preserved g c =
    let parts = ap₂ bits_apart c.word.ensures c.word-in-loop-k.ensures in
    (sum_more _ _ _ _ c.loop-k.invariant.0 (c.bits_apart-sum.ensures.0 ∙ parts), omega arith)

pub returns : goal.returns
unfolding masks_apart
returns g c =
    let e : c.loop-k.k ≡ 4 = omega arith in
    (rw e at c.loop-k.invariant.0, omega arith)
