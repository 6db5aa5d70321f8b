-- `distance::apart` meets its contract: the branch picks the distance that the kind names. Assumes nothing.
use Rattle.std.proofs.Common.{eq-eqb, ne_eqb, arith}
use Rattle.distance.specs.Kind.{apart}
use Rattle.distance.proofs.apart.Goals as goal

pub returns-then-kind-eq1 : goal.returns-then-kind-eq1
unfolding apart
returns-then-kind-eq1 g c = rw (eq-eqb _ _ c.if-kind-eq1.true) c.readings_apart.ensures

pub returns-else-kind-eq1 : goal.returns-else-kind-eq1
unfolding apart
returns-else-kind-eq1 g c =
    let masks = c.masks_apart.ensures in
    rw (ne_eqb _ _ c.if-kind-eq1.false) (masks.0, omega (arith, masks.1))
