-- `descent::descend` meets its contract. The loop's invariant is `Walking`, what is left of the walk. Assumes nothing.
use Rattle.descent.proofs.Descending.{Walking}
use Rattle.descent.proofs.descend.Given as goal

abbrev pub invariant-loop-next : goal.invariant-loop-next
invariant-loop-next l =
    let tree = l.fn.tree in
    let here = l.here in
    Walking l.initial.t tree.kind l.fn.x.readings tree.arity tree.root tree.depth l.t here.slot here.away l.left l.count

abbrev pub decreases-loop-next : goal.decreases-loop-next
decreases-loop-next l = l.left
