-- `descent::descend` meets its contract. The loop's invariant is `Walking`, what is left of the walk. Assumes nothing.
use Rattle.std.proofs.Common.{arith}
use Rattle.descent.proofs.Descending.{still_here, raised_walkable, few, walk_on, walk_leaf, walk_ends}
use Rattle.descent.proofs.descend.Goals as goal

pub nearest_child-requires : goal.nearest_child-requires
nearest_child-requires c =
    let w = c.loop-next.invariant in
    (raised_walkable w c.raise.ensures, still_here w c.raise.ensures)

pub loop-next-preserved : goal.loop-next-preserved
loop-next-preserved c =
    walk_on c.loop-next.invariant c.raise.ensures c.children_of-n.ensures c.nearest_child.ensures c.in-Some.is
    c.if-left-here.false

pub returns-in_default : goal.returns-in_default
returns-in_default c =
    let w = c.loop-next.invariant in (
      walk_leaf w c.raise.ensures c.children_of-n.ensures c.nearest_child.ensures c.in_default.is,
      omega (arith, w.small, w.some, few w c.raise.ensures, c.children_of-n.ensures),
    )

pub returns-then-left-here : goal.returns-then-left-here
returns-then-left-here c =
    let w = c.loop-next.invariant in (
      walk_ends w c.raise.ensures c.children_of-n.ensures c.nearest_child.ensures c.in-Some.is c.if-left-here.true,
      omega (arith, w.small, w.some, few w c.raise.ensures, c.children_of-n.ensures),
    )
