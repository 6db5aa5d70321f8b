-- `below::gather::gather`: the measure is the depth left. The loop's invariant: what is left of the children's turn,
-- gathered after the keys so far, is what this record and all below it give.
use Rattle.std.specs.Prelude.{◌-◌, ◌≡◌}
use Rattle.table.specs.Record.{record_of}
use Rattle.below.specs.Loop.Gather.{gathered}
use Rattle.below.proofs.Gathering
use Rattle.below.proofs.gather.+gather.Given as goal

abbrev pub decreases-gather : goal.decreases-gather
decreases-gather l = l.left

abbrev pub invariant-loop-k : goal.invariant-loop-k
invariant-loop-k l =
    gathered (record_of l.t) l.keys l.at (Gathering.rest_from (record_of l.t) (l.left - 1) l.a l.k)
    ≡ gathered (record_of l.t) l.initial.keys l.initial.at (Gathering.rest_from (record_of l.t) (l.left - 1) l.a 0)
