-- `walk::walk`: the falling number is the depth left. The loop keeps that what is left of the children's turn, entered
-- after the list, the cards found and the count so far, is what the contract says that the walk leaves; and `near` is
-- the smallest distance of the children passed.
use Rattle.std.proofs.Common.{◌-◌, ◌≡◌}
use Rattle.steps.specs.Step.{asked_of}
use Rattle.steps.specs.Loop.Children.{nearest_to, rest_from}
use Rattle.walk.specs.State.{state_of, after, walked}
use Rattle.walk.proofs.+walk.Given as goal

abbrev pub decreases-walk : goal.decreases-walk
decreases-walk l = l.left

abbrev pub invariant-loop-k : goal.invariant-loop-k
invariant-loop-k l =
    let Q = asked_of l.t l.asked in
    let v = l.visit in
    record {
      turn : after Q (state_of l.list l.reached) (rest_from Q (l.left - 1) v.slot v.bound l.k)
          ≡ walked Q l.left v.slot v.bound (state_of l.fn.list l.fn.start);
      nearest : l.near ≡ nearest_to Q v.slot l.k;
    }
