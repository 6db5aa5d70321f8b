-- `removal::close_up` meets its contract. The loop's invariant: of the first k child slots those that stay stand first,
-- w of them, and nothing else has changed. Assumes nothing.
use Rattle.std.specs.Prelude.{◌≡◌}
use Rattle.removal.specs.Loop.Closed.{ClosedTo, kept_of}
use Rattle.removal.proofs.close_up.Given as goal

abbrev pub invariant-loop-k : goal.invariant-loop-k
invariant-loop-k l =
    (l.w ≡ kept_of l.initial.t l.p l.v l.k)
    × ClosedTo l.initial.t l.p l.v l.k l.t
