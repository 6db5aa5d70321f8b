-- `below::clock::mark` meets its contract. The loop's invariant: the slots in the keys so far are marked, so that
-- marking those in the others leads to the end. Assumes nothing.
use Rattle.std.specs.Prelude.{◌≡◌, drop}
use Rattle.below.specs.Loop.Clock.{marked}
use Rattle.below.proofs.clock.mark.Given as goal

abbrev pub invariant-loop-key : goal.invariant-loop-key
invariant-loop-key l = marked (drop l.key-index l.keys) l.marks ≡ marked l.keys l.initial.marks
