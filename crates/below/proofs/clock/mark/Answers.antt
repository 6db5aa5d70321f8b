-- `below::clock::mark` meets its contract. The loop's invariant: the slots in the keys so far are marked, so that
-- marking those in the others leads to the end. Assumes nothing.
use Rattle.std.proofs.Common.{sym, ◌∙◌, arith}
use Rattle.below.specs.Loop.Clock.{marked_more, marked_end}
use Rattle.below.proofs.clock.mark.Goals as goal

pub loop-key-preserved : goal.loop-key-preserved
loop-key-preserved c =
    let l = c.loop-key in
    rw c.slot_of_key.ensures (marked_more c.args.keys.now l.marks l.key-index c.loop-key-test.true ∙ l.invariant)

pub returns : goal.returns
returns c =
    let l = c.loop-key in
    sym (marked_end c.args.keys.now l.marks l.key-index (omega arith)) ∙ l.invariant
