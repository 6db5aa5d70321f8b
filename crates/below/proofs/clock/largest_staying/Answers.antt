-- `below::clock::largest_staying` meets its contract. The loop's invariant: it is the largest of the first s. Assumes
-- nothing.
use Rattle.std.specs.Prelude.{max}
use Rattle.std.proofs.Common.{sym, ap₂, ◌∙◌, arith}
use Rattle.table.specs.Record.{record_of}
use Rattle.table.specs.Stands.{stands_below}
use Rattle.below.specs.Loop.Clock.{unmarked, largest_more, largest_none}
use Rattle.below.proofs.clock.largest_staying.Goals as goal

pub loop-s-init : goal.loop-s-init
loop-s-init c = sym (largest_none _)

pub staying_timestamp-requires : goal.staying_timestamp-requires
staying_timestamp-requires c =
    (stands_below c.args.t.now c.args.n c.loop-s.s c.requires.0 c.loop-s-test.true, omega arith)

pub loop-s-preserved : goal.loop-s-preserved
loop-s-preserved c =
    let l = c.loop-s in
    let a = c.args in
    c.max-largest.ensures
    ∙ ap₂ max c.staying_timestamp.ensures l.invariant
    ∙ sym (largest_more l.s (unmarked a.marks.now (record_of a.t.now)))
