-- `links::children_ok` meets its contract. The loop's invariant: the i children passed are linked to s, and
-- `before` is the last one's timestamp, at first the record's own. Assumes nothing.
use Rattle.table.specs.Record.{record_of}
use Rattle.links.specs.Loop.Children.{LinkedTo}
use Rattle.links.proofs.children_ok.Given as goal

abbrev pub invariant-loop-i : goal.invariant-loop-i
invariant-loop-i l = LinkedTo l.n (record_of l.t) l.s l.i l.before
