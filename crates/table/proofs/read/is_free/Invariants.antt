-- `table::is_free` meets its contract. The loop's invariant: the first k words are zero. Assumes nothing.
use Rattle.table.specs.Record.{place_of}
use Rattle.table.specs.Fields.{ZeroWords}
use Rattle.table.proofs.read.is_free.Given as goal

abbrev pub invariant-loop-k : goal.invariant-loop-k
invariant-loop-k l = ZeroWords l.t (place_of l.s) l.k
