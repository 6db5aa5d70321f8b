-- `links::links` meets its contract. The loop's invariant: it has seen the records before s. Assumes nothing.
use Rattle.table.specs.Record.{record_of}
use Rattle.links.specs.Loop.Seen.{SeenBefore}
use Rattle.links.proofs.links.Given as goal

abbrev pub invariant-loop-s : goal.invariant-loop-s
invariant-loop-s l = SeenBefore l.n (record_of l.t) l.s l.seen
