-- `links::links` meets its contract. The loop's invariant: it has seen the records before s. Assumes nothing.
use Rattle.table.specs.Record.{record_of}
use Rattle.links.specs.Loop.Turn.{seen_none}
use Rattle.links.proofs.links.Goals as goal

pub loop-s-init : goal.loop-s-init
loop-s-init c = seen_none c.args.n (record_of c.args.t.now)
