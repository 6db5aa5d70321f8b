-- `steps::Asked::distances` meets its contract. The loop's invariant: the distances of the children passed stand in
-- their places. Assumes nothing.
use Rattle.std.specs.Prelude.{◌≡◌, length}
use Rattle.refusals.specs.Limits.{most_children}
use Rattle.table.specs.Record.{record_of}
use Rattle.steps.specs.Loop.Children.{Compared}
use Rattle.steps.proofs.Asked.distances.Given as goal

abbrev pub invariant-loop-k : goal.invariant-loop-k
invariant-loop-k l =
    let q = l.self.query in
    record {
      room : length l.ds ≡ most_children;
      first : Compared (record_of l.t) q.kind q.signature.readings l.s l.k l.ds;
    }
