-- `taking::meet_children` meets its contract. The loop's invariant: the children from j on, compared after what stands
-- in the rows, leave what all children leave. Assumes nothing.
use Rattle.std.specs.Prelude.{◌+◌, ◌≡◌}
use Rattle.table.specs.Record.{record_of}
use Rattle.waiting.specs.Front.{meet_children}
use Rattle.waiting.specs.Rows.{front_of}
use Rattle.waiting.specs.Going.{meet_from}
use Rattle.taking.proofs.meet_children.Given as goal

abbrev pub invariant-loop-j : goal.invariant-loop-j
invariant-loop-j l =
    let begun = l.initial.front in
    record {
      counted : l.front.count ≡ begun.count + l.j;
      same_k : l.front.k ≡ begun.k;
      rest : meet_from (record_of l.t) l.q.kind l.q.signature.readings begun.k l.s l.p l.near l.j (front_of l.front)
          ≡ meet_children (record_of l.t) l.q.kind l.q.signature.readings begun.k l.s l.p (front_of begun);
    }
