-- `taking::take_all` meets its contract. The loop's invariant: the work that is left, from what stands in the rows on,
-- ends where the whole work ends; and each key that waits tells a slot and a bound. Assumes nothing.
use Rattle.std.specs.Prelude.{◌-◌, ◌≡◌}
use Rattle.table.specs.Record.{record_of}
use Rattle.waiting.specs.Front.{finish}
use Rattle.waiting.specs.Rows.{front_of, Known}
use Rattle.taking.proofs.take_all.Given as goal

abbrev pub invariant-loop : goal.invariant-loop
invariant-loop l =
    let begun = l.initial.front in
    record {
      known : Known l.t (front_of l.front).waits;
      same_k : l.front.k ≡ begun.k;
      rest : finish (record_of l.t) l.q.kind l.q.signature.readings begun.k (l.most - l.counter) (front_of l.front)
          ≡ finish (record_of l.t) l.q.kind l.q.signature.readings begun.k l.most (front_of begun);
    }
