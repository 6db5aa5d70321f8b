-- `writing::put_readings` meets its contract. The loop's invariant: the first k readings are written. Assumes nothing.
use Rattle.std.specs.Prelude.{◌≡◌}
use Rattle.writing.specs.Put.{put_readings}
use Rattle.writing.proofs.put_readings.Given as goal

abbrev pub invariant-loop-k : goal.invariant-loop-k
invariant-loop-k l = l.l ≡ put_readings l.k l.initial.l l.at l.fn.v.readings
