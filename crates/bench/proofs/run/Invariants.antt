-- `bench::run` is safe. The loop's invariant: so many commands lead from the cleared table and list to these. Assumes
-- nothing.
use Rattle.bench.specs.Program.{Reached}
use Rattle.bench.proofs.run.Given as goal

abbrev pub invariant-loop-done : goal.invariant-loop-done
invariant-loop-done g l = Reached l.done l.bench.table l.bench.list
