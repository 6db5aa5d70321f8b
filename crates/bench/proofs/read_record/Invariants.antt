-- `bench::read_record` meets its contract. The loop's invariant: no more bytes are there than the record has. What is
-- left of it falls, since a turn that reads nothing is the last. Assumes nothing.
use Rattle.std.specs.Prelude.{◌-◌, ◌≤◌, ◌≡◌, length}
use Rattle.bench.proofs.read_record.Given as goal

abbrev pub invariant-loop-have : goal.invariant-loop-have
invariant-loop-have g l = (l.have ≤ length l.input) × (length l.input ≡ length l.initial.input)

abbrev pub decreases-loop-have : goal.decreases-loop-have
decreases-loop-have g l = length l.input - l.have
