-- `bench::run`: no command leads to the cleared table and list. Assumes nothing.
use Rattle.std.specs.Prelude.{refl}
use Rattle.bench.specs.Laws.{starts}
use Rattle.bench.proofs.run.Goals as goal

pub loop-done-init : goal.loop-done-init
loop-done-init g c = starts refl refl refl
