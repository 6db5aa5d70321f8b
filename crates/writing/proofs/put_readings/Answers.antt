-- `writing::put_readings` meets its contract. The loop's invariant: the first k readings are written. Assumes nothing.
use Rattle.std.specs.Prelude.{refl}
use Rattle.std.proofs.Common.{◌∙◌}
use Rattle.writing.specs.Put.{put_readings}
use Rattle.writing.specs.Run.{readings_more}
use Rattle.writing.proofs.put_readings.Goals as goal

pub loop-k-init : goal.loop-k-init
unfolding put_readings
loop-k-init c = refl

pub loop-k-preserved : goal.loop-k-preserved
loop-k-preserved c =
    let l = c.loop-k in
    let a = c.args in
    c.put.ensures ∙ readings_more a.l.now a.at a.v.readings l.k l.l _ l.invariant refl
