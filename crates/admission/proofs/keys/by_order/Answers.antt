-- `admission::keys::by_order` meets its contract. The loop's invariant: the first s places hold the keys of the records
-- before s, as the calls gave them. Assumes nothing.
use Rattle.std.proofs.Common.{◌∙◌, arith}
use Rattle.admission.specs.Key.{gathered}
use Rattle.admission.proofs.keys.by_order.Goals as goal

pub returns : goal.returns
returns g c = λ key told.
    let l = c.loop-s in
    c.by_order.ensures
    ∙ gathered c.args.n l.keys key (omega arith) (λ k b. told k _ b (l.invariant.1 k (omega arith)))
