-- `distance::signature_at` meets its contract.
-- The loop's invariant: the first k readings are those of the bytes. Assumes nothing.
use Rattle.std.proofs.Common.{sym, ◌∙◌, arith}
use Rattle.places.specs.Fill.{filled_more, filled_all}
use Rattle.distance.specs.Signature.{readings_at, readings_length, reading_at}
use borrow.Author.Rules.{rules}
use Rattle.distance.proofs.signature_at.Goals as goal

pub loop-k-preserved : goal.loop-k-preserved
loop-k-preserved c =
    let l = c.loop-k in
    let a = c.args in
    let reading = c.get.ensures ∙ sym (reading_at a.t.now a.at l.k (omega arith)) in
    let more = filled_more (readings_at a.t.now a.at) l.readings l.k c.get.result (search rules)
    l.invariant.1 reading in
    (search rules, more)

pub returns : goal.returns
returns c =
    let l = c.loop-k in
    let a = c.args in
    filled_all
    (readings_at a.t.now a.at)
    l.readings
    16
    l.invariant.0
    (readings_length a.t.now a.at)
    (λ j b. l.invariant.1 j (omega arith))
