-- `newcomer::adopt` meets its contract: the child slot after the last is written, and the count is one more.
-- Assumes nothing.
use Rattle.std.specs.Prelude.{ℕ, ◌+◌, ◌<◌}
use Rattle.std.proofs.Common.{ap, arith}
use Rattle.refusals.specs.Limits.{most_children}
use Rattle.table.specs.Record.{record_of}
use Rattle.writing.specs.Put.{with_slot, with_count}
use Rattle.writing.specs.Laws.{Became, put_slot_lem, put_count_lem, became_by}
use Rattle.newcomer.proofs.Writes.{wrote_then, adopting_is}
use Rattle.newcomer.proofs.adopt.Goals.{After-put_slot}
use Rattle.newcomer.proofs.adopt.Goals as goal

child_put : (c : After-put_slot) →
    Became c.args.t.now c.args.a (with_slot (record_of c.args.t.now c.args.a) c.count_of-n.result c.args.s)
    c.put_slot.new.t
child_put c = let n = c.from.result in
    let small : n < most_children = omega (arith, c.requires.2, c.count_of-n.ensures, c.from.ensures) in
    became_by
    (put_slot_lem c.args.t.now c.args.a c.requires.0 n c.args.s small (omega (arith, c.requires.1)))
    (ap (λ (k : ℕ). with_slot (record_of c.args.t.now c.args.a) k c.args.s) c.from.ensures)
    c.put_slot.ensures

pub returns : goal.returns
returns c =
    let n = c.count_of-n.result in
    let small : n < most_children = omega (arith, c.requires.2, c.count_of-n.ensures) in
    became_by
    (wrote_then (λ r. with_count r (n + 1)) (child_put (goal.at.returns c).After-put_slot) c.requires.0
    (λ h. put_count_lem c.put_slot.new.t c.args.a h (n + 1) (omega (arith, small))))
    (adopting_is (record_of c.args.t.now c.args.a) n c.args.s c.count_of-n.ensures)
    c.put_count.ensures
