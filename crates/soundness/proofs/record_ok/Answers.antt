-- `soundness::record_ok` meets its contract: a free record passes, and a used one if its climb does. Assumes nothing.
use Rattle.std.proofs.Common.{sym, ◌∙◌, arith}
use Rattle.table.specs.Record.{Used, record_of, slot_told}
use Rattle.table.specs.Table.{records_in}
use Rattle.table.specs.Stands.{Stands, stands_in}
use Rattle.soundness.specs.Climb.{record_free, record_used}
use Rattle.soundness.specs.HoldsCard.{parent_if_any}
use Rattle.soundness.proofs.record_ok.Goals.{Start}
use Rattle.soundness.proofs.record_ok.Goals as goal

-- the record stands
here : (b : Start) → Stands b.args.t.now b.args.x
here b = stands_in b.args.t.now b.args.x b.requires.1

pub card_of-requires : goal.card_of-requires
card_of-requires c = here (goal.at.card_of-requires c).Start

pub kind_of-requires : goal.kind_of-requires
kind_of-requires c = here (goal.at.kind_of-requires c).Start

pub signature_of-requires : goal.signature_of-requires
signature_of-requires c = here (goal.at.signature_of-requires c).Start

pub timestamp_of-requires : goal.timestamp_of-requires
timestamp_of-requires c = here (goal.at.timestamp_of-requires c).Start

pub parent_of-requires : goal.parent_of-requires
parent_of-requires c = here (goal.at.parent_of-requires c).Start

pub climb_ok-requires : goal.climb_ok-requires
climb_ok-requires c =
    let used : Used (record_of c.args.t.now c.args.x) = omega (arith, c.card_of.ensures, c.if-card_of-eq0.false) in (
      c.requires.0,
      parent_if_any c.args.t.now c.args.x c.parent_of.result c.requires.0 (c.requires.1, used) c.parent_of.ensures,
    )

pub returns-then-card_of-eq0 : goal.returns-then-card_of-eq0
returns-then-card_of-eq0 c =
    let a = c.args in
    let none = sym c.card_of.ensures ∙ c.if-card_of-eq0.true in
    sym (record_free (records_in a.t.now) (record_of a.t.now) a.x none)

pub returns-else-card_of-eq0 : goal.returns-else-card_of-eq0
returns-else-card_of-eq0 c =
    let a = c.args in
    c.climb_ok.ensures
    ∙ record_used (records_in a.t.now) (record_of a.t.now) a.x
    c.kind_of.result
    c.signature_of.result.readings
    c.timestamp_of.result
    (slot_told c.parent_of.result)
    (λ e. c.if-card_of-eq0.false (c.card_of.ensures ∙ e))
    c.kind_of.ensures
    c.signature_of.ensures
    c.timestamp_of.ensures
    c.parent_of.ensures.0
