-- `inventory::one::card` meets its contract: the table is refused, the card is 0 or not stored, or the call goes as it
-- does with the card's record. Assumes nothing.
use Rattle.std.specs.Prelude.{ℕ, ◌≤◌, ◌<◌, ◌≡◌}
use Rattle.std.proofs.Common.{sym, ap, ◌∙◌, arith}
use Rattle.refusals.specs.Refusal.{first_of, done}
use Rattle.refusals.specs.Told.{number_of, number_some, passed_on}
use Rattle.table.specs.Record.{record_of}
use Rattle.table.specs.Table.{records_in}
use Rattle.table.specs.Stands.{stand_all, stands_in}
use Rattle.survey.specs.Survey.{slot_of_card}
use Rattle.survey.specs.Answers.{tells_some, tells_none}
use Rattle.admission.specs.Admission.{admission_tests}
use Rattle.inventory.specs.Tests.{telling_at, card_lent, card_none, card_absent, card_present}
use Rattle.inventory.proofs.one.card.Goals.{In_ok-admit}
use Rattle.inventory.proofs.one.card.Goals as goal

admitted : (c : In_ok-admit) → first_of (admission_tests c.args.t.now) ≡ done
admitted c = sym c.in_ok-admit.ensures.refusal_is

pub returns-in_err-admit : goal.returns-in_err-admit
returns-in_err-admit c =
    let a = c.args in
    let why = c.in_err-admit.field-0.0 in
    rw (passed_on {why = why} c.from_residual.ensures.1)
    (card_lent a.t.now a.card a.row.now (number_of why) c.in_err-admit.ensures.refusal_is (number_some why))

pub returns-then-card-eq0 : goal.returns-then-card-eq0
returns-then-card-eq0 c =
    let a = c.args in
    card_none a.t.now a.card a.row.now (admitted (goal.at.returns-then-card-eq0 c).In_ok-admit) c.if-card-eq0.true

pub slot_of_card-requires : goal.slot_of_card-requires
slot_of_card-requires c = stand_all c.args.t.now

pub returns-in_default : goal.returns-in_default
returns-in_default c =
    let a = c.args in
    let absent : records_in a.t.now ≤ slot_of_card (records_in a.t.now) (record_of a.t.now) a.card =
    omega (arith, tells_none c.slot_of_card.ensures c.in_default.is) in
    card_absent a.t.now a.card a.row.now (admitted (goal.at.returns-in_default c).In_ok-admit)
    c.if-card-eq0.false absent

pub tell-requires : goal.tell-requires
tell-requires c =
    stands_in c.args.t.now c.in-Some.s (tells_some c.in-Some.s c.slot_of_card.ensures c.in-Some.is).1

pub returns : goal.returns
returns c =
    let a = c.args in
    let found = tells_some c.in-Some.s c.slot_of_card.ensures c.in-Some.is in
    let inside : slot_of_card (records_in a.t.now) (record_of a.t.now) a.card < records_in a.t.now =
    omega (arith, found) in
    c.tell.ensures
    ∙ ap (λ (s : ℕ). telling_at (record_of a.t.now s) a.row.now) found.0
    ∙ card_present a.t.now a.card a.row.now (admitted (goal.at.returns c).In_ok-admit)
    c.if-card-eq0.false inside
