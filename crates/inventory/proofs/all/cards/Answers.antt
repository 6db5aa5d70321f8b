-- `inventory::all::cards` meets its contract: the table is refused, the list is too short, or all cards are listed.
-- Assumes nothing.
use Rattle.std.specs.Prelude.{◌≡◌}
use Rattle.std.proofs.Common.{sym, arith}
use Rattle.refusals.specs.Refusal.{first_of, done}
use Rattle.refusals.specs.Told.{number_of, number_some, passed_on}
use Rattle.table.specs.Record.{record_of}
use Rattle.table.specs.Table.{records_in}
use Rattle.table.specs.Stands.{right_most}
use Rattle.survey.specs.Answers.{Answers}
use Rattle.survey.specs.Laws.{used_in_most}
use Rattle.admission.specs.Admission.{admission_tests, admitted_readable}
use Rattle.inventory.specs.Tests.{cards_lent, cards_short, cards_done}
use Rattle.inventory.proofs.all.cards.Goals.{In_ok-there}
use Rattle.inventory.proofs.all.cards.Goals as goal

admitted : (c : In_ok-there) → first_of (admission_tests c.args.t.now) ≡ done
admitted c = sym c.in_ok-there.ensures.refusal_is

answers : (c : In_ok-there) → let l = c.args.t.now in Answers (records_in l) (record_of l) c.in_ok-there.there
answers c = c.in_ok-there.ensures.answers

pub returns-in_err-there : goal.returns-in_err-there
returns-in_err-there c =
    let a = c.args in
    let why = c.in_err-there.field-0.0 in
    rw (passed_on {why = why} c.from_residual.ensures.1)
    (cards_lent a.t.now a.list.now (number_of why) c.in_err-there.ensures.refusal_is (number_some why))

pub returns-then-list-there : goal.returns-then-list-there
returns-then-list-there c =
    let a = c.args in
    let h = (goal.at.returns-then-list-there c).In_ok-there in
    cards_short a.t.now a.list.now (admitted h) (omega (arith, c.if-list-there.true, (answers h).used))

pub list_cards-requires : goal.list_cards-requires
list_cards-requires c =
    ((answers (goal.at.list_cards-requires c).In_ok-there).used, omega (arith, c.if-list-there.false))

pub overflow_cast-result : goal.overflow_cast-result
overflow_cast-result c =
    let l = c.args.t.now in
    let h = (goal.at.overflow_cast-result c).In_ok-there in
    let few = right_most l (admitted_readable l (admitted h)).size in
    omega (arith, (answers h).used, used_in_most (records_in l) (record_of l), few)

pub returns : goal.returns
returns c =
    let a = c.args in
    let h = (goal.at.returns c).In_ok-there in
    cards_done a.t.now a.list.now (admitted h) _
    (answers h).used (omega (arith, c.if-list-there.false)) _
    c.list_cards.ensures
