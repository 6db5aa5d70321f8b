-- `probe::probe_slot_of` meets its contract: card 0 is stored nowhere, and any other card is looked for in an admitted
-- table. Assumes nothing.
use Rattle.std.specs.Prelude.{◌≡◌, true, length}
use Rattle.std.proofs.Common.{sym, ◌∙◌, eq-eqb, ne_eqb, arith}
use Rattle.refusals.specs.Refusal.{done}
use Rattle.refusals.specs.Told.{number_some}
use Rattle.table.specs.Record.{record_of}
use Rattle.table.specs.Table.{right_size, records_in}
use Rattle.table.specs.Stands.{right_most, stand_all}
use Rattle.survey.specs.Laws.{slot_at_most}
use Rattle.admission.specs.Admission.{admitted, not_admitted}
use Rattle.probe.specs.Probe.{judge_probe, slot_question}
use Rattle.probe.specs.Tells.{judged_size, asked_yes, asked_no}
use Rattle.probe.proofs.probe_slot_of.Goals.{In-Ok}
use Rattle.probe.proofs.probe_slot_of.Goals as goal

-- the table was admitted where it is asked
judged : (c : In-Ok) → judge_probe c.args.t.now ≡ done
unfolding judge_probe
judged c = admitted c.admit.ensures c.in-Ok.is

size : (c : In-Ok) → right_size (length c.args.t.now) ≡ true
size c = judged_size c.args.t.now (judged c)

pub overflow_cast-result : goal.overflow_cast-result
overflow_cast-result c =
    omega (arith, right_most c.args.t.now (size (goal.at.overflow_cast-result c).In-Ok))

pub returns-then-card-eq0 : goal.returns-then-card-eq0
unfolding slot_question
returns-then-card-eq0 c =
    let a = c.args in
    sym (asked_yes a.t.now (slot_question a.card) (judged (goal.at.returns-then-card-eq0 c).In-Ok)
    ∙ rw (eq-eqb _ _ c.if-card-eq0.true))

pub slot_of_card-requires : goal.slot_of_card-requires
slot_of_card-requires c = stand_all c.args.t.now

pub overflow_cast-result-in-Ok : goal.overflow_cast-result-in-Ok
overflow_cast-result-in-Ok c =
    let l = c.args.t.now in
    omega (
      arith,
      right_most l (size (goal.at.overflow_cast-result-in-Ok c).In-Ok),
      c.unwrap_or.ensures ∙ c.slot_of_card.ensures.0,
      slot_at_most (records_in l) (record_of l) c.args.card,
    )

pub returns-else-card-eq0 : goal.returns-else-card-eq0
unfolding slot_question
returns-else-card-eq0 c =
    let a = c.args in
    c.unwrap_or.ensures
    ∙ c.slot_of_card.ensures.0
    ∙ sym (asked_yes a.t.now (slot_question a.card) (judged (goal.at.returns-else-card-eq0 c).In-Ok)
    ∙ rw (ne_eqb _ _ c.if-card-eq0.false))

pub returns-in-Err : goal.returns-in-Err
unfolding judge_probe
returns-in-Err c =
    let a = c.args in
    sym (asked_no a.t.now (slot_question a.card) (λ e. number_some _ (not_admitted c.admit.ensures c.in-Err.is ∙ e)))
