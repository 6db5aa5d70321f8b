-- `probe::tell` meets its contract: an admitted table's answers are found, and any other has none. Assumes nothing.
use Rattle.std.specs.Prelude.{◌≡◌}
use Rattle.std.proofs.Common.{sym, ◌∙◌}
use Rattle.refusals.specs.Refusal.{done}
use Rattle.refusals.specs.Told.{number_some}
use Rattle.table.specs.Record.{record_of}
use Rattle.table.specs.Table.{records_in}
use Rattle.table.specs.Stands.{right_most}
use Rattle.admission.specs.Admission.{admitted, admitted_answers, not_admitted}
use Rattle.probe.specs.Probe.{judge_probe}
use Rattle.probe.specs.Tells.{judged_size, answers_small, tells_found, tells_nothing}
use Rattle.probe.proofs.tell.Goals.{In-Ok}
use Rattle.probe.proofs.tell.Goals as goal

-- the table was admitted where its answers are told
judged : (c : In-Ok) → judge_probe c.args.t.now ≡ done
unfolding judge_probe
judged c = admitted c.admit.ensures c.in-Ok.is

pub widened-requires : goal.widened-requires
widened-requires c =
    let l = c.args.t.now in
    answers_small (records_in l) (record_of l) c.in-Ok.found
    (right_most l (judged_size l (judged (goal.at.widened-requires c).In-Ok)))
    (admitted_answers c.admit.ensures c.in-Ok.is)

pub returns-in-Ok : goal.returns-in-Ok
returns-in-Ok c =
    tells_found c.args.t.now c.in-Ok.found c.widened.result (judged (goal.at.returns-in-Ok c).In-Ok)
    (admitted_answers c.admit.ensures c.in-Ok.is)
    c.widened.ensures

pub returns-in-Err : goal.returns-in-Err
unfolding judge_probe
returns-in-Err c =
    tells_nothing c.args.t.now (λ e. number_some _ (not_admitted c.admit.ensures c.in-Err.is ∙ e))
