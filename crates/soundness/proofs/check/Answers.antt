-- `soundness::check` meets its contract: the table's own refusal, or else what the route says. Assumes nothing.
use Rattle.std.specs.Prelude.{◌≡◌}
use Rattle.std.proofs.Common.{sym, ◌∙◌}
use Rattle.refusals.specs.Refusal.{first_of, done}
use Rattle.refusals.specs.Told.{number_some, passed_on}
use Rattle.admission.specs.Admission.{admission_tests, admitted_readable}
use Rattle.view.specs.Readable.{readable_formed}
use Rattle.soundness.specs.Check.{check_refused, check_loose, check_done}
use Rattle.soundness.proofs.check.Goals.{In_ok-admit}
use Rattle.soundness.proofs.check.Goals as goal

admitted : (c : In_ok-admit) → first_of (admission_tests c.args.t.now) ≡ done
admitted c = sym c.in_ok-admit.ensures.refusal_is

pub returns-in_err-admit : goal.returns-in_err-admit
returns-in_err-admit c =
    let why = c.in_err-admit.field-0.0 in
    let told = c.in_err-admit.ensures.refusal_is in
    rw (passed_on {why = why} c.from_residual.ensures.1)
    (told ∙ sym (check_refused c.args.t.now (λ e. number_some why (told ∙ e))))

pub all_ok-requires : goal.all_ok-requires
all_ok-requires c =
    readable_formed (admitted_readable c.args.t.now (admitted (goal.at.all_ok-requires c).In_ok-admit))

pub returns-then-not-all_ok : goal.returns-then-not-all_ok
returns-then-not-all_ok c =
    sym
    (check_loose c.args.t.now (admitted (goal.at.returns-then-not-all_ok c).In_ok-admit)
    (sym c.all_ok.ensures ∙ c.if-not-all_ok.true))

pub returns : goal.returns
returns c =
    sym
    (check_done c.args.t.now (admitted (goal.at.returns c).In_ok-admit)
    (sym c.all_ok.ensures ∙ c.if-not-all_ok.false))
