-- `admission::admit` meets its contract: it ends refused by the size, refused by the form, or with what the pass found.
-- Assumes nothing.
use Rattle.std.specs.Prelude.{◌≡◌, true, length, Some}
use Rattle.std.proofs.Common.{sym, subst, ◌∙◌}
use Rattle.table.specs.Record.{record_of}
use Rattle.table.specs.Table.{right_size, records_in}
use Rattle.table.specs.Stands.{right_are, right_most, are_stand}
use Rattle.admission.specs.Admission.{admits_size, admits_done, past_kind}
use Rattle.admission.specs.Verdict.{Judged, seen_answers}
use Rattle.admission.proofs.admit.Goals.{Else-not-right_size}
use Rattle.admission.proofs.admit.Goals as goal

-- what the two tests say
right : (c : Else-not-right_size) → right_size (length c.args.t.now) ≡ true
right c = sym c.right_size.ensures ∙ c.if-not-right_size.false

pub returns-then-not-right_size : goal.returns-then-not-right_size
returns-then-not-right_size c =
    admits_size c.args.t.now (sym c.right_size.ensures ∙ c.if-not-right_size.true)

pub formed-requires : goal.formed-requires
formed-requires c =
    let l = c.args.t.now in (
      are_stand l (records_in l) (right_are l (right (goal.at.formed-requires c).Else-not-right_size)),
      right_most l (right (goal.at.formed-requires c).Else-not-right_size),
    )

pub returns : goal.returns
returns c =
    let l = c.args.t.now in
    let size = right (goal.at.returns c).Else-not-right_size in
    let seen : Judged (records_in l) (record_of l) (Some c.in_ok-seen.seen) =
    subst (Judged (records_in l) (record_of l)) c.in_ok-seen.ensures.ok_part c.formed.ensures in
    admits_done l _ size seen.0
    (rw c.unwrap_or.ensures
    (seen_answers (records_in l) (record_of l) c.in_ok-seen.seen seen.1 seen.0 (past_kind l size)))
