-- `delete::delete` meets its contract: the call ends refused by the table's size or form, refused by the arguments,
-- refused since the card is not stored, or as it goes with the card's slot. Assumes nothing.
use Rattle.std.specs.Prelude.{ℕ, ◌≡◌, true, Option, None, Result, Err, ok_or}
use Rattle.std.proofs.Common.{sym, ap, ◌∙◌, arith}
use Rattle.refusals.specs.declared.Refusal.{Refusal}
use Rattle.refusals.specs.declared.Refusal.TheVariants as refusal
use Rattle.refusals.specs.Refusal.{first_of, done}
use Rattle.refusals.specs.Told.{number_of, number_some, passed_on}
use Rattle.table.specs.Stands.{stand_all}
use Rattle.survey.specs.Answers.{tells_some, tells_none}
use Rattle.admission.specs.Admission.{admission_tests}
use Rattle.admission.specs.Query.{known_change}
use Rattle.delete.specs.Call.{outcome_at}
use Rattle.delete.proofs.Call.{right_arity, admission_refused, argument_refused, absent_refused, present_done}
use Rattle.delete.proofs.Plan.{present_deletable}
use Rattle.delete.proofs.delete.Goals.{In_ok-there, Else-not-known_change}
use Rattle.delete.proofs.delete.Goals as goal

-- what is known of a table that is admitted
admitted : (c : In_ok-there) → first_of (admission_tests c.args.t.now) ≡ done
admitted c = sym c.in_ok-there.ensures.refusal_is

right : (c : Else-not-known_change) → known_change c.args.card c.args.arity ≡ true
right c = sym c.known_change.ensures ∙ c.if-not-known_change.false

-- where no slot is told the refusal is the one that stands for it
err_is :
    {o : Option ℕ} {why other : Refusal}
    → o ≡ None
    → ◌≡◌ {A = Result ℕ Refusal} (Err why) (ok_or o other)
    → why ≡ other
err_is {why = why} {other = other} e h =
    let same : ◌≡◌ {A = Result ℕ Refusal} (Err why) (Err other) = h ∙ ap (λ (o : Option ℕ). ok_or o other) e in
    cc

pub returns-in_err-there : goal.returns-in_err-there
returns-in_err-there c =
    let a = c.args in
    let why = c.in_err-there.field-0.0 in
    rw (passed_on {why = why} c.from_residual.ensures.1)
    (admission_refused a.t.now a.card a.arity (number_of why) c.in_err-there.ensures.refusal_is (number_some why))

pub returns-then-not-known_change : goal.returns-then-not-known_change
returns-then-not-known_change c =
    let a = c.args in
    argument_refused a.t.now a.card a.arity (admitted (goal.at.returns-then-not-known_change c).In_ok-there)
    (sym c.known_change.ensures ∙ c.if-not-known_change.true)

pub slot_of_card-requires : goal.slot_of_card-requires
slot_of_card-requires c = stand_all c.args.t.now

pub returns-in_err-v : goal.returns-in_err-v
returns-in_err-v c =
    let a = c.args in
    let why = c.in_err-v.field-0.0 in
    let none : c.slot_of_card.result ≡ None = c.in_err-v.ensures.ok_part in
    let absent : why ≡ refusal.Absent = err_is none c.in_err-v.ensures.value in
    rw (passed_on {why = why} c.from_residual-in_err-v.ensures.1, absent)
    (absent_refused a.t.now a.card a.arity (admitted (goal.at.returns-in_err-v c).In_ok-there)
    (right (goal.at.returns-in_err-v c).Else-not-known_change)
    (omega (arith, tells_none c.slot_of_card.ensures none)))

pub delete_at-requires : goal.delete_at-requires
delete_at-requires c =
    let a = c.args in
    let ok = right (goal.at.delete_at-requires c).Else-not-known_change in
    let here = tells_some c.in_ok-v.v c.slot_of_card.ensures c.in_ok-v.ensures.ok_part in (
      present_deletable a.t.now a.card a.arity c.in_ok-there.there (admitted (goal.at.delete_at-requires c).In_ok-there)
          c.in_ok-there.ensures.answers ok c.in_ok-v.v here.0 here.1,
      right_arity a.card a.arity ok,
    )

pub returns : goal.returns
returns c =
    let a = c.args in
    let here = tells_some c.in_ok-v.v c.slot_of_card.ensures c.in_ok-v.ensures.ok_part in
    c.delete_at.ensures
    ∙ ap (λ (v : ℕ). outcome_at a.t.now v a.arity) here.0
    ∙ present_done a.t.now a.card a.arity (admitted (goal.at.returns c).In_ok-there)
    (right (goal.at.returns c).Else-not-known_change)
    (omega (arith, here.0, here.1))
