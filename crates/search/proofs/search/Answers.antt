-- `search::search` meets its contract: what its tests refuse is refused, and what none refuses is listed. Assumes
-- nothing.
use Rattle.std.specs.Prelude.{◌≡◌, length}
use Rattle.std.proofs.Common.{sym, ◌∙◌, arith}
use Rattle.table.specs.Record.{record_of}
use Rattle.table.specs.Table.{records_in}
use Rattle.refusals.specs.Refusal.{first_of, done}
use Rattle.refusals.specs.Told.{number_of, number_some, passed_on}
use Rattle.survey.specs.Answers.{Answers, tells_some}
use Rattle.view.specs.Readable.{rooted, rootless}
use Rattle.admission.specs.Admission.{admission_tests}
use Rattle.search.specs.Search.{refusal_of}
use Rattle.search.specs.Tests.{Accepted, accepted, refusal_lent}
use Rattle.search.specs.Laws.{accepted_is, refuses}
use Rattle.search.specs.Listing.{listing_none}
use Rattle.search.proofs.search.Goals.{In_ok-there, In_ok-own_tests}
use Rattle.search.proofs.search.Goals as goal

-- what is known of a table that is admitted
admitted : (c : In_ok-there) → let l = c.args.t.now in first_of (admission_tests l) ≡ done
admitted c = sym c.in_ok-there.ensures.refusal_is

answers : (c : In_ok-there) → let l = c.args.t.now in Answers (records_in l) (record_of l) c.in_ok-there.there
answers c = c.in_ok-there.ensures.answers

-- and where no test refuses the call
none : (c : In_ok-own_tests) →
    let a = c.args in
    done ≡ refusal_of a.t.now a.kind a.signature.now (length a.list.now)
none c = c.in_ok-own_tests.ensures c.args.t.now (sym c.in_ok-there.ensures.refusal_is) c.in_ok-there.ensures.answers

passed : (c : In_ok-own_tests) → let a = c.args in Accepted a.t.now a.kind a.signature.now (length a.list.now)
passed c = let a = c.args in accepted a.t.now a.kind a.signature.now (length a.list.now) (sym (none c))

pub returns-in_err-there : goal.returns-in_err-there
returns-in_err-there c =
    let a = c.args in
    let why = c.in_err-there.field-0.0 in
    rw (passed_on {why = why} c.from_residual.ensures.1)
    (refuses a.t.now a.kind a.signature.now a.radius a.list.now (number_of why)
    (sym (refusal_lent a.t.now a.kind a.signature.now (length a.list.now) (number_of why)
    c.in_err-there.ensures.refusal_is
    (number_some why)))
    (number_some why))

pub returns-in_err-own_tests : goal.returns-in_err-own_tests
returns-in_err-own_tests c =
    let a = c.args in
    let why = c.in_err-own_tests.field-0.0 in
    let h = (goal.at.returns-in_err-own_tests c).In_ok-there in
    rw (passed_on {why = why} c.from_residual-in_err-own_tests.ensures.1)
    (refuses a.t.now a.kind a.signature.now a.radius a.list.now (number_of why)
    (sym (c.in_err-own_tests.ensures a.t.now (admitted h) (answers h)))
    (number_some why))

pub returns-in_default : goal.returns-in_default
returns-in_default c =
    let a = c.args in
    let h = (goal.at.returns-in_default c).In_ok-there in
    let ok = passed (goal.at.returns-in_default c).In_ok-own_tests in
    listing_none (records_in a.t.now) (record_of a.t.now) a.kind _ a.radius a.list.now
    (rootless ok.readable (answers h).root c.in_default.is)
    ∙ sym (accepted_is a.t.now a.kind a.signature.now a.radius a.list.now
    (sym (none (goal.at.returns-in_default c).In_ok-own_tests)))

pub signature_at-requires : goal.signature_at-requires
signature_at-requires c =
    let b = (passed (goal.at.signature_at-requires c).In_ok-own_tests).bytes in omega arith

pub accepted-requires : goal.accepted-requires
accepted-requires c =
    let p = passed (goal.at.accepted-requires c).In_ok-own_tests in
    let x = answers (goal.at.accepted-requires c).In_ok-there in
    record {
      readable = (
        p.readable,
        omega (x.used, p.room, arith),
      );
      there = (
        omega (arith, x.used, rooted p.readable x.root c.in-Some.is),
        x.used,
        (tells_some c.in-Some.root x.root c.in-Some.is).0,
      );
    }

pub returns : goal.returns
returns c =
    let a = c.args in
    rw (
      accepted_is a.t.now a.kind a.signature.now a.radius a.list.now
          (sym (none (goal.at.returns c).In_ok-own_tests)),
      ← c.signature_at.ensures,
    )
    c.accepted.ensures
