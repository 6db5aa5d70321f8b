-- `nearest::nearest` meets its contract: what its tests refuse has no pair, and what none refuses has the nearest ones.
-- Assumes nothing.
use Rattle.std.specs.Prelude.{◌≡◌, refl}
use Rattle.std.proofs.Common.{sym, ap, ◌∙◌, arith}
use Rattle.table.specs.Record.{record_of}
use Rattle.table.specs.Table.{records_in}
use Rattle.refusals.specs.Refusal.{first_of, done}
use Rattle.refusals.specs.Told.{number_of, number_some, passed_on}
use Rattle.survey.specs.Answers.{Answers, tells_some}
use Rattle.view.specs.Readable.{rooted, rootless}
use Rattle.admission.specs.Admission.{admission_tests}
use Rattle.nearest.specs.Nearest.{refusal_of}
use Rattle.nearest.proofs.Tests.{Accepted, accepted, refusal_lent}
use Rattle.nearest.proofs.Laws.{accepted_is, refused_by, listing_none}
use Rattle.nearest.proofs.nearest.Goals.{In_ok-there, In_ok-own_tests}
use Rattle.nearest.proofs.nearest.Goals as goal

-- what is known of a table that is admitted
admitted : (c : In_ok-there) → let l = c.args.t.now in first_of (admission_tests l) ≡ done
admitted c = sym c.in_ok-there.ensures.refusal_is

answers : (c : In_ok-there) → let l = c.args.t.now in Answers (records_in l) (record_of l) c.in_ok-there.there
answers c = c.in_ok-there.ensures.answers

-- and where no test refuses the call
none : (c : In_ok-own_tests) →
    let a = c.args in
    done ≡ refusal_of a.t.now a.kind a.signature.now a.k a.room
none c = c.in_ok-own_tests.ensures c.args.t.now (sym c.in_ok-there.ensures.refusal_is) c.in_ok-there.ensures.answers

passed : (c : In_ok-own_tests) → let a = c.args in Accepted a.t.now a.kind a.signature.now a.k a.room
passed c = let a = c.args in accepted a.t.now a.kind a.signature.now a.k a.room (sym (none c))

pub returns-in_err-there : goal.returns-in_err-there
returns-in_err-there c =
    let a = c.args in
    let why = c.in_err-there.field-0.0 in
    rw (passed_on {why = why} c.from_residual.ensures.1)
    (record {
      pairs =
          refused_by a.t.now a.kind a.signature.now a.k a.room why
          (sym (refusal_lent a.t.now a.kind a.signature.now a.k a.room (number_of why)
          c.in_err-there.ensures.refusal_is
          (number_some why)));
      few = tt;
    })

pub returns-in_err-own_tests : goal.returns-in_err-own_tests
returns-in_err-own_tests c =
    let a = c.args in
    let why = c.in_err-own_tests.field-0.0 in
    let h = (goal.at.returns-in_err-own_tests c).In_ok-there in
    rw (passed_on {why = why} c.from_residual-in_err-own_tests.ensures.1)
    (record {
      pairs =
          refused_by a.t.now a.kind a.signature.now a.k a.room why
          (sym (c.in_err-own_tests.ensures a.t.now (admitted h) (answers h)));
      few = tt;
    })

pub returns-in_default : goal.returns-in_default
returns-in_default c =
    let a = c.args in
    let h = (goal.at.returns-in_default c).In_ok-there in
    let ok = passed (goal.at.returns-in_default c).In_ok-own_tests in
    let x = c.nothing.ensures in
    record {
      pairs =
          λ list long.
          rw (
            accepted_is a.t.now a.kind a.signature.now a.k list
                (ap (refusal_of _ _ _ _) long ∙ sym (none (goal.at.returns-in_default c).In_ok-own_tests)),
            x.1,
            x.0,
          )
          (listing_none a.t.now a.kind _ a.k done 0 c.nothing.result.pairs
          (rootless ok.readable (answers h).root c.in_default.is)
          refl refl list);
      few = (omega (arith, x.0), omega (arith, x.0));
    }

pub signature_at-requires : goal.signature_at-requires
signature_at-requires c =
    let b = (passed (goal.at.signature_at-requires c).In_ok-own_tests).bytes in omega arith

pub accepted-requires : goal.accepted-requires
accepted-requires c =
    let p = passed (goal.at.accepted-requires c).In_ok-own_tests in
    let x = answers (goal.at.accepted-requires c).In_ok-there in
    record {
      readable = (p.readable, p.one, p.most);
      there = (
        omega (arith, x.used, rooted p.readable x.root c.in-Some.is),
        x.used,
        (tells_some c.in-Some.root x.root c.in-Some.is).0,
      );
    }

pub returns : goal.returns
returns c =
    let a = c.args in
    let r = c.accepted.ensures in
    let p = passed (goal.at.returns c).In_ok-own_tests in
    record {
      pairs =
          λ list long.
          rw (
            accepted_is a.t.now a.kind a.signature.now a.k list
                (ap (refusal_of _ _ _ _) long ∙ sym (none (goal.at.returns c).In_ok-own_tests)),
            ← c.signature_at.ensures,
          )
          (r.0 list);
      few = (omega (arith, r.1, p.room), omega (arith, r.1, p.most));
    }
