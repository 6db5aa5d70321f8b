-- `insert::insert` meets its contract: what its tests refuse is refused, and what none refuses is placed. Assumes
-- nothing.
use Rattle.std.specs.Prelude.{◌≡◌}
use Rattle.std.proofs.Common.{sym, ◌∙◌, arith}
use Rattle.number.specs.Frame.{Bytes}
use Rattle.refusals.specs.Refusal.{first_of, done}
use Rattle.refusals.specs.Told.{number_of, number_some, passed_on}
use Rattle.admission.specs.Admission.{admission_tests}
use Rattle.insert.specs.Insert.{refusal_of}
use Rattle.insert.specs.Groups.{refusal_first, refusal_own}
use Rattle.insert.specs.Accepted.{accepted_signature}
use Rattle.insert.proofs.Calling.{ends_refused, found_placeable, ends_placed}
use Rattle.insert.proofs.insert.Goals.{In_ok-there, In_ok-slot}
use Rattle.insert.proofs.insert.Goals as goal

-- what is known of a table that is admitted
admitted : (c : In_ok-there) → first_of (admission_tests c.args.t.now) ≡ done
admitted c = sym c.in_ok-there.ensures.refusal_is

-- and where no test refuses the call
none : (c : In_ok-slot) →
    let a = c.args in refusal_of a.t.now a.card a.kind a.arity a.signature.now ≡ done
none c =
    let a = c.args in
    refusal_own a.t.now a.card a.kind a.arity a.signature.now (sym c.in_ok-there.ensures.refusal_is)
    ∙ sym c.in_ok-slot.ensures.refusal_is

pub returns-in_err-there : goal.returns-in_err-there
returns-in_err-there c =
    let a = c.args in
    let why = c.in_err-there.field-0.0 in
    let e = c.in_err-there.ensures.refusal_is in
    rw (passed_on {why = why} c.from_residual.ensures.1)
    (ends_refused a.t.now a.card a.kind a.arity a.signature.now (number_of why)
    (e ∙ sym (refusal_first a.t.now a.card a.kind a.arity a.signature.now (λ z. number_some why (e ∙ z))))
    (number_some why))

pub returns-in_err-slot : goal.returns-in_err-slot
returns-in_err-slot c =
    let a = c.args in
    let why = c.in_err-slot.field-0.0 in
    rw (passed_on {why = why} c.from_residual-in_err-slot.ensures.1)
    (ends_refused a.t.now a.card a.kind a.arity a.signature.now (number_of why)
    (c.in_err-slot.ensures.refusal_is
    ∙ sym
    (refusal_own a.t.now a.card a.kind a.arity a.signature.now
    (admitted (goal.at.returns-in_err-slot c).In_ok-there)))
    (number_some why))

pub signature_at-signature-requires : goal.signature_at-signature-requires
signature_at-signature-requires c =
    let a = c.args in
    omega (
      arith,
      accepted_signature a.t.now a.card a.kind a.arity a.signature.now
          (none (goal.at.signature_at-signature-requires c).In_ok-slot),
    )

pub place-requires : goal.place-requires
place-requires c =
    let a = c.args in
    found_placeable a.t.now a.card a.kind a.arity a.signature.now
    (none (goal.at.place-requires c).In_ok-slot)
    c.in_ok-there.ensures.answers
    (λ i. (c.type_inv.signature i).fits)
    c.signature_at-signature.result.readings
    c.signature_at-signature.ensures
    c.in_ok-slot.slot
    c.in_ok-slot.ensures.lowest

pub returns : goal.returns
returns c =
    let x = c.signature_at-signature in
    let r = c.place in
    let a = c.args in
    let bytes : Bytes r.new.t = λ i. (c.type_inv.t i).fits in
    ends_placed a.t.now a.card a.kind a.arity a.signature.now
    (none (goal.at.returns c).In_ok-slot)
    c.in_ok-there.ensures.answers
    (λ i. (c.type_inv.signature i).fits)
    x.result.readings
    x.ensures
    c.in_ok-slot.slot
    c.in_ok-slot.ensures.lowest
    r.new.t
    r.result
    bytes
    r.auto.t
    r.ensures
