-- `insert::slot_for` meets its contract: its branches are the tests in the paper's order, and each answers the first
-- that holds; the slot is the one that the survey told. Assumes nothing.
use Rattle.std.specs.Prelude.{ℕ, ◌≡◌, ◌&&◌, ◌≤◌, ◌<◌, true, false, Option, Some, None, is_some}
use Rattle.std.proofs.Common.{sym, ◌∙◌, arith}
use Rattle.std.proofs.lemmas.Bool.{false≢true}
use Rattle.table.specs.Record.{record_of}
use Rattle.table.specs.Table.{records_in}
use Rattle.table.specs.Stands.{stand_all}
use Rattle.survey.specs.Survey.{slot_of_card, lowest_free}
use Rattle.survey.specs.Answers.{Tells, tells_some, tells_none}
use Rattle.admission.specs.Query.{other_kind, other_found_lem}
use Rattle.insert.specs.Insert.{right_arguments}
use Rattle.insert.specs.Groups.{own_argument, own_kind, own_twice, own_full, own_clock, own_none}
use Rattle.insert.proofs.slot_for.Goals.{Then-not-known_change-known_query, Else-not-known_change-known_query}
use Rattle.insert.proofs.slot_for.Goals.{Else-other_kind, Else-is_some, In-Some}
use Rattle.insert.proofs.slot_for.Goals as goal

-- ---- what the tests show

wrong : (c : Then-not-known_change-known_query) →
    let a = c.args in right_arguments a.card a.kind a.arity a.signature.now ≡ false
unfolding right_arguments
wrong c = sym (λ i. c.known_change.ensures i && c.known_query.ensures i) ∙ c.if-not-known_change-known_query.true

right : (c : Else-not-known_change-known_query) →
    let a = c.args in right_arguments a.card a.kind a.arity a.signature.now ≡ true
unfolding right_arguments
right c = sym (λ i. c.known_change.ensures i && c.known_query.ensures i) ∙ c.if-not-known_change-known_query.false

same : (c : Else-other_kind) →
    let a = c.args in other_kind (records_in a.t.now) (record_of a.t.now) a.kind ≡ false
same c = sym (c.other_kind.ensures ∙ other_found_lem _ c.requires) ∙ c.if-other_kind.false

-- a slot of the n is told, or none
stored : {n s : ℕ} (o : Option ℕ) → Tells n s o → is_some o ≡ true → s < n
stored (Some a) t e = omega (arith, t.0, t.1)
stored None t e = absurd (false≢true e)

absent : {n s : ℕ} (o : Option ℕ) → Tells n s o → is_some o ≡ false → n ≤ s
absent (Some a) t e = absurd (false≢true (sym e))
absent None t e = omega (arith, t.0)

new : (c : Else-is_some) →
    let a = c.args in records_in a.t.now ≤ slot_of_card (records_in a.t.now) (record_of a.t.now) a.card
new c = absent _ c.slot_of_card.ensures (sym c.is_some.ensures ∙ c.if-is_some.false)

room : (c : In-Some) →
    let a = c.args in lowest_free (records_in a.t.now) (record_of a.t.now) < records_in a.t.now
room c =
    let h = tells_some c.in-Some.slot c.requires.lowest c.in-Some.is in
    omega (arith, h.0, h.1)

-- ---- the ends

pub returns-then-not-known_change-known_query-clause-refusal_is :
    goal.returns-then-not-known_change-known_query-clause-refusal_is
returns-then-not-known_change-known_query-clause-refusal_is c =
    let a = c.args in
    own_argument a.t.now a.card a.kind a.arity a.signature.now
    (wrong (goal.at.returns-then-not-known_change-known_query-clause-refusal_is c).Then-not-known_change-known_query)

pub returns-then-other_kind-clause-refusal_is : goal.returns-then-other_kind-clause-refusal_is
returns-then-other_kind-clause-refusal_is c =
    let a = c.args in
    own_kind a.t.now a.card a.kind a.arity a.signature.now
    (right (goal.at.returns-then-other_kind-clause-refusal_is c).Else-not-known_change-known_query)
    (sym (c.other_kind.ensures ∙ other_found_lem _ c.requires) ∙ c.if-other_kind.true)

pub slot_of_card-requires : goal.slot_of_card-requires
slot_of_card-requires c = stand_all c.args.t.now

pub returns-then-is_some-clause-refusal_is : goal.returns-then-is_some-clause-refusal_is
returns-then-is_some-clause-refusal_is c =
    let a = c.args in
    own_twice a.t.now a.card a.kind a.arity a.signature.now
    (right (goal.at.returns-then-is_some-clause-refusal_is c).Else-not-known_change-known_query)
    (same (goal.at.returns-then-is_some-clause-refusal_is c).Else-other_kind)
    (stored _ c.slot_of_card.ensures (sym c.is_some.ensures ∙ c.if-is_some.true))

pub returns-in_default-clause-refusal_is : goal.returns-in_default-clause-refusal_is
returns-in_default-clause-refusal_is c =
    let a = c.args in
    own_full a.t.now a.card a.kind a.arity a.signature.now
    (right (goal.at.returns-in_default-clause-refusal_is c).Else-not-known_change-known_query)
    (same (goal.at.returns-in_default-clause-refusal_is c).Else-other_kind)
    (new (goal.at.returns-in_default-clause-refusal_is c).Else-is_some)
    (omega (arith, tells_none c.requires.lowest c.in_default.is))

pub returns-then-spent-clause-refusal_is : goal.returns-then-spent-clause-refusal_is
returns-then-spent-clause-refusal_is c =
    let a = c.args in
    own_clock a.t.now a.card a.kind a.arity a.signature.now
    (right (goal.at.returns-then-spent-clause-refusal_is c).Else-not-known_change-known_query)
    (same (goal.at.returns-then-spent-clause-refusal_is c).Else-other_kind)
    (new (goal.at.returns-then-spent-clause-refusal_is c).Else-is_some)
    (room (goal.at.returns-then-spent-clause-refusal_is c).In-Some)
    (omega (arith, c.if-spent.true, c.requires.largest))

pub returns-clause-refusal_is : goal.returns-clause-refusal_is
returns-clause-refusal_is c =
    let a = c.args in
    own_none a.t.now a.card a.kind a.arity a.signature.now
    (right (goal.at.returns-clause-refusal_is c).Else-not-known_change-known_query)
    (same (goal.at.returns-clause-refusal_is c).Else-other_kind)
    (new (goal.at.returns-clause-refusal_is c).Else-is_some)
    (room (goal.at.returns-clause-refusal_is c).In-Some)
    (omega (arith, c.if-spent.false, c.requires.largest))
