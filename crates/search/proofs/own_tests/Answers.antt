-- `search::own_tests` meets its contract: its branches are the tests in the paper's order, and each answers the first
-- that holds. Assumes nothing.
use Rattle.std.specs.Prelude.{ℕ, ◌≡◌, true, List}
use Rattle.std.proofs.Common.{sym, ◌∙◌, arith}
use Rattle.table.specs.Record.{record_of}
use Rattle.table.specs.Table.{records_in}
use Rattle.survey.specs.Answers.{Answers}
use Rattle.admission.specs.Query.{known_query, other_kind, other_found_lem}
use Rattle.search.specs.Tests.{refusal_argument, refusal_kind, refusal_short, refusal_none}
use Rattle.search.proofs.own_tests.Goals.{After-other_kind, Else-not-known_query}
use Rattle.search.proofs.own_tests.Goals as goal

known : (c : Else-not-known_query) →
    let a = c.args in known_query a.kind a.signature.now ≡ true
known c = sym c.known_query.ensures ∙ c.if-not-known_query.false

other : (c : After-other_kind) (l : List ℕ)
    → Answers (records_in l) (record_of l) c.args.there
    → other_kind (records_in l) (record_of l) c.args.kind ≡ c.other_kind.result
other c l a = sym (c.other_kind.ensures ∙ other_found_lem _ a)

pub returns-then-not-known_query : goal.returns-then-not-known_query
returns-then-not-known_query c = λ l e a.
    let b = c.args in
    refusal_argument l b.kind b.signature.now b.room e (sym c.known_query.ensures ∙ c.if-not-known_query.true)

pub returns-then-other_kind : goal.returns-then-other_kind
returns-then-other_kind c = λ l e a.
    let b = c.args in
    refusal_kind l b.kind b.signature.now b.room e
    (known (goal.at.returns-then-other_kind c).Else-not-known_query)
    (other (goal.at.returns-then-other_kind c).After-other_kind l a ∙ c.if-other_kind.true)

pub returns-then-room-there : goal.returns-then-room-there
returns-then-room-there c = λ l e a.
    let b = c.args in
    refusal_short l b.kind b.signature.now b.room e
    (known (goal.at.returns-then-room-there c).Else-not-known_query)
    (other (goal.at.returns-then-room-there c).After-other_kind l a ∙ c.if-other_kind.false)
    (omega (arith, c.if-room-there.true, a.used))

pub returns : goal.returns
returns c = λ l e a.
    let b = c.args in
    refusal_none l b.kind b.signature.now b.room e
    (known (goal.at.returns c).Else-not-known_query)
    (other (goal.at.returns c).After-other_kind l a ∙ c.if-other_kind.false)
    (omega (arith, c.if-room-there.false, a.used))
