-- `nearest::own_tests` meets its contract: its branches are the tests in the paper's order, and each answers the first
-- that holds. Assumes nothing.
use Rattle.std.specs.Prelude.{ℕ, ◌≡◌, true, List}
use Rattle.std.proofs.Common.{sym, ◌∙◌, arith}
use Rattle.table.specs.Record.{record_of}
use Rattle.table.specs.Table.{records_in}
use Rattle.survey.specs.Answers.{Answers}
use Rattle.admission.specs.Query.{other_kind, other_found_lem}
use Rattle.nearest.specs.Nearest.{right_arguments}
use Rattle.nearest.proofs.Tests.{refusal_argument, refusal_kind, refusal_short, refusal_none}
use Rattle.nearest.proofs.own_tests.Goals.{After-other_kind, Else-not-right_arguments}
use Rattle.nearest.proofs.own_tests.Goals as goal

known : (c : Else-not-right_arguments) →
    let a = c.args in right_arguments a.kind a.signature.now a.k ≡ true
known c = sym c.right_arguments.ensures ∙ c.if-not-right_arguments.false

other : (c : After-other_kind) (l : List ℕ)
    → Answers (records_in l) (record_of l) c.args.there
    → other_kind (records_in l) (record_of l) c.args.kind ≡ c.other_kind.result
other c l a = sym (c.other_kind.ensures ∙ other_found_lem _ a)

pub returns-then-not-right_arguments : goal.returns-then-not-right_arguments
returns-then-not-right_arguments c = λ l e a.
    let b = c.args in
    refusal_argument l b.kind b.signature.now b.k b.room e
    (sym c.right_arguments.ensures ∙ c.if-not-right_arguments.true)

pub returns-then-other_kind : goal.returns-then-other_kind
returns-then-other_kind c = λ l e a.
    let b = c.args in
    refusal_kind l b.kind b.signature.now b.k b.room e
    (known (goal.at.returns-then-other_kind c).Else-not-right_arguments)
    (other (goal.at.returns-then-other_kind c).After-other_kind l a ∙ c.if-other_kind.true)

pub returns-then-room-k : goal.returns-then-room-k
returns-then-room-k c = λ l e a.
    let b = c.args in
    refusal_short l b.kind b.signature.now b.k b.room e
    (known (goal.at.returns-then-room-k c).Else-not-right_arguments)
    (other (goal.at.returns-then-room-k c).After-other_kind l a ∙ c.if-other_kind.false)
    (omega (arith, c.if-room-k.true))

pub returns : goal.returns
returns c = λ l e a.
    let b = c.args in
    refusal_none l b.kind b.signature.now b.k b.room e
    (known (goal.at.returns c).Else-not-right_arguments)
    (other (goal.at.returns c).After-other_kind l a ∙ c.if-other_kind.false)
    (omega (arith, c.if-room-k.false))
