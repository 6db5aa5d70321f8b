-- `admission::formed` meets its contract: what the pass has seen and the tests of keys are the counting form, which is
-- proved equal to the paper's clauses. Assumes nothing.
use Rattle.std.specs.Prelude.{◌≡◌, Option}
use Rattle.std.proofs.Common.{sym, ◌∙◌, arith, subst, rules}
use Rattle.distinct.specs.Distinct.{distinct_to}
use Rattle.table.specs.Record.{record_of}
use Rattle.judge.specs.WellFormed.{well_formed}
use Rattle.links.specs.declared.Seen.{Seen}
use Rattle.admission.specs.Verdict.{Judged, misfit_not, numbers_not, cards_not, timestamps_decide, judged}
use Rattle.admission.proofs.formed.Goals.{Else-not-keys_distinct}
use Rattle.admission.proofs.formed.Goals as goal

-- once cards are told apart, timestamps decide
decide : (c : Else-not-keys_distinct)
    → well_formed c.args.n (record_of c.args.t.now)
    ≡ distinct_to c.args.n (λ s. (record_of c.args.t.now s).timestamp)
decide c =
    let cards = c.keys_distinct.ensures (λ s. (record_of c.args.t.now s).card) (λ s k b given. search rules) in
    timestamps_decide c.args.n (record_of c.args.t.now) (omega arith) c.in_ok-seen.seen c.in_ok-seen.ensures
    (sym c.numbers_agree.ensures ∙ c.if-not-numbers_agree.false)
    (sym cards ∙ c.if-not-keys_distinct.false)

pub returns-in_err-seen : goal.returns-in_err-seen
returns-in_err-seen c =
    subst
    (λ (seen : Option Seen). Judged c.args.n (record_of c.args.t.now) seen)
    (sym c.from_residual.ensures)
    (misfit_not c.args.n (record_of c.args.t.now) (omega arith) c.in_err-seen.ensures)

pub returns-then-not-numbers_agree : goal.returns-then-not-numbers_agree
returns-then-not-numbers_agree c =
    numbers_not c.args.n (record_of c.args.t.now) (omega arith) c.in_ok-seen.seen c.in_ok-seen.ensures
    (sym c.numbers_agree.ensures ∙ c.if-not-numbers_agree.true)

pub returns-then-not-keys_distinct : goal.returns-then-not-keys_distinct
returns-then-not-keys_distinct c =
    let cards = c.keys_distinct.ensures (λ s. (record_of c.args.t.now s).card) (λ s k b given. search rules) in
    cards_not c.args.n (record_of c.args.t.now) (omega arith) c.in_ok-seen.seen c.in_ok-seen.ensures
    (sym c.numbers_agree.ensures ∙ c.if-not-numbers_agree.false)
    (sym cards ∙ c.if-not-keys_distinct.true)

pub returns-then-seen : goal.returns-then-seen
returns-then-seen c = (
  decide (goal.at.returns-then-seen c).Else-not-keys_distinct ∙ c.in_ok-seen.ensures.apart c.if-seen.true,
  c.in_ok-seen.ensures,
)

pub returns : goal.returns
returns c =
    let timestamps =
    c.keys_distinct-2.ensures (λ s. (record_of c.args.t.now s).timestamp) (λ s k b given. search rules) in
    subst
    (λ (seen : Option Seen). Judged c.args.n (record_of c.args.t.now) seen)
    (sym c.then_some.ensures)
    (judged c.args.n (record_of c.args.t.now) (omega arith) c.in_ok-seen.seen c.in_ok-seen.ensures
    c.keys_distinct-2.result
    (decide (goal.at.returns c).Else-not-keys_distinct ∙ sym timestamps))
