-- `soundness::all_ok` meets its contract. The loop keeps that the first x records pass; one that does not is the answer
-- no. Assumes nothing.
use Rattle.std.specs.Prelude.{ℕ, ◌≡◌, true}
use Rattle.std.proofs.Common.{sym, ap, ◌∙◌, arith, rules}
use Rattle.places.specs.Test.{all_to, all_none, all_more, all_fails}
use Rattle.table.specs.Record.{record_of}
use Rattle.table.specs.Table.{records_in}
use Rattle.soundness.specs.Climb.{record_passes, route}
use Rattle.soundness.proofs.all_ok.Goals as goal

pub loop-x-init : goal.loop-x-init
loop-x-init c = (search rules, all_none _)

pub returns-then-not-record_ok : goal.returns-then-not-record_ok
unfolding route
returns-then-not-record_ok c =
    let a = c.args in
    let l = c.loop-x in
    sym
    (all_fails
    (records_in a.t.now)
    (record_passes (records_in a.t.now) (record_of a.t.now))
    l.x
    (omega arith)
    (sym c.record_ok.ensures ∙ c.if-not-record_ok.true))

pub loop-x-preserved : goal.loop-x-preserved
loop-x-preserved c =
    let l = c.loop-x in (
      l.invariant.0,
      all_more l.x true true _ l.invariant.1
          (sym (c.if-not-record_ok.false) ∙ c.record_ok.ensures),
    )

pub returns : goal.returns
unfolding route
returns c =
    let a = c.args in
    let l = c.loop-x in
    let e : l.x ≡ records_in a.t.now = omega arith in
    l.invariant.1 ∙ ap (λ (k : ℕ). all_to k (record_passes (records_in a.t.now) (record_of a.t.now))) e
