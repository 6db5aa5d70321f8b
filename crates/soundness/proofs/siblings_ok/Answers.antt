-- `soundness::siblings_ok` meets its contract. The loop keeps that the first i children pass; one that does not is the
-- answer no. Assumes nothing.
use Rattle.std.specs.Prelude.{ℕ, ◌≡◌, Bool, true}
use Rattle.std.proofs.Common.{sym, ap, ◌∙◌, arith, rules}
use Rattle.places.specs.Test.{all_none, all_more, all_fails}
use Rattle.table.specs.Record.{record_of, slot}
use Rattle.soundness.specs.HoldsCard.{card_stands, count_most, child_card}
use Rattle.soundness.specs.Climb.{sibling_passes, siblings_pass}
use Rattle.soundness.proofs.siblings_ok.Goals.{Start}
use Rattle.soundness.proofs.siblings_ok.Goals as goal

-- the test of one child
abbrev passes : Start → ℕ → Bool
passes b = let a = b.args in
    sibling_passes (record_of a.t.now) a.x.query.kind a.x.query.signature.readings a.x.timestamp a.b

pub children_of-count-requires : goal.children_of-count-requires
children_of-count-requires c =
    card_stands c.args.t.now c.args.p c.requires.1

pub loop-i-init : goal.loop-i-init
loop-i-init c = (search rules, all_none _)

pub child_of-c-requires : goal.child_of-c-requires
child_of-c-requires c = (
  card_stands c.args.t.now c.args.p c.requires.1,
  omega (arith, count_most c.args.t.now c.args.p c.requires.0 c.requires.1),
)

pub sibling_ok-requires : goal.sibling_ok-requires
sibling_ok-requires c =
    let l = c.args.t.now in
    let child = child_card l c.args.p c.loop-i.i c.requires.0 c.requires.1 (omega arith) in
    (rw c.child_of-c.ensures (card_stands l _ child), c.requires.2)

pub returns-then-not-sibling_ok : goal.returns-then-not-sibling_ok
unfolding siblings_pass
returns-then-not-sibling_ok c =
    let p = record_of c.args.t.now c.args.p in
    sym
    (all_fails
    p.count
    (λ i. passes (goal.at.returns-then-not-sibling_ok c).Start (slot p i))
    c.loop-i.i
    (omega arith)
    (ap (passes (goal.at.returns-then-not-sibling_ok c).Start) (sym c.child_of-c.ensures)
    ∙ sym c.sibling_ok.ensures
    ∙ c.if-not-sibling_ok.true))

pub loop-i-preserved : goal.loop-i-preserved
loop-i-preserved c =
    let l = c.loop-i in (
      l.invariant.0,
      all_more l.i true true _ l.invariant.1
          (sym (c.if-not-sibling_ok.false)
          ∙ c.sibling_ok.ensures
          ∙ ap (passes (goal.at.loop-i-preserved c).Start) c.child_of-c.ensures),
    )

pub returns : goal.returns
unfolding siblings_pass
returns c =
    let a = c.args in
    let l = c.loop-i in
    let e : l.i ≡ (record_of a.t.now a.p).count = omega arith in
    rw (← e) l.invariant.1
