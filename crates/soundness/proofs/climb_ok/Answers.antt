-- `soundness::climb_ok` meets its contract. The loop keeps one equation: the climb from b with the levels left says
-- what the whole climb says; and b is the slot of a card, or no slot. Assumes nothing.
use Rattle.std.specs.Prelude.{◌+◌, ◌-◌, ◌<◌, ◌≡◌, refl}
use Rattle.std.proofs.Common.{ap, sym, ◌∙◌, arith}
use native.Mathlib.Numerals.{unary_clauses}
use Rattle.table.specs.Record.{record_of, slot_told, no_slot}
use Rattle.soundness.specs.HoldsCard.{HoldsCard, card_stands, parent_if_any}
use Rattle.soundness.specs.Climb.{climb, climb_end, climb_top, climb_stop, climb_up}
use Rattle.soundness.proofs.climb_ok.Goals.{In-Some}
use Rattle.soundness.proofs.climb_ok.Goals as goal

-- a slot above holds a card there
carded : (c : In-Some) → HoldsCard c.args.t.now c.in-Some.above × (c.in-Some.above < no_slot)
carded c = c.loop.invariant.0 c.in-Some.above c.in-Some.is

pub loop-init : goal.loop-init
loop-init c = (c.requires.1, simp unary_clauses refl)

pub returns-in_default : goal.returns-in_default
returns-in_default c =
    let a = c.args in
    let l = c.loop in
    let left = a.levels - l.counter in
    sym
    (climb_top (record_of a.t.now) a.x.query.kind a.x.query.signature.readings a.x.timestamp left (slot_told l.b)
    (ap slot_told c.in_default.is))
    ∙ l.invariant.1

-- the climb from there says what the whole climb says
same : (c : In-Some) →
    let a = c.args in
    climb (record_of a.t.now) a.x.query.kind a.x.query.signature.readings a.x.timestamp (a.levels - c.loop.counter)
    c.in-Some.above
    ≡ climb (record_of a.t.now) a.x.query.kind a.x.query.signature.readings a.x.timestamp a.levels (slot_told a.from)
same c =
    let a = c.args in
    ap
    (climb (record_of a.t.now) a.x.query.kind a.x.query.signature.readings a.x.timestamp (a.levels - c.loop.counter))
    (sym (ap slot_told c.in-Some.is))
    ∙ c.loop.invariant.1

pub above_ok-requires : goal.above_ok-requires
above_ok-requires c = (c.requires.0, (carded (goal.at.above_ok-requires c).In-Some).0)

pub returns-then-not-above_ok : goal.returns-then-not-above_ok
returns-then-not-above_ok c =
    let a = c.args in
    let here = (goal.at.returns-then-not-above_ok c).In-Some in
    let few = (carded here).1 in
    sym
    (climb_stop
    (record_of a.t.now)
    a.x.query.kind a.x.query.signature.readings a.x.timestamp
    (a.levels - c.loop.counter)
    c.in-Some.above
    (omega arith)
    (λ e. omega (arith, e, few))
    (sym c.above_ok.ensures ∙ c.if-not-above_ok.true))
    ∙ same here

pub parent_of-b-requires : goal.parent_of-b-requires
parent_of-b-requires c =
    card_stands c.args.t.now c.in-Some.above (carded (goal.at.parent_of-b-requires c).In-Some).0

pub loop-preserved : goal.loop-preserved
loop-preserved c =
    let a = c.args in
    let l = c.loop in
    let above = c.in-Some.above in
    let here = (goal.at.loop-preserved c).In-Some in
    let card = carded here in
    let passed = c.if-not-above_ok.false in (
      parent_if_any a.t.now above c.parent_of-b.result c.requires.0 card.0 c.parent_of-b.ensures,
      rw c.parent_of-b.ensures.0
          (sym
          (climb_up
          (record_of a.t.now)
          a.x.query.kind a.x.query.signature.readings a.x.timestamp
          (a.levels - l.counter)
          (a.levels - (l.counter + 1))
          above
          (omega arith)
          (λ e. omega (arith, e, card.1))
          (sym c.above_ok.ensures ∙ passed))
          ∙ same here),
    )

pub returns : goal.returns
returns c =
    let a = c.args in
    let l = c.loop in
    let left = a.levels - l.counter in
    sym
    (climb_end (record_of a.t.now) a.x.query.kind a.x.query.signature.readings a.x.timestamp left (slot_told l.b)
    (omega arith))
    ∙ l.invariant.1
