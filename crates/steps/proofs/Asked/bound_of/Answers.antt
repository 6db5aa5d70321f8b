-- `steps::Asked::bound_of` meets its contract. The loop's invariant: what is left of the definition from sibling j on,
-- started from the lowest so far, is the definition itself. Assumes nothing.
use Rattle.std.specs.Prelude.{ℕ, ◌+◌, ◌*◌, ◌≡◌, ltb, get_or}
use Rattle.std.proofs.Common.{sym, ap, ◌∙◌, arith}
use Rattle.table.specs.Record.{record_of, slot}
use Rattle.tree.specs.Search.{least}
use Rattle.steps.specs.Step.{asked}
use Rattle.steps.specs.Loop.Children.{bound_on}
use Rattle.steps.specs.Loop.Laws.{walkable_slots, bound_step, bound_end, least_taken, least_left}
use Rattle.steps.proofs.Asked.bound_of.Goals.{then-ds-j, else-ds-j, Joined-ds-j}
use Rattle.steps.proofs.Asked.bound_of.Goals as goal

-- a turn is a step of the definition, whatever the distances x of this sibling and y of the child are called
turned : (c : Joined-ds-j) →
    let a = c.args in
    let R = record_of a.t.now in
    (x y : ℕ)
    → get_or a.ds.now c.loop-j.j 0 ≡ x
    → get_or a.ds.now a.k 0 ≡ y
    → c.if-ds-j.lowest
    ≡ least (ltb (x + 2 * a.self.radius) y) (R (slot (R a.visit.slot) c.loop-j.j)).timestamp c.loop-j.lowest
turned c x y ex ey =
    let a = c.args in
    let R = record_of a.t.now in
    let time : ℕ = (R (slot (R a.visit.slot) c.loop-j.j)).timestamp in
    let margin = c.from-margin.ensures in
    elim c.if-ds-j.branch [
      | then-ds-j w ↦
          let e : w.timestamp_of.result ≡ time =
          w.timestamp_of.ensures ∙ ap (λ (z : ℕ). (R z).timestamp) w.child_of-sibling.ensures in
          let taken = least_taken (x + 2 * a.self.radius) y time c.loop-j.lowest (omega arith) in
          omega arith
      | else-ds-j w ↦
          w.lowest-is ∙ least_left (x + 2 * a.self.radius) y time c.loop-j.lowest (omega arith)
    ]

pub loop-j-preserved : goal.loop-j-preserved
loop-j-preserved c = λ kind q h.
    let a = c.args in
    let p = c.requires.walkable in
    let Q = asked (record_of a.t.now) kind q a.self.radius in
    let slots = walkable_slots a.t.now a.visit.slot p.0 p.1 in
    ap
    (λ (z : ℕ). bound_on Q a.visit.slot a.k z (c.loop-j.j + 1))
    (turned (goal.at.loop-j-preserved c).Joined-ds-j _ _ (h.each c.loop-j.j c.loop-j-test.true)
    (h.each a.k c.requires.child.0))
    ∙ sym (bound_step Q a.visit.slot slots c.loop-j.lowest a.k c.loop-j.j (omega (arith, c.loop-j-test.true, p.2)))
    ∙ c.loop-j.invariant kind q h

pub returns : goal.returns
returns c = λ kind q h.
    let a = c.args in
    let p = c.requires.walkable in
    let Q = asked (record_of a.t.now) kind q a.self.radius in
    let slots = walkable_slots a.t.now a.visit.slot p.0 p.1 in
    sym (bound_end Q a.visit.slot slots c.loop-j.lowest a.k c.loop-j.j (omega (arith, p.2)))
    ∙ c.loop-j.invariant kind q h
