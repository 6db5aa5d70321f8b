-- `soundness::above_ok` meets its contract, one law of `passes` for each way through it; the distance is the same both
-- ways. Assumes nothing.
use Rattle.std.specs.Prelude.{ℕ, ◌≤◌, ◌<◌, ◌≡◌, List}
use Rattle.std.proofs.Common.{sym, ap, ◌∙◌, arith}
use Rattle.distance.specs.Kind.{apart, apart_distance}
use Rattle.table.specs.Record.{record_of, no_slot}
use Rattle.table.specs.Stands.{Stands}
use Rattle.soundness.specs.Climb.{passes_far, passes_root, passes_child, siblings_pass}
use Rattle.soundness.specs.HoldsCard.{card_stands, parent_card}
use Rattle.soundness.proofs.above_ok.Goals.{Start, Then-far-radius_of}
use Rattle.soundness.proofs.above_ok.Goals as goal

-- b stands
here : (b : Start) → Stands b.args.t.now b.args.b
here b = card_stands b.args.t.now b.args.b b.requires.1

-- how far b is from x is how far x is from b
turned : (kind far : ℕ) (b x : List ℕ) → far ≡ apart kind b x → far ≡ apart kind x b
turned kind far b x e = e ∙ (apart_distance kind).both_ways b x

-- x is within the radius of b
covered : (c : Then-far-radius_of) →
    let a = c.args in
    apart a.x.query.kind a.x.query.signature.readings (record_of a.t.now a.b).readings ≤ (record_of a.t.now a.b).radius
covered c = omega (arith, turned _ _ _ _ c.away_from-far.ensures.0, c.radius_of.ensures, c.if-far-radius_of.true)

pub away_from-far-requires : goal.away_from-far-requires
away_from-far-requires c = here (goal.at.away_from-far-requires c).Start

pub radius_of-requires : goal.radius_of-requires
radius_of-requires c = here (goal.at.radius_of-requires c).Start

pub parent_of-requires : goal.parent_of-requires
parent_of-requires c = here (goal.at.parent_of-requires c).Start

-- a parent that was read is one
some : (p : ℕ) → p < no_slot → p ≡ no_slot → ⊥
some p h e = omega (arith, h, e)

pub siblings_ok-requires : goal.siblings_ok-requires
siblings_ok-requires c =
    let p = c.in-Some.ensures in
    let above = parent_card c.args.t.now c.args.b c.requires.0 c.requires.1 (λ e. some _ p.1 (p.0 ∙ e)) in
    (c.requires.0, rw p.0 above, turned _ _ _ _ c.away_from-far.ensures.0)

pub returns-in-None : goal.returns-in-None
returns-in-None c =
    let a = c.args in
    sym
    (passes_root (record_of a.t.now) a.x.query.kind a.x.query.signature.readings a.x.timestamp a.b
    (covered (goal.at.returns-in-None c).Then-far-radius_of)
    (sym c.in-None.ensures.0))

pub returns-in-Some : goal.returns-in-Some
returns-in-Some c =
    let a = c.args in
    let R = record_of a.t.now in
    let p = c.in-Some.ensures in
    c.siblings_ok.ensures
    ∙ ap (siblings_pass R a.x.query.kind a.x.query.signature.readings a.x.timestamp a.b) p.0
    ∙ sym
    (passes_child R a.x.query.kind a.x.query.signature.readings a.x.timestamp a.b
    (covered (goal.at.returns-in-Some c).Then-far-radius_of)
    (λ e. some _ p.1 (p.0 ∙ e)))

pub returns-else-far-radius_of : goal.returns-else-far-radius_of
returns-else-far-radius_of c =
    let a = c.args in
    sym
    (passes_far (record_of a.t.now) a.x.query.kind a.x.query.signature.readings a.x.timestamp a.b
    (omega (arith, turned _ _ _ _ c.away_from-far.ensures.0, c.radius_of.ensures, c.if-far-radius_of.false)))
