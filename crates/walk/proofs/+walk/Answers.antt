-- `walk::walk` meets its contract. Up to the loop this record is entered and noted, and all its children are left; in a
-- turn a child is too far, or not covered, or walked from with its bound. Assumes nothing.
use Rattle.std.proofs.Common.{ℕ, ◌+◌, ◌-◌, ◌*◌, ◌≤◌, ◌<◌, ◌≡◌, refl, List, ◌++◌, length, get_or, sym, ap, subst}
use Rattle.std.proofs.Common.{◌∙◌, arith, rules, take, min}
use Rattle.distance.specs.Laws.{farthest}
use Rattle.table.specs.Record.{record_of, slot}
use Rattle.table.specs.Stands.{Stands}
use Rattle.steps.specs.Step.{asked_of, away_in, is_entered, is_covered}
use Rattle.steps.specs.Loop.Children.{Compared, smallest_to, nearest_to, child_bound, entered_from, rest_from}
use Rattle.steps.specs.Loop.Laws as Children
use Rattle.walk.specs.State.{State, state, state_of, Fits, after, noted, walked}
use Rattle.walk.proofs.Walked as Walked
use Rattle.walk.proofs.+walk.Goals.{After-enters, After-children_of-n, In-loop-k}
use Rattle.walk.proofs.+walk.Goals.{then-away-near+then-covers, then-away-near+else-covers, else-away-near}
use Rattle.walk.proofs.+walk.Goals as goal

-- ---- the record is entered

-- the test of step 1 is the definition's
enters_is : (t : ℕ) (c : After-enters t) →
    let a = c.args in
    Children.enters_at (asked_of a.t.now a.asked.now) a.visit.slot a.visit.bound ≡ c.enters.result
enters_is t c =
    let a = c.args in
    sym
    (c.enters.ensures
    ∙ ap (λ (z : ℕ). is_entered (record_of a.t.now a.visit.slot) z a.asked.now.radius a.visit.bound)
    c.requires.walkable.2)

-- this record is entered: it is noted, and then all its children are left
entered : (t : ℕ) (c : After-children_of-n t) →
    let a = c.args in
    let v = a.visit in
    let Q = asked_of a.t.now a.asked.now in
    let S = state_of a.list.now a.start in
    after Q (noted Q v.slot S) (rest_from Q (a.left - 1) v.slot v.bound 0) ≡ walked Q a.left v.slot v.bound S
entered t c =
    let a = c.args in
    let v = a.visit in
    let p = c.requires.walkable in
    let slots = Children.walkable_slots a.t.now v.slot p.0 p.1 in
    Walked.entered_after (asked_of a.t.now a.asked.now) v.slot slots (state_of a.list.now a.start) a.left v.bound
    c.if-left-eq0.false
    (sym
    (c.enters.ensures
    ∙ ap (λ (z : ℕ). is_entered (record_of a.t.now v.slot) z a.asked.now.radius v.bound) p.2)
    ∙ c.if-not-enters.false)

-- what is found and counted then fits
fits : (t : ℕ) (c : After-children_of-n t) →
    let a = c.args in
    Fits a.list.now (noted (asked_of a.t.now a.asked.now) a.visit.slot (state_of a.list.now a.start))
fits t c =
    let a = c.args in
    let v = a.visit in
    let Q = asked_of a.t.now a.asked.now in
    Walked.fits_start Q a.list.now (noted Q v.slot (state_of a.list.now a.start))
    (rest_from Q (a.left - 1) v.slot v.bound 0)
    (subst (Fits a.list.now) (sym (entered t c)) c.requires.fits)

pub returns-then-left-eq0 : goal.returns-then-left-eq0
returns-then-left-eq0 t c =
    let a = c.args in
    let Q = asked_of a.t.now a.asked.now in
    Walked.stays Q (state_of a.list.now a.start) _
    (Children.visit_end Q a.left a.visit.slot a.visit.bound c.if-left-eq0.true)

pub returns-then-not-enters : goal.returns-then-not-enters
returns-then-not-enters t c =
    let a = c.args in
    let Q = asked_of a.t.now a.asked.now in
    Walked.stays Q (state_of a.list.now a.start) _
    (Children.visit_out Q a.left a.visit.slot a.visit.bound
    (enters_is t (goal.at.returns-then-not-enters t c).After-enters ∙ c.if-not-enters.true))

pub note-found-requires : goal.note-found-requires
note-found-requires t c =
    let a = c.args in
    let room = (fits t (goal.at.note-found-requires t c).After-children_of-n).0 in
    let p = c.requires.walkable in
    (p.1, rw (c.from-radius.ensures, p.2) room)

pub overflow_add-reached : goal.overflow_add-reached
overflow_add-reached t c =
    omega (arith, (fits t (goal.at.overflow_add-reached t c).After-children_of-n).1, c.children_of-n.ensures)

pub loop-k-init : goal.loop-k-init
unfolding smallest_to
loop-k-init t c =
    let a = c.args in
    let v = a.visit in
    let Q = asked_of a.t.now a.asked.now in
    let n = c.note-found.ensures in
    let begun : state c.note-found.new.list c.note-found.result (a.start.count + c.children_of-n.result)
    ≡ noted Q v.slot (state_of a.list.now a.start) =
    rw (n.0, n.1, c.children_of-n.ensures, c.from-radius.ensures, c.requires.walkable.2) in
    record {
      turn = ap (λ (z : State). after Q z (rest_from Q (a.left - 1) v.slot v.bound 0)) begun
          ∙ entered t (goal.at.loop-k-init t c).After-children_of-n;
      nearest = search rules;
    }

-- ---- a turn of the loop

-- the distances compared, and that of this turn
abbrev distances : (t : ℕ) → In-loop-k t → List ℕ
distances t c = take c.children_of-n.result c.distances-compared.result

abbrev away : (t : ℕ) → In-loop-k t → ℕ
away t c = get_or (distances t c) c.loop-k.k 0

-- the child of this turn, by the definition
abbrev child_slot : (t : ℕ) → In-loop-k t → ℕ
child_slot t c = slot (record_of c.args.t.now c.args.visit.slot) c.loop-k.k

-- all children are compared
compared : (t : ℕ) (c : In-loop-k t) →
    let a = c.args in
    let q = a.asked.now.query in
    let ds = distances t c in
    (length ds ≡ c.children_of-n.result)
    × Compared (record_of a.t.now) q.kind q.signature.readings a.visit.slot (length ds) ds
compared t c =
    let a = c.args in
    Children.compared_all (record_of a.t.now) a.asked.now.query.kind a.asked.now.query.signature.readings a.visit.slot
    c.children_of-n.result c.distances-compared.result (search rules) c.distances-compared.ensures

child_counted : (t : ℕ) (c : In-loop-k t) → c.loop-k.k < (record_of c.args.t.now c.args.visit.slot).count
child_counted t c = omega (arith, c.loop-k-test.true, (compared t c).0, c.children_of-n.ensures)

child_stands : (t : ℕ) (c : In-loop-k t) (x : ℕ) → x ≡ child_slot t c → Stands c.args.t.now x
child_stands t c x e =
    let p = c.requires.walkable in
    subst (Stands c.args.t.now) (sym e) (p.0.stand _ _ p.1 (child_counted t c))

-- how far the child is
child_away : (t : ℕ) (c : In-loop-k t) (x : ℕ) → x ≡ child_slot t c →
    away t c ≡ away_in (asked_of c.args.t.now c.args.asked.now) x
child_away t c x e =
    let a = c.args in
    (compared t c).1.each c.loop-k.k c.loop-k-test.true ∙ ap (away_in (asked_of a.t.now a.asked.now)) (sym e)

-- the child is near enough
child_near : (t : ℕ) (c : In-loop-k t) →
    let a = c.args in
    let Q = asked_of a.t.now a.asked.now in
    away t c ≤ c.loop-k.near + 2 * c.from-radius.result
    → away_in Q (child_slot t c) ≤ nearest_to Q a.visit.slot c.loop-k.k + 2 * a.asked.now.radius
child_near t c h =
    omega (arith, h, child_away t c (child_slot t c) refl, c.loop-k.invariant.nearest, c.from-radius.ensures)

-- with the bound u its walk comes first of what is left
child_first : (t : ℕ) (c : In-loop-k t) →
    let a = c.args in
    let v = a.visit in
    let Q = asked_of a.t.now a.asked.now in
    let k = c.loop-k.k in
    away t c ≤ c.loop-k.near + 2 * c.from-radius.result
    → (x u : ℕ)
    → x ≡ child_slot t c
    → u ≡ child_bound Q v.slot k v.bound
    → rest_from Q (a.left - 1) v.slot v.bound k
    ≡ entered_from Q (a.left - 1) x u ++ rest_from Q (a.left - 1) v.slot v.bound (k + 1)
child_first t c h x u i e =
    let a = c.args in
    let v = a.visit in
    let p = c.requires.walkable in
    let slots = Children.walkable_slots a.t.now v.slot p.0 p.1 in
    Children.rest_in (asked_of a.t.now a.asked.now) v.slot slots (a.left - 1) v.bound c.loop-k.k x u (child_counted t c)
    (child_near t c h) i e

pub overflow_add-near : goal.overflow_add-near
overflow_add-near t c =
    let small : c.loop-k.near ≤ farthest = rw c.loop-k.invariant.nearest (Children.smallest_at_most _ _ _) in
    search rules

pub walk-reached-requires : goal.walk-reached-requires
walk-reached-requires t c =
    let a = c.args in
    let v = a.visit in
    let Q = asked_of a.t.now a.asked.now in
    let p = c.requires.walkable in
    let h = (goal.at.walk-reached-requires t c).In-loop-k in
    let x = c.child_of-child.result in
    let i = c.child_of-child.ensures in
    let now = state_of c.loop-k.list c.loop-k.reached in
    let es = entered_from Q (a.left - 1) x c.bound_of-bound.result in
    let first = child_first t h c.if-away-near.true x c.bound_of-bound.result i
    (c.bound_of-bound.ensures _ _ (compared t h).1) in
    let room : Fits a.list.now (walked Q (a.left - 1) x c.bound_of-bound.result now) =
    Walked.fits_first Q a.list.now now es (rest_from Q (a.left - 1) v.slot v.bound (c.loop-k.k + 1))
    (subst (Fits a.list.now) (sym c.loop-k.invariant.turn ∙ ap (after Q now) first) c.requires.fits) in
    let long : length c.loop-k.list ≡ length a.list.now = search rules in (
      omega (arith, c.if-left-eq0.false, c.decreases),
      ((p.0, child_stands t h x i, child_away t h x i), (omega (arith, room.0, long), room.1)),
    )

pub loop-k-preserved : goal.loop-k-preserved
loop-k-preserved t c =
    let a = c.args in
    let v = a.visit in
    let Q = asked_of a.t.now a.asked.now in
    let p = c.requires.walkable in
    let few = Children.walkable_slots a.t.now v.slot p.0 p.1 in
    let h = (goal.at.loop-k-preserved t c).In-loop-k in
    let l = c.loop-k in
    let now = state_of l.list l.reached in
    let end = state_of c.if-away-near.list c.if-away-near.reached in
    let left : List ℕ = rest_from Q (a.left - 1) v.slot v.bound l.k in
    let after_it : List ℕ = rest_from Q (a.left - 1) v.slot v.bound (l.k + 1) in
    -- whichever way, what was left at k is what the turn enters, and what is left at k + 1
    let turned : after Q end after_it ≡ after Q now left =
    elim c.if-away-near.branch [
      | then-away-near+then-covers w ↦
          (Walked.turn_walked Q now end left after_it
          (entered_from Q (a.left - 1) w.child_of-child.result w.bound_of-bound.result)
          (Walked.same_state w.list-is w.reached-is ∙ w.walk-reached.ensures)
          (child_first t h w.if-away-near.true w.child_of-child.result w.bound_of-bound.result w.child_of-child.ensures
          (w.bound_of-bound.ensures _ _ (compared t h).1))).1
      | then-away-near+else-covers w ↦
          (Walked.turn_passed Q now end left after_it (Walked.same_state w.list-is w.reached-is)
          (Children.rest_uncovered Q v.slot few (a.left - 1) v.bound l.k w.child_of-child.result
          (child_counted t h)
          (child_near t h w.if-away-near.true)
          w.child_of-child.ensures
          (ap (λ (z : ℕ). is_covered (Q.records w.child_of-child.result) z a.asked.now.radius)
          (sym (child_away t h w.child_of-child.result w.child_of-child.ensures))
          ∙ sym w.covers.ensures
          ∙ w.if-covers.false))).1
      | else-away-near w ↦
          (Walked.turn_passed Q now end left after_it (Walked.same_state w.list-is w.reached-is)
          (Children.rest_out Q v.slot few (a.left - 1) v.bound l.k (child_counted t h)
          (omega (
            arith,
            w.if-away-near.false,
            child_away t h (child_slot t h) refl,
            l.invariant.nearest,
            c.from-radius.ensures,
          )))).1
    ] in
    record {
      turn = turned ∙ l.invariant.turn;
      nearest =
          c.min-near.ensures
          ∙ ap (min l.near) (child_away t h (child_slot t h) refl)
          ∙ Children.smallest_more l.k (λ j. away_in Q (slot (Q.records v.slot) j)) farthest _ l.invariant.nearest;
    }

-- ---- after the loop

pub returns : goal.returns
returns t c =
    let a = c.args in
    let v = a.visit in
    let Q = asked_of a.t.now a.asked.now in
    let p = c.requires.walkable in
    let slots = Children.walkable_slots a.t.now v.slot p.0 p.1 in
    let n = c.children_of-n.result in
    let all : length (take n c.distances-compared.result) ≡ n = search rules in
    Walked.stays Q (state_of c.loop-k.list c.loop-k.reached) _
    (Children.rest_end Q v.slot slots (a.left - 1) v.bound c.loop-k.k
    (omega (arith, c.children_of-n.ensures, c.loop-k-test.false)))
    ∙ c.loop-k.invariant.turn
