-- `taking::take_all` meets its contract. The loop's invariant: the work that is left, from what stands in the rows on,
-- ends where the whole work ends; and each key that waits tells a slot and a bound. Assumes nothing.
use Rattle.std.specs.Prelude.{ℕ, ◌+◌, ◌-◌, ◌≡◌, get_or}
use Rattle.std.proofs.Common.{Fits, w16, sym, ap, ap₂, subst, ◌∙◌, arith, rules}
use Rattle.distance.specs.Signature.{Fit}
use Rattle.table.specs.Record.{record_of}
use Rattle.table.specs.Fitting.{record_fits}
use Rattle.steps.specs.Loop.Laws.{count_slots}
use Rattle.waiting.specs.Key.{first_in, slot_in}
use Rattle.waiting.specs.Front.{State, meet_children, finish}
use Rattle.waiting.specs.Rows.{front_of, Known}
use Rattle.waiting.specs.Going.{finish_end}
use Rattle.waiting.specs.Known.{Tells, children_known}
use Rattle.taking.specs.Next.{Over, Taken}
use Rattle.taking.proofs.NextTaken.{key_tells, rest_known, over_ends, taken_goes, children_counted}
use Rattle.taking.proofs.take_all.Goals.{In-Some}
use Rattle.taking.proofs.take_all.Goals as goal

-- each reading of the query is a 16-bit number, by its type
fit : (c : In-Some) → Fit c.args.q.signature.readings
fit c = λ i.
    let number : Fits w16 (get_or c.args.q.signature.readings i 0) = search rules in
    number.fits

-- a record is taken
taken : (c : In-Some)
    → Taken c.args.front.now.k c.in-Some.key (front_of c.loop.front) (front_of c.next.new.front)
taken c =
    subst (λ (k : ℕ). Taken k c.in-Some.key (front_of c.loop.front) (front_of c.next.new.front))
    c.loop.invariant.same_k c.in-Some.ensures.0

same_k : (c : In-Some) → c.next.new.front.k ≡ c.args.front.now.k
same_k c = c.next.ensures.1 ∙ c.loop.invariant.same_k

-- its slot stands, and its bound is a distance
tells : (c : In-Some) → Tells c.args.t.now c.in-Some.key
tells c = key_tells c.args.t.now (taken c) c.loop.invariant.known

pub returns-in_default : goal.returns-in_default
returns-in_default c =
    let a = c.args in
    let k = a.front.now.k in
    let stays = c.in_default.ensures.0 in
    let over = subst (λ (n : ℕ). Over n (front_of c.loop.front)) c.loop.invariant.same_k stays.0 in (
      stays.1
          ∙ sym (over_ends (record_of a.t.now) a.q.kind a.q.signature.readings k (a.most - c.loop.counter)
          (front_of c.loop.front)
          over)
          ∙ c.loop.invariant.rest,
      c.next.ensures.1 ∙ c.loop.invariant.same_k,
    )

pub meet_children-requires-clause-walkable : goal.meet_children-requires-clause-walkable
meet_children-requires-clause-walkable c =
    let told = tells (goal.at.meet_children-requires-clause-walkable c).In-Some in
    (c.requires.walkable.0, rw c.slot_in.ensures.0 told.0, rw c.first_in.ensures told.1)

pub meet_children-requires-clause-room : goal.meet_children-requires-clause-room
meet_children-requires-clause-room c =
    let a = c.args in
    let l = a.t.now in
    let s = (goal.at.meet_children-requires-clause-room c).In-Some in
    omega (
      arith,
      ap (λ (x : ℕ). (record_of l x).count) c.slot_in.ensures.0,
      children_counted (record_of l) a.q.kind a.q.signature.readings a.front.now.k (a.most - c.loop.counter) (taken s)
          (omega arith) (count_slots l (slot_in c.in-Some.key) (c.requires.walkable.0.few _ (tells s).0)),
      ap (λ (z : State). z.count) c.loop.invariant.rest,
      c.requires.rows.1,
    )

pub loop-preserved : goal.loop-preserved
loop-preserved c =
    let a = c.args in
    let l = a.t.now in
    let R = record_of l in
    let k = a.front.now.k in
    let p = c.requires.walkable in
    let here = (goal.at.loop-preserved c).In-Some in
    let slot = slot_in c.in-Some.key in
    let bound = first_in c.in-Some.key in
    let left = a.most - c.loop.counter in
    let next = a.most - (c.loop.counter + 1) in
    let compared : front_of c.meet_children.new.front
    ≡ meet_children R a.q.kind a.q.signature.readings k slot bound (front_of c.next.new.front) =
    rw (← same_k here, ← c.slot_in.ensures.0, ← c.first_in.ensures) c.meet_children.ensures.0 in
    let one_less : next ≡ left - 1 = omega arith in
    record {
      known =
          subst (λ (z : State). Known l z.waits) (sym compared)
          (children_known l (λ s. record_fits l s (λ i. omega (arith, c.type_inv.t i))) p.1 a.q.kind
          a.q.signature.readings (fit here) k slot bound (front_of c.next.new.front) p.0 (tells here).0 (tells here).1
          (rest_known l (taken here) c.loop.invariant.known));
      same_k = c.meet_children.ensures.1 ∙ same_k here;
      rest =
          ap₂ (finish R a.q.kind a.q.signature.readings k) one_less compared
          ∙ sym (taken_goes R a.q.kind a.q.signature.readings k left (taken here) (omega arith))
          ∙ c.loop.invariant.rest;
    }

pub returns : goal.returns
returns c =
    let a = c.args in
    let done = c.loop.invariant in (
      sym (finish_end (record_of a.t.now) a.q.kind a.q.signature.readings a.front.now.k (a.most - c.loop.counter)
          (front_of c.loop.front)
          (omega arith))
          ∙ done.rest,
      done.same_k,
    )
