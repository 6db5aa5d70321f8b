-- `descent::nearest_child` meets its contract. The loop's invariant: what is left of the scan leads from the nearest of
-- the first k children to the nearest of all. Assumes nothing.
use Rattle.std.specs.Prelude.{ℕ, ◌≤◌, ◌<◌, ◌≡◌, refl, Some, MatchOption, IsTrue, get_or, ltb, length}
use Rattle.std.proofs.Common.{sym, ◌∙◌, arith, rules}
use Rattle.places.specs.Choice.{pick}
use Rattle.distance.specs.Kind.{apart}
use Rattle.table.specs.Record.{Record, record_of, children}
use Rattle.table.specs.Same.{slots_length}
use Rattle.view.specs.Children.{children_length, children_slot}
use Rattle.descent.specs.Loop.Nearest.{near, nearer_is, scanned_more, scanned_end}
use Rattle.descent.proofs.nearest_child.Goals.{
  At-loop-k,
  In-loop-k,
  Joined-is_none_or,
  then-is_none_or,
  else-is_none_or,
}
use Rattle.descent.proofs.nearest_child.Goals as goal

-- the record, whose children are as many as its count
abbrev r : At-loop-k → Record
r c = record_of c.args.t.now c.args.a

-- the distance of each record to the query
abbrev far : At-loop-k → ℕ → ℕ
far c i = apart c.args.query.kind (record_of c.args.t.now i).readings c.args.query.signature.readings

fits : (c : At-loop-k) → (r c).count ≤ length (r c).slots
fits c =
    let a = c.args in
    omega (arith, c.requires.0.few a.a c.requires.1, slots_length a.t.now a.a)

inside : (c : In-loop-k) → c.loop-k.k < (record_of c.args.t.now c.args.a).count
inside c = omega (arith, c.loop-k-test.true, c.children_of-k-end.ensures)

-- whether the child was nearer, and what is nearest then
took : (c : Joined-is_none_or) →
    MatchOption c.loop-k.nearest (IsTrue c.is_none_or.result)
    (λ m. c.is_none_or.result ≡ ltb c.away_from-away.result m.away)
took c = search rules

taken : (c : Joined-is_none_or) →
    c.if-is_none_or.nearest
    ≡ pick c.is_none_or.result (Some (near c.child_of-slot.result c.away_from-away.result)) c.loop-k.nearest
taken c = elim c.if-is_none_or.branch [
  | then-is_none_or w ↦ rw w.if-is_none_or.true w.nearest-is
  | else-is_none_or w ↦ rw w.if-is_none_or.false w.nearest-is
]

pub loop-k-init : goal.loop-k-init
loop-k-init c = refl

pub loop-k-preserved : goal.loop-k-preserved
loop-k-preserved c =
    let at = goal.at.loop-k-preserved c in
    let l = c.loop-k in
    let here = r at.At-loop-k in
    let small = fits at.At-loop-k in
    let cs = children here in
    let b = c.child_of-slot.result in
    let child : get_or cs l.k 0 ≡ b =
    children_slot here small l.k (inside at.In-loop-k) ∙ sym c.child_of-slot.ensures in
    let nearer = nearer_is (far at.At-loop-k) l.nearest b _ c.is_none_or.result c.away_from-away.ensures.0 (took c) in
    rw (taken c ∙ nearer)
    (sym (rw child at (scanned_more (far at.At-loop-k) l.nearest l.k cs
    (omega (arith, inside at.In-loop-k, children_length here small))))
    ∙ l.invariant)

pub returns : goal.returns
returns c =
    let at = goal.at.returns c in
    let here = r at.At-loop-k in
    sym (scanned_end (far at.At-loop-k) c.loop-k.nearest c.loop-k.k (children here)
    (omega (arith, c.loop-k-test.false, c.children_of-k-end.ensures, children_length here (fits at.At-loop-k))))
    ∙ c.loop-k.invariant
