-- `back::put_back` meets its contract. The loop's invariant: those in the keys before are back and the others wait, so
-- that what is left to do leads to the end of the rule. Assumes nothing.
use Rattle.std.specs.Prelude.{◌+◌, ◌*◌, ◌≤◌, ◌≡◌, refl, ◌∷◌, map, length, drop}
use Rattle.std.proofs.Common.{◌∙◌, arith, rules}
use Rattle.refusals.specs.Limits.{most_records, last_timestamp}
use Rattle.age.specs.Key.{slot_in, slots_next, slots_end}
use Rattle.back.specs.Loop.Pending.{
  Pending,
  count_start,
  count_room,
  count_more,
  rest_back,
  rest_back_end,
  pending_keys_few,
  pending_stands,
  pending_clock,
  pending_deep,
  pending_hangable,
  pending_few,
  pending_next,
  pending_rest,
}
use Rattle.back.proofs.put_back.Goals.{After-slot_of_key-s}
use Rattle.back.proofs.put_back.Goals as goal

-- the next that waits
turn : (c : After-slot_of_key-s) →
    let l = c.loop-key in
    let waiting = drop (l.key-index + 1) (map slot_in c.args.keys.now) in
    Pending l.t (c.slot_of_key-s.result ∷ waiting) l.tree.kind l.tree.arity l.tree.root l.tree.depth l.clock
turn c = let l = c.loop-key in
    rw c.slot_of_key-s.ensures (rw (slots_next c.args.keys.now l.key-index c.loop-key-test.true) at l.invariant.1)

-- what is left to do leads to the end
left : (c : After-slot_of_key-s) →
    let a = c.args in
    let l = c.loop-key in
    let ss = map slot_in a.keys.now in
    rest_back l.tree.kind l.tree.arity l.t (c.slot_of_key-s.result ∷ drop (l.key-index + 1) ss) l.count
    ≡ rest_back a.tree.kind a.tree.arity a.t.now ss 0
left c = let l = c.loop-key in
    rw c.slot_of_key-s.ensures (rw (slots_next c.args.keys.now l.key-index c.loop-key-test.true) at l.invariant.2)

pub loop-key-init : goal.loop-key-init
loop-key-init c =
    let keys = c.args.keys.now in
    (count_start (length keys) (pending_keys_few keys c.requires), c.requires, refl)

pub overflow_add-clock : goal.overflow_add-clock
overflow_add-clock c =
    let now = turn (goal.at.overflow_add-clock c).After-slot_of_key-s in
    let h : c.loop-key.clock + 1 ≤ last_timestamp = pending_clock now in
    search rules

pub put_one-count-requires : goal.put_one-count-requires
put_one-count-requires c =
    let now = turn (goal.at.put_one-count-requires c).After-slot_of_key-s in
    (pending_stands now, pending_hangable now)

pub overflow_add-count : goal.overflow_add-count
overflow_add-count c =
    let l = c.loop-key in
    let p = c.put_one-count in
    let now = turn (goal.at.overflow_add-count c).After-slot_of_key-s in
    let few = pending_few now p.new.t p.result p.ensures in
    let h : l.count + p.result ≤ most_records * most_records =
    count_room l.count (length c.args.keys.now) l.key-index p.result l.invariant.0 c.loop-key-test.true few in
    search rules

pub with_record-tree-requires : goal.with_record-tree-requires
with_record-tree-requires c =
    pending_deep (turn (goal.at.with_record-tree-requires c).After-slot_of_key-s)

pub loop-key-preserved : goal.loop-key-preserved
loop-key-preserved c =
    let l = c.loop-key in
    let p = c.put_one-count in
    let at = (goal.at.loop-key-preserved c).After-slot_of_key-s in
    let now = turn at in
    let new = c.with_record-tree.ensures in
    let few = pending_few now p.new.t p.result p.ensures in (
      count_more l.count (length c.args.keys.now) l.key-index p.result l.invariant.0 c.loop-key-test.true few,
      rw (new.kind, new.arity, new.root, new.depth) (pending_next now p.new.t p.result p.ensures p.auto.t),
      rw (new.kind, new.arity) (pending_rest now p.new.t p.result p.ensures l.count ∙ left at),
    )

pub returns : goal.returns
returns c =
    let a = c.args in
    let l = c.loop-key in
    rest_back_end l.tree.kind l.tree.arity l.t l.count
    ∙ rw (slots_end a.keys.now l.key-index (omega (arith, c.loop-key-test.false))) at l.invariant.2
