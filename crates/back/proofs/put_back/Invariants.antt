-- `back::put_back` meets its contract. The loop's invariant: those in the keys before are back and the others wait, so
-- that what is left to do leads to the end of the rule. Assumes nothing.
use Rattle.std.specs.Prelude.{◌-◌, ◌≡◌, map, length, drop}
use Rattle.age.specs.Key.{slot_in}
use Rattle.back.specs.Loop.Pending.{Pending, CountFits, rest_back}
use Rattle.back.proofs.put_back.Given as goal

abbrev pub invariant-loop-key : goal.invariant-loop-key
invariant-loop-key l =
    let now = l.tree in
    let first = l.fn.tree in
    let ss = map slot_in l.keys in
    let waiting = drop l.key-index ss in
    CountFits l.count (length l.keys - l.key-index)
    × Pending l.t waiting now.kind now.arity now.root now.depth l.clock
    × (rest_back now.kind now.arity l.t waiting l.count ≡ rest_back first.kind first.arity l.initial.t ss 0)
