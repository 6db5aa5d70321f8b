-- `removal::disown` meets its contract: the child slots are closed up, the last becomes 65,535, and the count is one
-- less. Assumes nothing.
use Rattle.removal.specs.Loop.Closed.{closed_disowning}
use Rattle.removal.proofs.disown.Goals.{After-close_up, After-put_slot}
use Rattle.removal.proofs.disown.Goals as goal

pub returns : goal.returns
returns c =
    let n = c.count_of-n in
    let a = c.args in
    closed_disowning a.t.now a.p a.v c.requires.0 c.requires.1 n.result n.ensures
    c.close_up.new.t c.put_slot.new.t c.put_count.new.t
    (rw c.from.ensures at c.close_up.ensures) (rw c.from-2.ensures at c.put_slot.ensures) c.put_count.ensures
