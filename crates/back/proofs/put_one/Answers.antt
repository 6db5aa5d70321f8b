-- `back::back::put_one` meets its contract: the seat of a root, or a newcomer hung. Assumes nothing.
use Rattle.std.proofs.Common.{sym, ◌∙◌}
use Rattle.distance.specs.Kind.{apart}
use Rattle.table.specs.Table.{records_of, at}
use Rattle.newcomer.specs.Newcomer.{brought}
use Rattle.back.specs.Loop.Puts.{puts_seat, puts_child}
use Rattle.back.proofs.put_one.Goals as goal

pub returns-then-tree-eq0 : goal.returns-then-tree-eq0
returns-then-tree-eq0 c =
    let a = c.args in
    puts_seat (apart a.tree.kind) a.tree.arity a.s a.t.now c.seat.new.t a.tree.depth a.tree.root a.timestamp
    c.requires.0 c.if-tree-eq0.true c.seat.ensures

pub returns : goal.returns
returns c =
    let a = c.args in
    let rows = records_of a.t.now in
    c.hang.ensures.0
    ∙ sym
    (puts_child (apart a.tree.kind) a.tree.arity a.s (brought (at rows a.s)) rows a.tree.depth a.tree.root a.timestamp
    c.if-tree-eq0.false)
