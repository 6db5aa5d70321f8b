-- `links::children_ok` meets its contract. The loop's invariant: the i children passed are linked to s, and
-- `before` is the last one's timestamp, at first the record's own. Assumes nothing.
use Rattle.std.specs.Prelude.{◌≡◌, refl, Bool, true, false, ◌||◌, not, eqb, leb}
use Rattle.std.proofs.Common.{ap, sym, ◌∙◌, arith}
use Rattle.table.specs.Record.{record_of}
use Rattle.links.specs.Loop.Children.{linked_start, linked_out, linked_not, linked_turn, linked_end}
use Rattle.links.proofs.children_ok.Goals.{After-is_child_of}
use Rattle.links.proofs.children_ok.Goals as goal

-- the test as the code makes it is that of the child's record
tested : (c : After-is_child_of) (t : Bool)
    → not c.is_child_of.result || leb c.timestamp_of-younger.result c.loop-i.before ≡ t
    → not (eqb (record_of c.args.t.now c.child_of-c.result).parent c.args.s)
    || leb c.timestamp_of-younger.result c.loop-i.before ≡ t
tested c t e =
    ap (λ (b : Bool). not b || leb c.timestamp_of-younger.result c.loop-i.before) (sym c.is_child_of.ensures) ∙ e

pub loop-i-init : goal.loop-i-init
loop-i-init c =
    rw c.timestamp_of-before.ensures (linked_start c.args.n (record_of c.args.t.now) c.args.s)

pub returns-then-c-n : goal.returns-then-c-n
returns-then-c-n c =
    let l = c.loop-i in
    let a = c.args in
    linked_out
    a.n
    (record_of a.t.now)
    a.s
    l.i
    l.before
    c.child_of-c.result
    c.child_of-c.ensures
    (omega arith)
    (omega arith)

pub returns-then-is_child_of-younger : goal.returns-then-is_child_of-younger
returns-then-is_child_of-younger c =
    let l = c.loop-i in
    let a = c.args in
    linked_not
    a.n
    (record_of a.t.now)
    a.s
    l.i
    l.before
    c.child_of-c.result
    c.child_of-c.ensures
    (record_of a.t.now c.child_of-c.result).parent
    c.timestamp_of-younger.result
    (omega arith)
    refl
    c.timestamp_of-younger.ensures
    l.invariant
    (omega arith)
    (tested (goal.at.returns-then-is_child_of-younger c).After-is_child_of true c.if-is_child_of-younger.true)

pub loop-i-preserved : goal.loop-i-preserved
loop-i-preserved c =
    let l = c.loop-i in
    let a = c.args in
    linked_turn
    a.n
    (record_of a.t.now)
    a.s
    l.i
    l.before
    c.child_of-c.result
    c.child_of-c.ensures
    (record_of a.t.now c.child_of-c.result).parent
    c.timestamp_of-younger.result
    (omega arith)
    refl
    c.timestamp_of-younger.ensures
    l.invariant
    (tested (goal.at.loop-i-preserved c).After-is_child_of false c.if-is_child_of-younger.false)

pub returns : goal.returns
returns c =
    let l = c.loop-i in
    let a = c.args in
    linked_end a.n (record_of a.t.now) a.s l.i l.before (omega arith) l.invariant
