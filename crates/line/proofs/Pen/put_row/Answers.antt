-- `line::Pen::put_row` meets its contract. The loop's invariant: what stands there is the row of the numbers before.
-- Assumes nothing.
use Rattle.std.specs.Prelude.{◌+◌, ◌∷◌, ◌++◌, take}
use Rattle.std.proofs.Common.{subst, take_all}
use Rattle.line.specs.Line.{space, decimal, row_of}
use Rattle.line.specs.Laws.{row_left, row_more, row_parts}
use Rattle.line.specs.Pen.{HasRoom, Wrote, wrote_none, wrote_more, room_behind, room_front}
use Rattle.line.proofs.Pen.put_row.Goals as goal

pub loop-number-init : goal.loop-number-init
unfolding row_of
loop-number-init c = wrote_none c.args.self.now

pub put_next-requires : goal.put_next-requires
put_next-requires c =
    let pen = c.args.self.now in
    let loop = c.loop-number in
    let ns = c.args.numbers.now in
    let next = space ∷ decimal c.from.result in
    let rest = row_left ns (loop.number-index + 1) in
    let parts = row_parts ns loop.number-index c.from.result c.loop-number-test.true c.from.ensures in
    let room = subst (HasRoom pen) parts c.requires in
    room_front
    loop.self
    next
    rest
    (room_behind pen loop.self (row_of (take loop.number-index ns)) (next ++ rest) loop.invariant room)

pub loop-number-preserved : goal.loop-number-preserved
loop-number-preserved c =
    let pen = c.args.self.now in
    let loop = c.loop-number in
    let ns = c.args.numbers.now in
    subst
    (λ bytes. Wrote pen bytes c.put_next.new.self)
    (row_more ns loop.number-index c.from.result c.loop-number-test.true c.from.ensures)
    (wrote_more pen loop.self c.put_next.new.self _ _ loop.invariant c.put_next.ensures)

pub returns : goal.returns
returns c =
    let loop = c.loop-number in
    let ns = c.args.numbers.now in
    subst
    (λ numbers. Wrote c.args.self.now (row_of numbers) loop.self)
    (take_all loop.number-index ns c.loop-number-test.false)
    loop.invariant
