-- `line::lay_line` meets its contract: its four parts are written, each behind the one before. Assumes nothing.
use Rattle.std.specs.Prelude.{◌+◌, ◌≤◌, length}
use Rattle.std.proofs.Common.{arith, rules}
use Rattle.line.specs.Line.{decimal, row_of}
use Rattle.line.specs.Laws.{line_from, line_length}
use Rattle.line.specs.Pen.{wrote_more, wrote_length}
use Rattle.line.proofs.lay_line.Goals.{Start}
use Rattle.line.proofs.lay_line.Goals as goal

-- all four parts fit
room : (c : Start) →
    let a = c.args in
    length (decimal a.number) + length (row_of a.head.now) + length (row_of a.cards.now) + 1
    ≤ length a.out.now
room c = let a = c.args in
    omega (arith, c.requires, line_length a.number a.head.now a.cards.now)

pub put_number-requires : goal.put_number-requires
put_number-requires c = omega (arith, room (goal.at.put_number-requires c).Start)

pub put_row-requires : goal.put_row-requires
put_row-requires c =
    let p = goal.at.put_row-requires c in
    omega (arith, room p.Start, c.put_number.ensures.at, wrote_length _ _ _ c.put_number.ensures)

pub put_row-requires-2 : goal.put_row-requires-2
put_row-requires-2 c =
    let p = goal.at.put_row-requires-2 c in
    let front = wrote_more _ _ _ _ _ c.put_number.ensures c.put_row.ensures in
    omega (
      arith,
      room p.Start,
      c.put_number.ensures.at,
      c.put_row.ensures.at,
      wrote_length _ _ _ front,
    )

pub put-requires : goal.put-requires
put-requires c =
    let p = goal.at.put-requires c in
    let head = wrote_more _ _ _ _ _ c.put_number.ensures c.put_row.ensures in
    let front = wrote_more _ _ _ _ _ head c.put_row-2.ensures in
    omega (
      arith,
      room p.Start,
      c.put_number.ensures.at,
      c.put_row.ensures.at,
      c.put_row-2.ensures.at,
      wrote_length _ _ _ front,
    )

pub returns : goal.returns
unfolding line_from
returns c =
    let head = wrote_more _ _ _ _ _ c.put_number.ensures c.put_row.ensures in
    let whole = wrote_more _ _ _ _ _ (wrote_more _ _ _ _ _ head c.put_row-2.ensures) c.put.ensures in
    (omega (arith, whole.at), search (rules, whole.same, whole.out))
