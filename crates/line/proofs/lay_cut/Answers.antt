-- `line::lay_cut` meets its contract: the word, the number behind a space, the line's end. Assumes nothing.
use Rattle.std.specs.Prelude.{◌+◌, ◌≤◌, length}
use Rattle.std.proofs.Common.{ap, arith, rules}
use Rattle.line.specs.Line.{decimal}
use Rattle.line.specs.Laws.{cut_parts, cut_length}
use Rattle.line.specs.Pen.{wrote_more, wrote_length}
use Rattle.line.proofs.lay_cut.Goals.{Start}
use Rattle.line.proofs.lay_cut.Goals as goal

-- the whole line fits
room : (c : Start) → length (decimal c.args.left) + 5 ≤ length c.args.out.now
room c = omega (arith, c.requires, cut_length c.args.left)

pub put-requires : goal.put-requires
put-requires c = omega (arith, room (goal.at.put-requires c).Start)

pub put-requires-2 : goal.put-requires-2
put-requires-2 c =
    let p = goal.at.put-requires-2 c in
    omega (arith, room p.Start, c.put.ensures.at, wrote_length _ _ _ c.put.ensures)

pub put-requires-3 : goal.put-requires-3
put-requires-3 c =
    let p = goal.at.put-requires-3 c in
    let word = wrote_more _ _ _ _ _ c.put.ensures c.put-2.ensures in
    omega (arith, room p.Start, word.at, wrote_length _ _ _ word)

pub put_next-requires : goal.put_next-requires
put_next-requires c =
    let p = goal.at.put_next-requires c in
    let word = wrote_more _ _ _ _ _ (wrote_more _ _ _ _ _ c.put.ensures c.put-2.ensures) c.put-3.ensures in
    omega (arith, room p.Start, word.at, wrote_length _ _ _ word)

pub put-requires-4 : goal.put-requires-4
put-requires-4 c =
    let p = goal.at.put-requires-4 c in
    let word = wrote_more _ _ _ _ _ (wrote_more _ _ _ _ _ c.put.ensures c.put-2.ensures) c.put-3.ensures in
    let front = wrote_more _ _ _ _ _ word c.put_next.ensures in
    omega (arith, room p.Start, word.at, c.put_next.ensures.at, wrote_length _ _ _ front)

pub returns : goal.returns
returns c =
    let word = wrote_more _ _ _ _ _ (wrote_more _ _ _ _ _ c.put.ensures c.put-2.ensures) c.put-3.ensures in
    let whole =
    wrote_more _ _ _ _ _ (wrote_more _ _ _ _ _ word c.put_next.ensures) c.put-4.ensures in
    let same = cut_parts c.args.left in
    (omega (arith, whole.at, ap length same), rw same (search (rules, whole.same, whole.out)))
