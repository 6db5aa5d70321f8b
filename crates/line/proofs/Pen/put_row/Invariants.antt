-- `line::Pen::put_row` meets its contract. The loop's invariant: what stands there is the row of the numbers before.
-- Assumes nothing.
use Rattle.std.specs.Prelude.{take}
use Rattle.line.specs.Line.{row_of}
use Rattle.line.specs.Pen.{Wrote}
use Rattle.line.proofs.Pen.put_row.Given as goal

abbrev pub invariant-loop-number : goal.invariant-loop-number
invariant-loop-number l = Wrote l.initial.self (row_of (take l.number-index l.numbers)) l.self
