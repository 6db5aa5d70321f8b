-- `bench::Bench::answer` meets its contract: the command's report is put into a line, for which there is room. Assumes
-- nothing.
use Rattle.std.specs.Prelude.{List}
use Rattle.std.proofs.Common.{ℕ, ◌≤◌, ◌≡◌, ◌∙◌, length, arith, rules}
use Rattle.line.specs.Line.{laid}
use Rattle.line.specs.Laws.{fitted_some, fitted_at}
use Rattle.command.specs.Command.{Done, command_of}
use Rattle.bench.specs.Program.{answer_of}
use Rattle.bench.specs.Laws.{Small, answer_fits, answered}
use Rattle.bench.proofs.Bench.answer.Goals.{After-put_line}
use Rattle.bench.proofs.Bench.answer.Goals as goal

-- what the command reports and leaves, and its line
abbrev report : After-put_line → Done
report c = let n = c.counts_in-counts.result in record {
  refusal = c.told.result;
  count = n.count;
  found = n.found;
  table = c.run-answer.new.table;
  list = c.run-answer.new.list;
}

-- it is what the definition says of the command
reported : (c : After-put_line) → report c ≡ command_of c.args.input.now c.args.self.now.table c.args.self.now.list
reported c = let n = c.counts_in-counts.ensures in (λ i. record {
  refusal = c.told.ensures i;
  count = n.0 i;
  found = n.1 i;
  table = c.run-answer.new.table;
  list = c.run-answer.new.list;
}) ∙ c.run-answer.ensures

abbrev line_at : After-put_line → List ℕ
line_at c = (answer_of c.args.number (report c)).line

-- its numbers are those of their types
small : (c : After-put_line) → Small (report c)
small c = let n = c.counts_in-counts.type_inv in record {
  refusal = omega (arith, c.told.type_inv);
  count = omega (arith, n);
  found = omega (arith, n);
  cards = search rules;
  few = omega (arith, c.run-answer.auto.list);
}

fits : (c : After-put_line) → length (line_at c) ≤ length c.args.room.now
fits c = omega (arith, answer_fits c.args.number (report c) c.ranges.number.fits (small c), c.requires)

pub unwrap-requires : goal.unwrap-requires
unwrap-requires c =
    let p = (goal.at.unwrap-requires c).After-put_line in
    fitted_some (line_at p) c.args.room.now _ (fits p) c.put_line.ensures

pub returns : goal.returns
returns c =
    let a = c.args in
    let p = (goal.at.returns c).After-put_line in
    answered
    a.number
    (command_of a.input.now a.self.now.table a.self.now.list)
    (report p)
    a.room.now
    (laid c.unwrap.result c.put_line.new.out)
    c.ranges.number.fits
    (small p)
    c.requires
    (reported p)
    (fitted_at
    (line_at p)
    a.room.now
    c.put_line.new.out
    c.put_line.result
    c.unwrap.result
    c.put_line.ensures
    c.unwrap.ensures)
