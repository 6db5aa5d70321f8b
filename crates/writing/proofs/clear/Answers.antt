-- `writing::clear` meets its contract: the outcome is that of the size's test. Assumes nothing.
use Rattle.std.proofs.Common.{ap, sym, ◌∙◌}
use Rattle.refusals.specs.Refusal.{done}
use Rattle.writing.specs.Clear.{cleared, clear_done, clear_refused}
use Rattle.writing.specs.Run.{zeroed_all}
use Rattle.writing.proofs.clear.Goals as goal

pub returns-then-not-right_size : goal.returns-then-not-right_size
returns-then-not-right_size c =
    sym (clear_refused c.args.t.now (sym c.right_size.ensures ∙ c.if-not-right_size.true))

pub returns : goal.returns
returns c =
    let l = c.args.t.now in
    let right = sym c.right_size.ensures ∙ c.if-not-right_size.false in
    ap (cleared done) (c.zero.ensures ∙ zeroed_all l) ∙ sym (clear_done l right)
