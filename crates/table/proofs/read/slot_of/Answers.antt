-- `table::slot_of` meets its contract: the slots stand one after another, two bytes each. Assumes nothing.
use Rattle.std.specs.Prelude.{◌+◌, ◌*◌, ◌≡◌}
use Rattle.std.proofs.Common.{ap, sym, ◌∙◌, arith}
use Rattle.number.specs.Number.{number_at}
use Rattle.table.specs.Record.{place_of, slots_at}
use Rattle.table.specs.Same.{slot_at}
use Rattle.table.proofs.read.slot_of.Goals as goal

pub returns : goal.returns
returns c =
    let a = c.args in
    let place : place_of a.s + (16 + 2 * a.i) ≡ slots_at (place_of a.s) + 2 * a.i = omega arith in
    c.field.ensures ∙ ap (number_at 2 a.t.now) place ∙ sym (slot_at a.t.now a.s a.i (omega arith))
