-- `table::four_slots` meets its contract: four child slots, two bytes each, are one number of eight. Assumes nothing.
use Rattle.std.specs.Prelude.{◌+◌, ◌*◌, ◌≡◌}
use Rattle.std.proofs.Common.{ap, sym, ◌∙◌, arith}
use Rattle.number.specs.Number.{number_at}
use Rattle.distance.specs.Signature.{word_of_pairs}
use Rattle.table.specs.Record.{record_of, slots_at, place_of}
use Rattle.table.specs.Same.{slot_at}
use Rattle.table.proofs.read.four_slots.Goals as goal

pub returns : goal.returns
returns c =
    let a = c.args in
    let place : place_of a.s + (16 + 8 * a.k) ≡ slots_at (place_of a.s) + 8 * a.k = omega arith in
    c.field.ensures
    ∙ ap (number_at 8 a.t.now) place
    ∙ sym
    (word_of_pairs
    (record_of a.t.now a.s).slots
    a.t.now
    (slots_at (place_of a.s))
    a.k
    (λ i b. slot_at a.t.now a.s i (omega arith)))
