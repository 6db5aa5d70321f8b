-- `survey::slot_of_card` meets its contract. The loop's invariant: no slot before s has the card. Assumes nothing.
use Rattle.table.specs.Record.{record_of}
use Rattle.survey.specs.Laws.{NoCard}
use Rattle.survey.proofs.slot_of_card.Given as goal

abbrev pub invariant-loop-s : goal.invariant-loop-s
invariant-loop-s l = NoCard (record_of l.t) l.card l.s
