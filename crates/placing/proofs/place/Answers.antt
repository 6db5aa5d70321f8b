-- `placing::place` meets its contract: the card is written into its slot, and then the record becomes the root or is
-- hung. Assumes nothing.
use Rattle.std.proofs.lemmas.Option.{none-some}
use Rattle.placing.proofs.Placing.{slot_stands, named_stands, named_hangable, placed_first, placed_later}
use Rattle.placing.proofs.place.Goals as goal

pub name-requires : goal.name-requires
name-requires c = slot_stands c.requires

pub seat-requires : goal.seat-requires
seat-requires c = (named_stands c.requires c.name.ensures, λ p e. absurd (none-some p e))

pub hang-requires : goal.hang-requires
hang-requires c = rw c.from.ensures (named_hangable c.requires c.name.ensures c.in-Some.is)

pub returns-in-None : goal.returns-in-None
returns-in-None c = placed_first c.requires c.name.ensures c.in-None.is c.seat.ensures

pub returns-in-Some : goal.returns-in-Some
returns-in-Some c =
    placed_later c.requires c.name.ensures c.in-Some.is _ (rw c.from.ensures at c.hang.ensures.0)
