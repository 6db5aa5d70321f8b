-- `inventory::all::list_cards` meets its contract. The loop's invariant: the cards of the first s slots are the list's
-- first entries, and the entries from `used` on are as they were. Assumes nothing.
use Rattle.std.specs.Prelude.{◌≡◌, length}
use Rattle.table.specs.Record.{record_of}
use Rattle.table.specs.Table.{records_in}
use Rattle.inventory.specs.Listing.{CardsLaid}
use Rattle.inventory.proofs.all.list_cards.Given as goal

abbrev pub invariant-loop-s : goal.invariant-loop-s
invariant-loop-s l =
    (l.s-end ≡ records_in l.t)
    × (length l.list ≡ length l.initial.list)
    × CardsLaid (record_of l.t) l.used l.initial.list
    l.s l.found l.list
