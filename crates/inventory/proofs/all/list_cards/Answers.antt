-- `inventory::all::list_cards` meets its contract. The loop's invariant: the cards of the first s slots are the list's
-- first entries, and the entries from `used` on are as they were. Assumes nothing.
use Rattle.std.specs.Prelude.{◌≤◌, ◌<◌, ◌≡◌, refl}
use Rattle.std.proofs.Common.{arith, rules}
use Rattle.table.specs.Record.{record_of}
use Rattle.table.specs.Table.{records_in}
use Rattle.table.specs.Stands.{stands_in}
use Rattle.inventory.specs.Listing.{laid_none, laid_more, laid_all, used_grows}
use Rattle.inventory.proofs.all.list_cards.Goals.{Else-found-used}
use Rattle.inventory.proofs.all.list_cards.Goals as goal

-- a card is still to come
left : (c : Else-found-used) → c.loop-s.found < c.args.used
left c = let l = c.loop-s in
    omega (
      arith,
      c.if-found-used.false,
      l.invariant.2.many,
      used_grows (record_of c.args.t.now) l.s (records_in c.args.t.now)
          (omega (arith, l.invariant.0, c.loop-s-test.true)),
      c.requires.0,
    )

pub loop-s-init : goal.loop-s-init
loop-s-init c =
    (c.records_in-s-end.ensures, refl, laid_none (record_of c.args.t.now) c.args.used c.args.list.now c.requires.1)

pub returns-then-found-used : goal.returns-then-found-used
returns-then-found-used c =
    let l = c.loop-s in
    laid_all (record_of c.args.t.now) c.args.used c.args.list.now c.requires.1 (records_in c.args.t.now)
    l.s l.found l.list c.requires.0 (omega (arith, l.invariant.0)) (omega (arith, c.if-found-used.true)) l.invariant.2

pub card_of-card-requires : goal.card_of-card-requires
card_of-card-requires c =
    stands_in c.args.t.now c.loop-s.s (omega (arith, c.loop-s.invariant.0, c.loop-s-test.true))

pub offset_bounds-list-found : goal.offset_bounds-list-found
offset_bounds-list-found c = let more = left (goal.at.offset_bounds-list-found c).Else-found-used in search rules

pub bounds-list-found : goal.bounds-list-found
bounds-list-found c =
    omega (arith, c.requires.1, c.loop-s.invariant.1, left (goal.at.bounds-list-found c).Else-found-used)

pub overflow_add-found : goal.overflow_add-found
overflow_add-found c = let more = left (goal.at.overflow_add-found c).Else-found-used in search rules

pub loop-s-preserved : goal.loop-s-preserved
loop-s-preserved c =
    let l = c.loop-s in
    let laid = laid_more (record_of c.args.t.now) c.args.used c.args.list.now c.requires.1 l.s l.found l.list
    l.invariant.2 (left (goal.at.loop-s-preserved c).Else-found-used) c.card_of-card.result c.card_of-card.ensures in
    (l.invariant.0, search rules, rw c.from-found.ensures laid)

pub returns : goal.returns
returns c =
    let l = c.loop-s in
    let end : l.s ≡ records_in c.args.t.now = omega (arith, l.invariant.0) in
    let all : c.args.used ≤ l.found =
    omega (
      arith,
      c.requires.0,
      l.invariant.2.many,
      used_grows (record_of c.args.t.now) (records_in c.args.t.now) l.s (omega (arith, end)),
    ) in
    laid_all (record_of c.args.t.now) c.args.used c.args.list.now c.requires.1 (records_in c.args.t.now)
    l.s l.found l.list c.requires.0 (omega (arith, end)) all l.invariant.2
