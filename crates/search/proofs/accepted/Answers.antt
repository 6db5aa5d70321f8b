-- `search::accepted` meets its contract: an accepted table can be walked, and what its walk leaves is the listing.
-- Assumes nothing.
use Rattle.std.specs.Prelude.{◌^◌, ◌≤◌, ◌<◌, ◌≡◌, length, get_or}
use Rattle.std.proofs.Common.{Fits as Number, w16, sym, ap, subst, ◌∙◌, arith, rules}
use Rattle.distance.specs.Signature.{Fit}
use Rattle.std.proofs.lemmas.List.Edits.{sets}
use Rattle.number.specs.Frame.{Bytes}
use Rattle.table.specs.Record.{record_of}
use Rattle.table.specs.Table.{records_in}
use Rattle.table.specs.Stands.{Stands}
use Rattle.refusals.specs.Refusal.{done}
use Rattle.survey.specs.Survey.{used_in}
use Rattle.view.specs.Readable.{readable_walkable, readable_root}
use Rattle.steps.specs.Step.{asked_of}
use Rattle.walk.specs.State.{State, state, Fits, walked}
use Rattle.search.specs.Search.{no_bound, cards, distances, listing}
use Rattle.search.specs.Listing.{walk_leaves, walk_fits}
use Rattle.search.proofs.accepted.Goals.{Start, After-from}
use Rattle.search.proofs.accepted.Goals as goal

-- the table is used, and its bytes are bytes
some : (c : Start) → let l = c.args.t.now in 1 ≤ used_in (records_in l) (record_of l)
some c = omega (arith, c.requires.there.0, c.requires.there.1)

some_at : (c : After-from) → let l = c.args.t.now in 1 ≤ used_in (records_in l) (record_of l)
some_at c = omega (arith, c.requires.there.0, c.requires.there.1)

bytes : (c : After-from) → Bytes c.args.t.now
bytes c = λ i. omega (arith, c.type_inv.t i)

-- each reading of the query is a 16-bit number, by its type
fit : (c : After-from) → Fit c.args.asked.query.signature.readings
fit c = λ i.
    let number : Number w16 (get_or c.args.asked.query.signature.readings i 0) = search rules in
    number.fits

root_stands : (c : Start) → Stands c.args.t.now c.args.root
root_stands c = let p = c.requires in
    subst (Stands c.args.t.now) (sym p.there.2) (readable_root p.readable.0 (some c))

-- what the walk from the root leaves of the list: the cards listed, how many they are, and the distances
abbrev listing_at : After-from → State
listing_at c = let a = c.args in
    let R = record_of a.t.now in
    let q = a.asked.query in
    let cs = cards (records_in a.t.now) R q.kind q.signature.readings a.asked.radius in
    state
    (sets a.list.now 0 cs)
    (length cs)
    (distances (records_in a.t.now) R q.kind q.signature.readings a.asked.radius)

leaves : (c : After-from) →
    let a = c.args in
    walked (asked_of a.t.now a.asked) a.used a.root no_bound (state a.list.now 0 1)
    ≡ listing_at c
leaves c = let a = c.args in
    let p = c.requires in
    let q = a.asked.query in
    walk_leaves p.readable.0 (bytes c) q.kind q.signature.readings (fit c) a.asked.radius (some_at c)
    a.used a.root a.list.now p.there.1 p.there.2

-- it fits the list, and four bytes
fits : (c : After-from) → Fits c.args.list.now (listing_at c) × ((listing_at c).found < 2 ^ 32)
fits c = let a = c.args in
    let p = c.requires in
    let q = a.asked.query in
    let most = walk_fits p.readable.0 (bytes c) q.kind q.signature.readings (fit c) a.asked.radius (some_at c) in
    ((omega (arith, most, p.there.1, p.readable.1), omega (arith, most)), omega (arith, most))

pub away_from-requires : goal.away_from-requires
away_from-requires c = root_stands (goal.at.away_from-requires c).Start

pub walk-r-requires : goal.walk-r-requires
walk-r-requires c =
    let p = c.requires in
    let h = (goal.at.walk-r-requires c).After-from in
    record {
      walkable = (
        readable_walkable p.readable.0,
        root_stands (goal.at.walk-r-requires c).Start,
        c.from.ensures ∙ c.away_from.ensures.0,
      );
      fits = subst (Fits c.args.list.now) (sym (leaves h)) (fits h).0;
    }

pub overflow_cast-result : goal.overflow_cast-result
overflow_cast-result c =
    omega (
      arith,
      (fits (goal.at.overflow_cast-result c).After-from).0.1,
      ap (λ (z : State). z.count) (c.walk-r.ensures ∙ leaves (goal.at.overflow_cast-result c).After-from),
    )

pub overflow_cast-result-2 : goal.overflow_cast-result-2
overflow_cast-result-2 c =
    omega (
      arith,
      (fits (goal.at.overflow_cast-result-2 c).After-from).1,
      ap (λ (z : State). z.found) (c.walk-r.ensures ∙ leaves (goal.at.overflow_cast-result-2 c).After-from),
    )

pub returns : goal.returns
unfolding listing
returns c =
    ap
    (λ (z : State). record { refusal = done; count = z.count; found = z.found; list = z.list })
    (c.walk-r.ensures ∙ leaves (goal.at.returns c).After-from)
