-- `nearest::search_from` meets its contract: the root is compared, and what is taken from there leaves the keys of the
-- cards that the definition holds, and its count. Assumes nothing.
use Rattle.std.specs.Prelude.{◌≤◌, get_or}
use Rattle.std.proofs.Common.{Fits, w16, sym, ap, subst, ◌∙◌, arith, rules}
use Rattle.distance.specs.Signature.{Fit}
use Rattle.table.specs.Record.{record_of}
use Rattle.table.specs.Table.{records_in}
use Rattle.table.specs.Stands.{Stands, right_most}
use Rattle.survey.specs.Survey.{used_in}
use Rattle.view.specs.Readable.{readable_walkable, readable_root}
use Rattle.waiting.specs.Front.{State}
use Rattle.waiting.specs.Rows.{front_of}
use Rattle.nearest.proofs.Ends.{Begun, begun_at, begun_known, ended_held, ended_count, ended_fits}
use Rattle.nearest.proofs.search_from.Goals.{Start, After-meet}
use Rattle.nearest.proofs.search_from.Goals as goal

root_stands : (c : Start) → Stands c.args.t.now c.args.root
root_stands c = let p = c.requires in
    let some : 1 ≤ used_in (records_in c.args.t.now) (record_of c.args.t.now) =
    omega (arith, p.there.0, p.there.1) in
    subst (Stands c.args.t.now) (sym p.there.2) (readable_root p.readable some)

-- each reading of the query is a 16-bit number, by its type
fit : (c : After-meet) → Fit c.args.q.signature.readings
fit c = λ i.
    let number : Fits w16 (get_or c.args.q.signature.readings i 0) = search rules in
    number.fits

-- the root was compared
begun : (c : After-meet) →
    let a = c.args in
    Begun a.t.now a.q.kind a.q.signature.readings a.front.now.k a.used (front_of c.meet.new.self)
begun c = let a = c.args in
    let p = c.requires in
    record {
      readable = p.readable;
      bytes = λ i. omega (arith, c.type_inv.t i);
      fit = fit c;
      one = a.front.now.one;
      some = p.there.0;
      used_is = p.there.1;
      start_is =
          begun_at a.t.now a.q.kind a.q.signature.readings a.front.now.k a.root c.from-away.result _
          p.there.2
          (c.from-away.ensures ∙ c.away_from.ensures.0)
          (rw (p.begins, c.from.ensures) at c.meet.ensures.0);
    }

pub away_from-requires : goal.away_from-requires
away_from-requires c = root_stands (goal.at.away_from-requires c).Start

pub meet-requires-clause-stands : goal.meet-requires-clause-stands
meet-requires-clause-stands c =
    (root_stands (goal.at.meet-requires-clause-stands c).Start, omega arith, omega arith)

pub take_all-requires-clause-walkable : goal.take_all-requires-clause-walkable
take_all-requires-clause-walkable c = (
  readable_walkable c.requires.readable,
  right_most c.args.t.now c.requires.readable.size,
)

pub take_all-requires-clause-rows : goal.take_all-requires-clause-rows
take_all-requires-clause-rows c =
    let b = begun (goal.at.take_all-requires-clause-rows c).After-meet in
    (begun_known b, rw c.meet.ensures.1 (ended_fits b))

pub returns-clause-held : goal.returns-clause-held
returns-clause-held c =
    let b = begun (goal.at.returns-clause-held c).After-meet in
    ap (λ (T : State). T.held) (rw c.meet.ensures.1 at c.take_all.ensures.0) ∙ ended_held b

pub returns-clause-count : goal.returns-clause-count
returns-clause-count c =
    let b = begun (goal.at.returns-clause-count c).After-meet in
    ap (λ (T : State). T.count) (rw c.meet.ensures.1 at c.take_all.ensures.0) ∙ ended_count b
