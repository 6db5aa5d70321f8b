-- `links::record_ok` meets its contract: the test before the calls says that a field is out of its range, and
-- where it says no, the child slots decide. Assumes nothing.
use Rattle.std.specs.Prelude.{◌≡◌, refl, Bool, true, false, ◌&&◌, ◌||◌, not, eqb, ltb}
use Rattle.std.proofs.Common.{sym, ap, ◌∙◌}
use Rattle.refusals.specs.Limits.{most_children}
use Rattle.table.specs.Record.{record_of}
use Rattle.judge.specs.WellFormed.{is_filled, past_count}
use Rattle.judge.specs.Counted.{all_linked}
use Rattle.links.specs.Fields.{unfilled, Plain, plain, record_not, record_yes}
use Rattle.links.proofs.record_ok.Goals.{After-known_kind, Else-timestamp-known_kind}
use Rattle.links.proofs.record_ok.Goals as goal

-- the test as the code makes it is the test of the fields
tested : (c : After-known_kind) (t : Bool)
    → (eqb c.timestamp_of-timestamp.result 0 || not c.known_kind.result)
    || ltb most_children c.count_of-count.result
    ≡ t
    → unfilled c.timestamp_of-timestamp.result c.kind_of-kind.result c.count_of-count.result ≡ t
tested c t e = sym
    (ap
    (λ (k : Bool).
    (eqb c.timestamp_of-timestamp.result 0 || not k) || ltb most_children c.count_of-count.result)
    c.known_kind.ensures)
    ∙ e

fields : (c : Else-timestamp-known_kind)
    → Plain c.timestamp_of-timestamp.result c.kind_of-kind.result c.count_of-count.result
fields c =
    plain c.timestamp_of-timestamp.result c.kind_of-kind.result c.count_of-count.result (tested (record {
      before = c.before.before;
      type_inv =
          record { t = c.type_inv.t };
    }) false c.if-timestamp-known_kind.false)

pub returns-then-timestamp-known_kind : goal.returns-then-timestamp-known_kind
returns-then-timestamp-known_kind c =
    record_not (record_of c.args.t.now c.args.s)
    c.timestamp_of-timestamp.result
    c.kind_of-kind.result
    c.count_of-count.result
    c.timestamp_of-timestamp.ensures c.kind_of-kind.ensures c.count_of-count.ensures
    (all_linked c.args.n (record_of c.args.t.now) c.args.s)
    (tested (goal.at.returns-then-timestamp-known_kind c).After-known_kind true c.if-timestamp-known_kind.true)

-- where the fields are in their ranges, the child slots decide
decided : (c : Else-timestamp-known_kind) (p l : Bool)
    → p ≡ past_count (record_of c.args.t.now c.args.s)
    → l ≡ (all_linked c.args.n (record_of c.args.t.now) c.args.s)
    → p && l ≡ is_filled (record_of c.args.t.now c.args.s) && (all_linked c.args.n (record_of c.args.t.now) c.args.s)
decided c p l e f = record_yes (record_of c.args.t.now c.args.s)
    c.timestamp_of-timestamp.result
    c.kind_of-kind.result
    c.count_of-count.result
    c.timestamp_of-timestamp.ensures c.kind_of-kind.ensures c.count_of-count.ensures
    (all_linked c.args.n (record_of c.args.t.now) c.args.s) p l c.requires.2 (fields c) e f

pub returns-then-past_ok : goal.returns-then-past_ok
returns-then-past_ok c =
    decided (goal.at.returns-then-past_ok c).Else-timestamp-known_kind true c.children_ok.result
    (sym c.if-past_ok.true ∙ c.past_ok.ensures)
    c.children_ok.ensures

pub returns-else-past_ok : goal.returns-else-past_ok
returns-else-past_ok c =
    c.if-past_ok.false
    ∙ decided (goal.at.returns-else-past_ok c).Else-timestamp-known_kind false
    (all_linked c.args.n (record_of c.args.t.now) c.args.s) (sym c.if-past_ok.false ∙ c.past_ok.ensures) refl
