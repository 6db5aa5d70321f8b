-- `newcomer::seat` meets its contract: the fields that a newcomer's record starts with are written one after another.
-- Assumes nothing.
use Rattle.std.specs.Prelude.{refl}
use Rattle.std.proofs.Common.{arith}
use Rattle.table.specs.Record.{record_of}
use Rattle.writing.specs.Put.{with_timestamp, with_radius, with_parent, with_count}
use Rattle.writing.specs.Laws.{Became, put_timestamp_lem, put_radius_lem, put_parent_lem, put_count_lem, became_by}
use Rattle.writing.specs.Laws.{then_with}
use Rattle.newcomer.specs.Newcomer.{fresh, slotless}
use Rattle.newcomer.proofs.Writes.{wrote_then}
use Rattle.newcomer.proofs.seat.Goals.{After-put_count, After-put_parent, After-put_radius, After-put_timestamp}
use Rattle.newcomer.proofs.seat.Goals as goal

timestamp_put : (c : After-put_timestamp) →
    Became c.args.t.now c.args.s (with_timestamp (record_of c.args.t.now c.args.s) c.args.timestamp)
    c.put_timestamp.new.t
timestamp_put c = became_by
    (put_timestamp_lem c.args.t.now c.args.s c.requires.0 c.args.timestamp (omega (arith, c.ranges.timestamp)))
    refl
    c.put_timestamp.ensures

radius_put : (c : After-put_radius) →
    Became c.args.t.now c.args.s (with_radius (with_timestamp (record_of c.args.t.now c.args.s) c.args.timestamp) 0)
    c.put_radius.new.t
radius_put c = let m = c.put_timestamp.new.t in
    wrote_then (λ r. with_radius r 0) (timestamp_put c.before.before.before.before) c.requires.0
    (λ h. became_by (put_radius_lem m c.args.s h 0 (omega arith)) refl c.put_radius.ensures)

parent_put : (c : After-put_parent) →
    Became c.args.t.now c.args.s
    (with_parent (with_radius (with_timestamp (record_of c.args.t.now c.args.s) c.args.timestamp) 0) c.told.result)
    c.put_parent.new.t
parent_put c = let m = c.put_radius.new.t in
    let p = c.told.result in
    let told_at = c.before.before in
    wrote_then (λ r. with_parent r p) (radius_put told_at.before.before.before) c.requires.0
    (λ h. became_by (put_parent_lem m c.args.s h p (omega (arith, c.told.type_inv))) refl c.put_parent.ensures)

count_put : (c : After-put_count) →
    Became c.args.t.now c.args.s
    (with_count (with_parent (with_radius (with_timestamp (record_of c.args.t.now c.args.s) c.args.timestamp) 0)
    c.told.result) 0) c.put_count.new.t
count_put c = let m = c.put_parent.new.t in
    wrote_then (λ r. with_count r 0) (parent_put c.before.before.before.before) c.requires.0
    (λ h. became_by (put_count_lem m c.args.s h 0 (omega arith)) refl c.put_count.ensures)

pub returns : goal.returns
unfolding fresh
returns c =
    rw (← c.told.ensures)
    (then_with slotless (count_put (goal.at.returns c).After-put_count) c.clear_slots.ensures)
