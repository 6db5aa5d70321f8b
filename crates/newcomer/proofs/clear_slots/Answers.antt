-- `newcomer::clear_slots` meets its contract. The loop's invariant: the first i child slots are 65,535, and nothing
-- else has changed. Assumes nothing.
use Rattle.std.specs.Prelude.{ℕ, ◌≡◌, refl}
use Rattle.std.proofs.Common.{sym, ap, ◌∙◌, arith}
use Rattle.refusals.specs.Limits.{most_children}
use Rattle.table.specs.Record.{record_of, no_slot}
use Rattle.table.specs.Same.{slots_length}
use Rattle.writing.specs.Put.{with_slot}
use Rattle.writing.specs.Laws.{put_slot_lem, became_by, became_none}
use Rattle.newcomer.proofs.Writes.{wrote_then, with_slots, cleared, cleared_none, cleared_more, cleared_all}
use Rattle.newcomer.proofs.clear_slots.Goals as goal

pub loop-i-init : goal.loop-i-init
loop-i-init c =
    let none =
    ap (with_slots (record_of c.args.t.now c.args.s))
    (sym (cleared_none (record_of c.args.t.now c.args.s).slots)) in
    became_by (became_none c.args.t.now c.args.s c.requires) none refl

pub loop-i-preserved : goal.loop-i-preserved
loop-i-preserved c =
    let i = c.loop-i.i in
    became_by
    (wrote_then (λ r. with_slot r i no_slot) c.loop-i.invariant c.requires
    (λ h. put_slot_lem c.loop-i.t c.args.s h i no_slot c.loop-i-test.true (omega arith)))
    (ap (with_slots (record_of c.args.t.now c.args.s)) (cleared_more i (record_of c.args.t.now c.args.s).slots))
    c.put_slot.ensures

pub returns : goal.returns
returns c =
    let all : c.loop-i.i ≡ most_children = omega arith in
    let made : cleared c.loop-i.i (record_of c.args.t.now c.args.s).slots ≡ cleared most_children
    (record_of c.args.t.now c.args.s).slots =
    ap (λ (i : ℕ). cleared i (record_of c.args.t.now c.args.s).slots) all in
    became_by
    c.loop-i.invariant
    (ap (with_slots (record_of c.args.t.now c.args.s)) (made
    ∙ cleared_all (record_of c.args.t.now c.args.s).slots (slots_length c.args.t.now c.args.s)))
    refl
