-- `newcomer::name` meets its contract: card, kind and signature are written one after another. Assumes nothing.
use Rattle.std.specs.Prelude.{refl, get_or}
use Rattle.std.proofs.Common.{Fits, w16, arith, rules}
use Rattle.distance.specs.Signature.{Fit}
use Rattle.table.specs.Record.{record_of}
use Rattle.writing.specs.Put.{with_card, with_kind, with_readings}
use Rattle.writing.specs.Laws.{Became, put_card_lem, put_kind_lem, put_signature_lem, became_by}
use Rattle.newcomer.proofs.Writes.{wrote_then}
use Rattle.newcomer.proofs.name.Goals.{After-put_card, After-put_kind}
use Rattle.newcomer.proofs.name.Goals as goal

card_put : (c : After-put_card) →
    Became c.args.t.now c.args.s (with_card (record_of c.args.t.now c.args.s) c.args.card) c.put_card.new.t
card_put c = became_by
    (put_card_lem c.args.t.now c.args.s c.requires c.args.card (omega (arith, c.ranges.card)))
    refl
    c.put_card.ensures

kind_put : (c : After-put_kind) →
    Became c.args.t.now c.args.s (with_kind (with_card (record_of c.args.t.now c.args.s) c.args.card) c.args.kind)
    c.put_kind.new.t
kind_put c = let m = c.put_card.new.t in
    wrote_then (λ r. with_kind r c.args.kind) (card_put c.before.before.before.before) c.requires
    (λ h.
    became_by (put_kind_lem m c.args.s h c.args.kind (omega (arith, c.ranges.kind))) refl c.put_kind.ensures)

-- each reading is a 16-bit number, by its type
fit : (c : After-put_kind) → Fit c.args.signature.readings
fit c = λ i.
    let number : Fits w16 (get_or c.args.signature.readings i 0) = search rules in
    number.fits

pub returns : goal.returns
returns c =
    let m = c.put_kind.new.t in
    let readings = c.args.signature.readings in
    became_by
    (wrote_then (λ r. with_readings r readings) (kind_put (goal.at.returns c).After-put_kind) c.requires
    (λ h. put_signature_lem m c.args.s h readings (omega arith) (fit (goal.at.returns c).After-put_kind)))
    refl
    c.put_signature.ensures
