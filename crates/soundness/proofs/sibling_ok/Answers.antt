-- `soundness::sibling_ok` meets its contract: b itself is not farther than b, a younger record is not asked, and the
-- distance is the same both ways. Assumes nothing.
use Rattle.std.proofs.Common.{sym, ap₂, ◌∙◌, arith}
use Rattle.std.specs.Prelude.{leb}
use Rattle.distance.specs.Kind.{apart_distance}
use Rattle.table.specs.Record.{record_of}
use Rattle.soundness.specs.Climb.{sibling_same, sibling_younger, sibling_older}
use Rattle.soundness.proofs.sibling_ok.Goals as goal

pub returns-then-c-b : goal.returns-then-c-b
returns-then-c-b c =
    let a = c.args in
    let q = a.x.query in
    sym (sibling_same (record_of a.t.now) q.kind q.signature.readings a.x.timestamp a.b a.c c.if-c-b.true)

pub returns-then-timestamp_of-x : goal.returns-then-timestamp_of-x
returns-then-timestamp_of-x c =
    let a = c.args in
    let R = record_of a.t.now in
    let turned = (apart_distance a.x.query.kind).both_ways (R a.c).readings a.x.query.signature.readings in
    ap₂ leb c.requires.1 (c.away_from.ensures.0 ∙ turned)
    ∙ sym (sibling_older R a.x.query.kind a.x.query.signature.readings a.x.timestamp a.b a.c (omega arith))

pub returns-else-timestamp_of-x : goal.returns-else-timestamp_of-x
returns-else-timestamp_of-x c =
    let a = c.args in
    let q = a.x.query in
    sym (sibling_younger (record_of a.t.now) q.kind q.signature.readings a.x.timestamp a.b a.c (omega arith))
