-- `distinct::seat_key` meets its contract. The loop's invariant: seating from cell d on comes to what seating from the
-- start does. Assumes nothing.
use Rattle.std.proofs.Common.{sym, ◌∙◌, arith}
use Rattle.distinct.specs.Seat.{probes, seat_empty, seat_same, seat_next, seat_out}
use Rattle.distinct.proofs.seat_key.Goals as goal

pub returns-then-cell-eq0 : goal.returns-then-cell-eq0
returns-then-cell-eq0 c =
    sym (seat_empty _ _ _ probes c.loop-d.d (omega arith) c.if-cell-eq0.true) ∙ c.loop-d.invariant.1

pub returns-then-cell-key : goal.returns-then-cell-key
returns-then-cell-key c =
    sym (seat_same _ _ _ probes c.loop-d.d (omega arith) c.if-cell-eq0.false c.if-cell-key.true) ∙ c.loop-d.invariant.1

pub loop-d-preserved : goal.loop-d-preserved
loop-d-preserved c = (
  c.loop-d.invariant.0,
  sym (seat_next _ _ _ probes c.loop-d.d (omega arith) c.if-cell-eq0.false c.if-cell-key.false) ∙ c.loop-d.invariant.1,
)

pub returns : goal.returns
returns c =
    sym (seat_out _ _ _ probes c.loop-d.d (omega arith)) ∙ c.loop-d.invariant.1
