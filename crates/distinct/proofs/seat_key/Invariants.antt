-- `distinct::seat_key` meets its contract. The loop's invariant: seating from cell d on comes to what seating from the
-- start does. Assumes nothing.
use Rattle.std.specs.Prelude.{◌-◌, ◌<◌, ◌≡◌}
use Rattle.distinct.specs.Seat.{cell_count, probes, onward, seat_from, seated}
use Rattle.distinct.proofs.seat_key.Given as goal

abbrev pub invariant-loop-d : goal.invariant-loop-d
invariant-loop-d l =
    (l.first < cell_count)
    × (seat_from (probes - l.d) (onward l.first) l.d l.cells l.key ≡ seated l.initial.cells l.key)
