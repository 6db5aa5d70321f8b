-- `admission::keys::keys_distinct` meets its contract. The loop's invariant: whatever keys the calls give, those of the
-- records before s are distinct, and the cells hold just those. Assumes nothing.
use Rattle.std.specs.Prelude.{ℕ}
use Rattle.distinct.specs.Seat.{cells_of}
use Rattle.distinct.specs.Cells.{CellsHold}
use Rattle.admission.specs.Key.{Gives}
use Rattle.admission.proofs.keys.keys_distinct.Given as goal

abbrev pub invariant-loop-s : goal.invariant-loop-s
invariant-loop-s g l =
    (key : ℕ → ℕ) → Gives l.n (goal.F-post g l.key_of) key → CellsHold cells_of key l.s l.cells
