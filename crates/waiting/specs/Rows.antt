-- Loop: the two rows that the code keeps, and what of them stands.
use Rattle.std.specs.Prelude.{ℕ, ◌≤◌, take}
use mathlib.Core.List.{List, Memᴰ}
use Rattle.order.specs.Among.{falling}
use Rattle.distance.specs.Laws.{farthest}
use Rattle.table.specs.Stands.{Stands}
use Rattle.waiting.specs.declared.Front.{Front}
use Rattle.waiting.specs.Key.{first_in, slot_in}
use Rattle.waiting.specs.Front.{State, state}

-- what stands in the rows: the first `waiting` wait, the next to be taken last, and the first `holding` are held
abbrev pub front_of : Front → State
front_of f = state (falling f.waiting f.waits) (take f.holding f.held) f.count

-- each key that waits tells a slot of the table l, and a bound that is a distance
abbrev pub Known : List ℕ → List ℕ → Type 0
Known l keys = (x : ℕ) → Memᴰ x keys → Stands l (slot_in x) × (first_in x ≤ farthest)
