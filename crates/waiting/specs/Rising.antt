-- A row is in order in one way only, so a type may keep that fact. Assumes nothing.
use Rattle.std.specs.Prelude.{ℕ, List, [], ◌∷◌}
use Rattle.std.specs.Coded.{×_prop, Unit-prop, le_prop}
use Rattle.order.specs.Order.{Rising, ToNext, ToFirst}

pub rising_prop : (l : List ℕ) → IsProp (Rising l)
unfolding ToNext ToFirst
rising_prop [] = Unit-prop
rising_prop (x ∷ []) = ×_prop Unit-prop Unit-prop
rising_prop (x ∷ y ∷ l) = ×_prop le_prop (rising_prop (y ∷ l))
