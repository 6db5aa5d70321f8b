-- The keys of the deleted card and of all below it. That by them the slots wait oldest first is proved in proofs/.
use Rattle.std.specs.Prelude.{ℕ, List, map}
use Rattle.order.specs.Order.{in_order}
use Rattle.table.specs.Record.{Record}
use Rattle.removal.specs.Removal.{leaving}
use Rattle.age.specs.Key.{age_key}

-- the keys of all that leave, in age order
abbrev pub leaving_keys : List Record → ℕ → List ℕ
leaving_keys rows v = in_order (map (age_key rows) (leaving rows v))
