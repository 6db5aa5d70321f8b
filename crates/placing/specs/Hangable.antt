-- What hanging a newcomer asks of a table, and what it leaves.
use Rattle.std.specs.Prelude.{ℕ, ◌≤◌, ◌<◌, List, length}
use Rattle.distance.specs.Kind.{apart}
use Rattle.refusals.specs.Limits.{most_records, most_children}
use Rattle.table.specs.Record.{Record, largest_table}
use Rattle.table.specs.Table.{records_of, at}
use Rattle.tree.specs.Insert.{path, last}
use Rattle.view.specs.View.{view_of}
use Rattle.placing.specs.Place.{Placed, hanging}
use Rattle.newcomer.specs.Newcomer.{brought}
use Rattle.table.specs.Stands.{Stands, Walkable}

-- the record on which the newcomer in slot s hangs
abbrev pub host_of : List Record → ℕ → ℕ → ℕ → ℕ → ℕ → ℕ
host_of rows kind arity s root depth =
    last root (path (apart kind) (view_of (at rows)) (at rows s).readings arity depth root)

-- the newcomer in slot s of the table l can be hung
pub record Hangable (l : List ℕ) (kind arity s root depth : ℕ) : Type 0 where
  pub walkable : Walkable l
  pub size : length l ≤ largest_table
  pub slot_stands : Stands l s
  pub root_stands : Stands l root
  pub some : 1 ≤ depth
  pub deep : depth ≤ most_records
  -- the record on which it hangs has room for one child more
  pub room : (at (records_of l) (host_of (records_of l) kind arity s root depth)).count < most_children

-- what the bytes l and a count of distances hold
abbrev pub leaves : List ℕ → ℕ → Placed
leaves l count = record { rows = records_of l; count = count }

-- the newcomer whose card, kind and signature stand in slot s of the table l is hung, by the insert rule
abbrev pub hung_in : List ℕ → ℕ → ℕ → ℕ → ℕ → ℕ → ℕ → Placed
hung_in l kind arity s root depth timestamp =
    hanging (apart kind) arity s (brought (at (records_of l) s)) (records_of l) timestamp depth root
