-- A table's records as the tree sees them.
use Rattle.std.specs.Prelude.{ℕ, List}
use Rattle.table.specs.Record.{Record, children}
use Rattle.tree.specs.View.{View}

-- the tree's view of records, of which R s stands in slot s; a signature is its sixteen readings
abbrev pub view_of : (ℕ → Record) → View (List ℕ)
view_of R =
    record {
      card = λ s. (R s).card;
      timestamp = λ s. (R s).timestamp;
      radius = λ s. (R s).radius;
      parent = λ s. (R s).parent;
      children = λ s. children (R s);
      signature = λ s. (R s).readings;
    }
