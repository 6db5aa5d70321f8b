-- "Remove the card's record and every record below it": the rows without them.
use Rattle.std.specs.Prelude.{ℕ, ◌-◌, List, ◌++◌, eqb, length, set, replicate}
use Rattle.places.specs.Choice.{pick}
use Rattle.table.specs.Record.{Record, children, no_slot}
use Rattle.table.specs.Table.{at}
use Rattle.survey.specs.Survey.{used_in}
use Rattle.tree.specs.View.{under}
use Rattle.tree.specs.Remove.{except}
use Rattle.view.specs.Freed.{freed_at}

-- the record in slot v and every record below it, v first
unfoldable pub leaving : List Record → ℕ → List ℕ
leaving rows v = under (λ s. children (at rows s)) (used_in (length rows) (at rows)) v

-- "the parent's later children move up one place": r without its child v
unfoldable pub disowning : ℕ → Record → Record
disowning v r =
    record {
      card = r.card;
      timestamp = r.timestamp;
      radius = r.radius;
      parent = r.parent;
      count = r.count - 1;
      kind = r.kind;
      slots = except v (children r) ++ replicate (9 - r.count) no_slot;
      readings = r.readings;
    }

-- v leaves its parent's children; a root has no parent to leave
unfoldable pub unhung : ℕ → List Record → List Record
unhung v rows =
    pick
    (eqb (at rows v).parent no_slot)
    rows
    (set rows (at rows v).parent (disowning v (at rows (at rows v).parent)))

-- "Remove the card's record and every record below it .. and no radius shrinks"
unfoldable pub removed : List Record → ℕ → List Record
removed rows v = freed_at (leaving rows v) (unhung v rows)
