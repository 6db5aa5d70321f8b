-- "Insert": a newcomer placed in a slot of a row of records by the insert rule. Insert places one; delete places again,
-- one at a time, those that stood below the deleted card.
use Rattle.std.specs.Prelude.{ℕ, ◌+◌, List, eqb, length, set}
use Rattle.places.specs.Choice.{pick}
use Rattle.table.specs.Record.{Record, no_slot}
use Rattle.table.specs.Table.{at}
use Rattle.survey.specs.Survey.{used_in, root_of, largest_timestamp}
use Rattle.tree.specs.View.{distance_count}
use Rattle.tree.specs.Insert.{path, last}
use Rattle.view.specs.View.{view_of}
use Rattle.newcomer.specs.Newcomer.{Newcomer, adopting, fresh}
use Rattle.descent.specs.Descent.{raised_along}
pub mod Agree
pub mod Row
pub mod Hanging
pub mod Room
pub mod Settled
pub mod Root
pub mod Child
pub mod Keeps
pub mod Text

-- ---- the rule

-- the records afterwards, and the distances worked out
pub record Placed : Type 0 where
  pub rows : List Record
  pub count : ℕ

module _ (d : List ℕ → List ℕ → ℕ) (arity : ℕ) (s : ℕ) (x : Newcomer) (rows : List Record) where
  -- "In a free table it becomes the root, with radius 0 and no child"; no distance is worked out
  unfoldable pub as_root : ℕ → Placed
  as_root t = record { rows = set rows s (fresh x t no_slot); count = 0 }

  -- the newcomer hangs below the last record that was visited; the count is "1 plus the child counts, before the call,
  -- of all records visited"
  unfoldable pub hanging_from : ℕ → ℕ → List ℕ → Placed
  hanging_from t on p =
      record {
        rows =
            set
            (set (raised_along d x.readings p rows) on (adopting s (at (raised_along d x.readings p rows) on)))
            s
            (fresh x t on);
        count = distance_count (view_of (at rows)) p;
      }

  -- the walk from the root, at most `depth` records deep, with timestamp t for the newcomer
  unfoldable pub hanging : ℕ → ℕ → ℕ → Placed
  hanging t depth root =
      hanging_from
      t
      (last root (path d (view_of (at rows)) x.readings arity depth root))
      (path d (view_of (at rows)) x.readings arity depth root)

  -- "The new timestamp is 1 more than the largest in use, 1 in a free table"
  unfoldable pub placed : Placed
  placed =
      pick
      (eqb (used_in (length rows) (at rows)) 0)
      (as_root (largest_timestamp (length rows) (at rows) + 1))
      (hanging
      (largest_timestamp (length rows) (at rows) + 1)
      (used_in (length rows) (at rows))
      (root_of (length rows) (at rows)))
