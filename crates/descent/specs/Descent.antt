-- The walk of a newcomer, as the descent takes it: the radii that it raises, what it leaves, and what is left of it
-- from a slot on.
use Rattle.std.specs.Prelude.{ℕ, ◌+◌, List, [], ◌∷◌, set}
use Rattle.table.specs.Record.{Record}
use Rattle.table.specs.Table.{at}
use Rattle.tree.specs.View.{child_counts}
use Rattle.tree.specs.Insert.{path, last}
use Rattle.view.specs.View.{view_of}
use Rattle.newcomer.specs.Newcomer.{raised}

-- ---- the records on the way

-- 1. "a's covering radius becomes the larger of itself and the distance from a to x", at each record visited
unfoldable pub raised_along : (List ℕ → List ℕ → ℕ) → List ℕ → List ℕ → List Record → List Record
raised_along d x [] rows = rows
raised_along d x (a ∷ p) rows = raised_along d x p (set rows a (raised (d (at rows a).readings x) (at rows a)))

-- ---- what a walk leaves

-- the records with the radii raised, the slot of the last record visited, and the distances worked out
pub record Descended : Type 0 where
  pub rows : List Record
  pub slot : ℕ
  pub count : ℕ

abbrev pub descent : List Record → ℕ → ℕ → Descended
descent rows slot count = record { rows = rows; slot = slot; count = count }

module _ (d : List ℕ → List ℕ → ℕ) (x : List ℕ) (arity : ℕ) where
  -- the records visited from slot a on; left: the depth left
  abbrev pub walk_from : List Record → ℕ → ℕ → List ℕ
  walk_from rows left a = path d (view_of (at rows)) x arity left a

  -- a walk that has come to slot a with `count` distances worked out
  unfoldable pub descended : List Record → ℕ → ℕ → ℕ → Descended
  descended rows left a count =
      descent
      (raised_along d x (walk_from rows left a) rows)
      (last a (walk_from rows left a))
      (count + child_counts (view_of (at rows)) (walk_from rows left a))
