-- Loop: the children of one record as the code meets them, one after the other, and the slots that a walk enters so.
use Rattle.std.specs.Prelude.{ℕ, zero, suc, ◌+◌, ◌≤◌, ◌<◌, min, ◌≡◌, List, get_or, drop}
use Rattle.distance.specs.Laws.{farthest}
use Rattle.distance.specs.Kind.{apart}
use Rattle.table.specs.Record.{Record, slot, children}
use Rattle.tree.specs.Search.Turn.{bound_from, turn_from, visit_from}
use Rattle.view.specs.View.{view_of}
use Rattle.steps.specs.Step.{Query, away_from, away_in}

-- "All children are compared": ds holds the distances of the first n children of the record in slot s
pub record Compared (R : ℕ → Record) (kind : ℕ) (q : List ℕ) (s n : ℕ) (ds : List ℕ) : Type 0 where
  pub each : (k : ℕ) → k < n → get_or ds k 0 ≡ away_from R kind q (slot (R s) k)
  pub near : (k : ℕ) → get_or ds k 0 ≤ farthest

-- the smallest of m and f 0, f 1, .. , k of these
unfoldable pub smallest_to : ℕ → (ℕ → ℕ) → ℕ → ℕ
smallest_to zero f m = m
smallest_to (suc k) f m = min (smallest_to k f m) (f k)

module _ (Q : Query) where
  -- the smallest distance among the first k children of the record in slot a
  abbrev pub nearest_to : ℕ → ℕ → ℕ
  nearest_to a k = smallest_to k (λ j. away_in Q (slot (Q.records a) j)) farthest

  -- the bound of child k of the record in slot a, under the bound t and by its siblings from j on
  abbrev pub bound_on : ℕ → ℕ → ℕ → ℕ → ℕ
  bound_on a k t j =
      bound_from
      (apart Q.kind)
      (view_of Q.records)
      Q.readings
      Q.radius
      t
      (slot (Q.records a) k)
      (drop j (children (Q.records a)))

  -- .. by all younger ones
  abbrev pub child_bound : ℕ → ℕ → ℕ → ℕ
  child_bound a k t = bound_on a k t (k + 1)

  -- the slots entered from slot a on with the bound t; left: the depth left
  abbrev pub entered_from : ℕ → ℕ → ℕ → List ℕ
  entered_from left a t = visit_from (apart Q.kind) (view_of Q.records) Q.readings Q.radius farthest left a t

  -- what the children of slot a from k on enter, with the depth left below a
  abbrev pub rest_from : ℕ → ℕ → ℕ → ℕ → List ℕ
  rest_from left a t k =
      turn_from
      (apart Q.kind)
      (view_of Q.records)
      Q.readings
      Q.radius
      (entered_from left)
      t
      (nearest_to a k)
      (drop k (children (Q.records a)))
