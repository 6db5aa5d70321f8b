-- The placing of a newcomer by the paper's text, with no word of depth: its walk is any that obeys the text, and there
-- is one. So `placed` means what the paper says of it. Assumes nothing.
use Rattle.std.specs.Prelude.{ℕ, ◌+◌, ◌≤◌, ◌≡◌, refl, List}
use Rattle.std.proofs.Math.Path.{sym, ap}
use Rattle.std.proofs.Common.{◌∙◌, arith}
use Rattle.table.specs.Record.{Record}
use Rattle.table.specs.Table.{at}
use Rattle.survey.specs.Survey.{used_in, root_of, largest_timestamp}
use Rattle.tree.specs.View.{Formed, used_count}
use Rattle.tree.specs.Insert.{IsWalk, walk, last, attach}
use Rattle.tree.proofs.Insert.Fuel.{walk_obeys, walk_only}
use Rattle.view.specs.View.{view_of}
use Rattle.view.specs.Formed.{formed_view}
use Rattle.newcomer.specs.Newcomer.{Newcomer}
use Rattle.placing.specs.Place.{hanging_from, placed}
use Rattle.placing.specs.Place.Settled.{Ready}
use Rattle.placing.specs.Place.Child.{host, visited}
use Rattle.placing.specs.Place.Keeps.{placed_child}

module _ (d : List ℕ → List ℕ → ℕ) {n arity s : ℕ} {x : Newcomer} {rows : List Record}
    (ready : Ready n arity s x rows) (some : 1 ≤ used_in n (at rows)) where
  abbrev root : ℕ
  root = root_of n (at rows)

  seen : Formed (view_of (at rows)) n (root_of n (at rows))
  seen = formed_view ready.small ready.shaped ready.well_formed some

  module _ (w : ℕ → List ℕ) (is : IsWalk d (view_of (at rows)) x.readings arity w) where
    visited_text : visited d arity n x rows ≡ w root
    unfolding visited
    visited_text =
        sym (walk_only d (view_of (at rows)) x.readings arity seen w is (used_count (view_of (at rows)) n) root
        (omega arith) seen.root_used)

    host_text : host d arity n x rows ≡ last root (w root)
    unfolding host attach visited
    host_text = ap (last root) visited_text

    -- the newcomer hangs below the last record that the walk visits, and the count is of the records that it visits
    pub placed_text :
        placed d arity s x rows
        ≡ hanging_from d arity s x rows (largest_timestamp n (at rows) + 1) (last root (w root)) (w root)
    placed_text = placed_child d ready some ∙ rw (host_text, visited_text) refl

  pub text_walks : (w : ℕ → List ℕ) × IsWalk d (view_of (at rows)) x.readings arity w
  text_walks = (
    walk d (view_of (at rows)) x.readings arity n,
    walk_obeys d (view_of (at rows)) x.readings arity seen,
  )
