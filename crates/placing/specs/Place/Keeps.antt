-- A newcomer's placing by the insert rule keeps the table well formed and sound, at every arity up to 8: the statements
-- that insert and delete cite. Assumes nothing.
use Rattle.std.specs.Prelude.{ℕ, ◌+◌, ◌≤◌, ◌≡◌, List, length}
use Rattle.std.proofs.Common.{◌∙◌, arith}
use Rattle.std.proofs.Math.Decide.{ℕ_discrete}
use borrow.Author.Tests.{ne_eqb}
use Rattle.distance.specs.Laws.{Distance}
use Rattle.distance.specs.Kind.{apart, apart_distance}
use Rattle.table.specs.Record.{Record}
use Rattle.table.specs.Table.{at}
use Rattle.survey.specs.Survey.{used_in, largest_timestamp}
use Rattle.survey.specs.Laws.{largest_late}
use Rattle.tree.specs.View.{Sound, Late}
use Rattle.tree.specs.Insert.{Inserted, Alone, attach}
use Rattle.view.specs.View.{view_of}
use Rattle.view.specs.Survey.{used_in_used_count}
use Rattle.view.specs.Formed.{used_within}
use Rattle.view.specs.Sound.{SoundTable, sound_at, at_sound}
use Rattle.placing.specs.Place.{Placed, as_root, hanging_from, hanging, placed}
use Rattle.newcomer.specs.Newcomer.{Newcomer}
use Rattle.placing.specs.Place.Hanging.{after_length}
use Rattle.placing.specs.Place.Settled.{Ready, Settled, settled_kinds}
use Rattle.placing.specs.Place.Root.{root_length, root_alone, root_settled, root_sound}
use Rattle.placing.specs.Place.Child.{host, visited, child_inserted, child_settled, child_sound}

module _ (d : List ℕ → List ℕ → ℕ) {n arity s : ℕ} {x : Newcomer} {rows : List Record}
    (ready : Ready n arity s x rows) where
  -- "1 more than the largest in use"
  abbrev next : ℕ
  next = largest_timestamp n (at rows) + 1

  next_some : 1 ≤ largest_timestamp n (at rows) + 1
  next_some = omega arith

  next_late : Late (view_of (at rows)) (largest_timestamp n (at rows) + 1)
  next_late a u = omega (arith, largest_late n (at rows) a (used_within ready.shaped a u) u)

  -- ---- the two cases of the rule

  pub placed_root : used_in n (at rows) ≡ 0 → placed d arity s x rows ≡ as_root d arity s x rows next
  unfolding placed
  placed_root none = rw (ready.length_is, none)

  pub placed_child :
      1 ≤ used_in n (at rows)
      → placed d arity s x rows ≡ hanging_from d arity s x rows next (host d arity n x rows) (visited d arity n x rows)
  unfolding placed hanging host visited attach
  placed_child some =
      rw (ready.length_is, ne_eqb (used_in n (at rows)) 0 (λ e. omega arith), used_in_used_count n (at rows))

  -- what holds in both cases holds of the placing
  by_case :
      (P : Placed → Type 0)
      → (used_in n (at rows) ≡ 0 → P (as_root d arity s x rows next))
      → (1 ≤ used_in n (at rows)
      → P (hanging_from d arity s x rows next (host d arity n x rows) (visited d arity n x rows)))
      → P (placed d arity s x rows)
  by_case P f g = elim (ℕ_discrete (used_in n (at rows)) 0) [
    | yes z ↦ rw (placed_root z) (f z)
    | no nz ↦ let some : 1 ≤ used_in n (at rows) = omega arith in rw (placed_child some) (g some)
  ]

  -- ---- as the tree knows it

  pub placed_alone : used_in n (at rows) ≡ 0 → Alone (view_of (at (placed d arity s x rows).rows)) n s
  placed_alone none = rw (placed_root none) (root_alone d arity ready next next_some none)

  pub placed_inserted :
      1 ≤ used_in n (at rows)
      → Inserted
      d
      (view_of (at rows))
      (view_of (at (placed d arity s x rows).rows))
      x.card
      x.readings
      s
      next
      (host d arity n x rows)
      (visited d arity n x rows)
  placed_inserted some = rw (placed_child some) (child_inserted d arity ready next next_some next_late some)

  -- ---- what it keeps

  pub placed_length : length (placed d arity s x rows).rows ≡ n
  placed_length =
      by_case
      (λ (p : Placed). length p.rows ≡ n)
      (λ none. root_length d arity ready next next_some none)
      (λ some. after_length d arity s x rows next (host d arity n x rows) (visited d arity n x rows) ∙ ready.length_is)

  pub placed_settled :
      Settled n s next x (at rows) (at (placed d arity s x rows).rows)
  placed_settled =
      by_case
      (λ (p : Placed). Settled n s next x (at rows) (at p.rows))
      (λ none. root_settled d arity ready next next_some none)
      (λ some. child_settled d arity ready next next_some next_late some)

  pub placed_sound :
      {Fit : List ℕ → Type 0}
      → Distance Fit d
      → Sound d (view_of (at rows))
      → Sound d (view_of (at (placed d arity s x rows).rows))
  placed_sound laws ok =
      by_case
      (λ (p : Placed). Sound d (view_of (at p.rows)))
      (λ none. root_sound d arity ready next next_some none d)
      (λ some. child_sound d arity ready next next_some next_late some laws ok)

-- a sound table stays sound, at the distance of the newcomer's kind
pub placed_sound_table :
    {n arity s : ℕ} {x : Newcomer} {rows : List Record}
    → Ready n arity s x rows
    → SoundTable n (at rows)
    → SoundTable n (at (placed (apart x.kind) arity s x rows).rows)
placed_sound_table {x} {rows} ready ok =
    let new = placed_settled (apart x.kind) ready in
    sound_at
    x.kind
    new.shaped
    new.well_formed
    (settled_kinds ready new)
    (placed_sound
    (apart x.kind)
    ready
    (apart_distance x.kind)
    (at_sound x.kind ready.shaped ready.well_formed ready.kind_same ok))
