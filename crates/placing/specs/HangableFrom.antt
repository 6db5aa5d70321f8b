-- Where a newcomer can be hung: in a table whose rows agree, outside slots that wait for their turn, with a well-formed
-- table (`hangable`). Insert has one slot that waits, delete those of all records that stood below the deleted card.
-- Assumes nothing.
use Rattle.std.specs.Prelude.{ℕ, ◌≤◌, ◌<◌, ◌≡◌, List, length}
use Rattle.std.proofs.Common.{ap, arith}
use Rattle.distance.specs.Kind.{apart}
use Rattle.refusals.specs.Limits.{most_records, most_children}
use Rattle.table.specs.Record.{Record, children, largest_table}
use Rattle.table.specs.Table.{records_of, at}
use Rattle.table.specs.Records.{records_length}
use Rattle.judge.specs.WellFormed.{WellFormed}
use Rattle.survey.specs.Survey.{used_in, root_of}
use Rattle.survey.specs.Laws.{used_in_most}
use Rattle.places.specs.Cases.{either}
use Rattle.tree.specs.Insert.{path, last, attach}
use Rattle.tree.proofs.Insert.Path.{attach_∈}
use Rattle.tree.proofs.Insert.Same.{path_same, path_in}
use Rattle.view.specs.View.{view_of}
use Rattle.view.specs.Shaped.{Shaped}
use Rattle.view.specs.Children.{children_length}
use Rattle.view.specs.Survey.{used_in_used_count, root_of_is}
use Rattle.view.specs.Formed.{count_fits, formed_view}
use Rattle.placing.specs.Place.Agree.{Agree, Unlinked}
use Rattle.placing.specs.Place.Room.{attach_room}
use Rattle.table.specs.Stands.{Stands, Walkable, stands_in}
use Rattle.placing.specs.Hangable.{host_of, Hangable}

-- ---- where a newcomer can be hung

module _ {l : List ℕ} {n : ℕ} (kind arity s : ℕ) (D : List Record) (waits : ℕ → Type 0)
    (walkable : Walkable l) (size : length l ≤ largest_table) (slot_stands : Stands l s)
    (arity_to_8 : arity ≤ most_children)
    (agree : Agree waits (records_of l) D) (long : length D ≡ n) (small : n ≤ most_records) (shape : Shaped n (at D))
    (wf : WellFormed n (at D)) (some : 1 ≤ used_in n (at D)) (unlinked : Unlinked waits D (root_of n (at D))) where
  abbrev root : ℕ
  root = root_of n (at D)

  abbrev depth : ℕ
  depth = used_in n (at D)

  abbrev x : List ℕ
  x = (at (records_of l) s).readings

  abbrev walk : List ℕ
  walk = path (apart kind) (view_of (at D)) x arity depth root

  same_children : (a : ℕ) → (waits a → ⊥) → children (at (records_of l) a) ≡ children (at D a)
  same_children a h = ap children (agree.same a h)

  same_readings : (a : ℕ) → (waits a → ⊥) → (at (records_of l) a).readings ≡ (at D a).readings
  same_readings a h = ap (λ (r : Record). r.readings) (agree.same a h)

  walked : path (apart kind) (view_of (at (records_of l))) x arity depth root ≡ walk
  walked =
      path_same (apart kind) (view_of (at D)) (view_of (at (records_of l))) x arity (λ a. waits a → ⊥)
      unlinked.children_stay
      same_children
      same_readings
      depth
      root
      unlinked.root_stays

  host_stays : waits (last root walk) → ⊥
  unfolding attach
  host_stays =
      path_in (apart kind) (view_of (at D)) (view_of (at (records_of l))) x arity (λ a. waits a → ⊥)
      unlinked.children_stay
      same_children
      same_readings
      depth
      root
      (last root walk)
      unlinked.root_stays
      (attach_∈ (apart kind) (view_of (at D)) x arity depth root (omega (arith, some)))

  host_count : (at D (last root walk)).count < most_children
  unfolding attach
  host_count =
      let seen = formed_view small shape wf some in
      let deep = used_in_used_count n (at D) in
      let on = last root walk in
      let long = children_length (at D on) (count_fits shape wf.free_if_no_card wf.filled on) in
      either
      (rw deep at (attach_room (apart kind) (view_of (at D)) x arity seen))
      (λ e. omega (arith, e, long))
      (λ h. omega (arith, h, long, arity_to_8))

  pub hangable : Hangable l kind arity s root depth
  hangable =
      record {
        walkable = walkable;
        size = size;
        slot_stands = slot_stands;
        root_stands =
            stands_in l root (omega (arith, (root_of_is n (at D) wf some).0, long, agree.long, records_length l));
        some = some;
        deep = omega (arith, used_in_most n (at D), small);
        room =
            let here : host_of (records_of l) kind arity s root depth ≡ last root walk = ap (last root) walked in
            rw here (rw (agree.same (last root walk) host_stays) host_count);
      }
