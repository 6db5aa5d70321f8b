-- A walk, a host with one child more and a seated newcomer make what the definition hangs (`hung`). The key idea:
-- neither a raised radius nor a further child changes the newcomer's card, kind and signature, even if its slot is
-- visited. Assumes nothing.
use Prim.Native.Nat.{ℕ, ◌<◌}
use mathlib.Core.Path.{◌≡◌, refl, sym, ap, ap₂, ◌∙◌}
use mathlib.Core.List.Memᴰ.{head as first}
use mathlib.Core.List.Memᴰ.{tail as later}
use mathlib.Core.List.{List, ◌∷◌}
use native.Mathlib.Omega.{arith}
use native.Mathlib.Decide.{ℕ_discrete}
use lib.ListN.{length, set}
use Rattle.distance.specs.Kind.{apart}
use Rattle.refusals.specs.Limits.{most_records, most_children}
use Rattle.table.specs.Record.{Record, record_of, children}
use Rattle.table.specs.Table.{records_of, at}
use Rattle.table.specs.Same.{slots_length}
use Rattle.table.specs.Records.{records_at}
use Rattle.writing.specs.Laws.{Became}
use Rattle.tree.specs.Slots.{◌∈◌}
use Rattle.tree.specs.View.{distance_count}
use Rattle.tree.specs.Insert.{path, last}
use Rattle.tree.proofs.Insert.Path.{last_∈}
use Rattle.tree.proofs.Insert.Same.{path_in}
use Rattle.view.specs.View.{view_of}
use Rattle.view.specs.Children.{children_at}
use Rattle.newcomer.specs.Newcomer.{brought, brought_is, Newcomer, fresh, adopting}
use Rattle.placing.specs.Place.{Placed, hanging_from, hanging}
use Rattle.newcomer.specs.Kept.{Kept, Still, still_self, kept_adopting}
use Rattle.placing.specs.Place.Row.{along_still}
use Rattle.descent.specs.Descent.{raised_along, Descended, descent, descended}
use Rattle.table.specs.Stands.{Stands, stands_same, in_stands, whole_same}
use Rattle.placing.specs.Hangable.{Hangable, host_of}

-- the walk of the newcomer in slot s of the table l is over: at slot `on`, with `count` distances worked out, and the
-- bytes m
pub record Walked (l : List ℕ) (kind arity s root depth : ℕ) (m : List ℕ) (on count : ℕ) : Type 0 where
  pub same_length : length m ≡ length l
  pub walk :
      descent (records_of m) on count
      ≡ descended (apart kind) (at (records_of l) s).readings arity (records_of l) depth root 1

module _ {l : List ℕ} {kind arity s root depth : ℕ} (ok : Hangable l kind arity s root depth) where
  abbrev rows : List Record
  rows = records_of l

  abbrev x : List ℕ
  x = (at rows s).readings

  abbrev walk : List ℕ
  walk = path (apart kind) (view_of (at rows)) x arity depth root

  -- every record visited stands in the table
  child_stands : (a b : ℕ) → Stands l a → b ∈ children (at rows a) → Stands l b
  child_stands a b h i =
      let e = records_at l ok.walkable.whole a in
      let few = ok.walkable.few a h in
      let z = children_at (record_of l a) (omega (arith, few, slots_length l a)) b (rw e at i) in
      rw z.2 at (ok.walkable.stand a z.0 h z.1)

  end_stands : Stands l (host_of rows kind arity s root depth)
  end_stands = stands (last root walk) (last_∈ root walk)
    where
      stands : (b : ℕ) → b ∈ (root ∷ walk) → Stands l b
      stands b (first e) = rw e ok.root_stands
      stands b (later i) =
          path_in (apart kind) (view_of (at rows)) (view_of (at rows)) x arity (Stands l) child_stands
          (λ a h. refl)
          (λ a h. refl)
          depth
          root
          b
          ok.root_stands
          i

  -- a slot's number fits two bytes
  few_slots : (a : ℕ) → Stands l a → a < most_records
  few_slots a h = omega (arith, in_stands l a h, ok.size)

  pub slot_few : s < most_records
  slot_few = few_slots s ok.slot_stands

  -- the walk as the code takes it, of the signature y that it has read
  pub walk_over :
      {m : List ℕ} {on count : ℕ} (y : List ℕ)
      → length m ≡ length l
      → y ≡ (record_of l s).readings
      → descent (records_of m) on count ≡ descended (apart kind) y arity rows depth root 1
      → Walked l kind arity s root depth m on count
  walk_over y same e walked =
      let read : y ≡ x = e ∙ ap (λ (r : Record). r.readings) (sym (records_at l ok.walkable.whole s)) in
      record {
        same_length = same;
        walk = walked ∙ ap (λ (z : List ℕ). descended (apart kind) z arity rows depth root 1) read;
      }

  module _ {m : List ℕ} {on count : ℕ} (over : Walked l kind arity s root depth m on count) where
    abbrev high : List Record
    high = raised_along (apart kind) x walk rows

    rows_high : records_of m ≡ high
    unfolding descended
    rows_high = ap (λ (p : Descended). p.rows) over.walk

    on_host : on ≡ host_of rows kind arity s root depth
    unfolding descended
    on_host = ap (λ (p : Descended). p.slot) over.walk

    on_stands : Stands l on
    on_stands = rw on_host end_stands

    pub host_few : on < most_records
    host_few = few_slots on on_stands

    pub host_stands : Stands m on
    host_stands = stands_same l m over.same_length on on_stands

    counted : count ≡ distance_count (view_of (at rows)) walk
    unfolding descended distance_count
    counted = ap (λ (p : Descended). p.count) over.walk

    record_high : (a : ℕ) → record_of m a ≡ at high a
    record_high a =
        sym (records_at m (whole_same l m over.same_length ok.walkable.whole) a)
        ∙ ap (λ (rs : List Record). at rs a) rows_high

    still : (a : ℕ) → Still (at rows a) (record_of m a)
    still a = rw (record_high a) (along_still (apart kind) x walk rows (at rows a) a (still_self (at rows a)))

    pub host_room : (record_of m on).count < most_children
    host_room = omega (arith, (still on).count, ok.room, ap (λ (i : ℕ). (at rows i).count) on_host)

    -- the newcomer's slot stands still, where the host has its child
    pub slot_still : {k : List ℕ} → Became m on (adopting s (record_of m on)) k → Stands k s
    slot_still {k} adopted =
        stands_same m k adopted.same_length s (stands_same l m over.same_length s ok.slot_stands)

    module _ {k j : List ℕ} (timestamp : ℕ) (adopted : Became m on (adopting s (record_of m on)) k)
        (seated : Became k s (fresh (brought (record_of k s)) timestamp on) j) where
      kept : Kept (at rows s) (record_of k s)
      kept = elim (ℕ_discrete s on) [
        | yes e ↦
            let q : record_of k s ≡ adopting s (record_of m s) =
            ap (record_of k) e ∙ adopted.here ∙ ap (λ (i : ℕ). adopting s (record_of m i)) (sym e) in
            rw q (kept_adopting (at rows s) (record_of m s) s (still s).kept)
        | no ne ↦ rw (adopted.elsewhere s ne) (still s).kept
      ]

      same_newcomer : brought (record_of k s) ≡ brought (at rows s)
      same_newcomer = brought_is (record_of k s) (brought (at rows s)) kept.card kept.kind kept.readings

      pub hung :
          ◌≡◌ {A = Placed}
          (record { rows = records_of j; count = count })
          (hanging (apart kind) arity s (brought (at rows s)) rows timestamp depth root)
      unfolding hanging hanging_from
      hung =
          let host : records_of k ≡ set high on (adopting s (at high on)) =
          adopted.records
          ∙ ap₂ (λ (rs : List Record) (r : Record). set rs on (adopting s r)) rows_high (record_high on) in
          let hosted = set high on (adopting s (at high on)) in
          let done : records_of j ≡ set hosted s (fresh (brought (at rows s)) timestamp on) =
          seated.records
          ∙ ap₂ (λ (rs : List Record) (y : Newcomer). set rs s (fresh y timestamp on)) host same_newcomer in
          (λ i. record { rows = done i; count = counted i })
          ∙ ap (λ (o : ℕ). hanging_from (apart kind) arity s (brought (at rows s)) rows timestamp o walk) on_host
