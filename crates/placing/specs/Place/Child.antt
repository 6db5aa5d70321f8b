-- "Otherwise the walk starts at the root": in a used table the newcomer hangs where the walk ends, and the table
-- afterwards is well formed, and sound if it was. From the tree's theorems and the four laws alone. Assumes nothing.
use Rattle.std.specs.Prelude.{ℕ, ◌≤◌, ◌<◌, ◌≡◌, refl, List}
use Rattle.std.proofs.Common.{sym, ◌∙◌, arith, get_or-set_other}
use Rattle.std.proofs.Math.Path.{ap}
use Rattle.std.proofs.Math.Decide.{ℕ_discrete}
use Rattle.std.proofs.Math.ListN.{length, length-set, get_or-eq_default}
use Rattle.refusals.specs.Limits.{most_children}
use Rattle.distance.specs.Laws.{Distance}
use Rattle.table.specs.Record.{Record, Used, free}
use Rattle.table.specs.Table.{at}
use Rattle.judge.specs.WellFormed.{Filled}
use Rattle.survey.specs.Survey.{used_in, root_of}
use Rattle.tree.specs.Slots.{◌∈◌}
use Rattle.places.specs.Cases.{either}
use Rattle.tree.specs.View.{Formed, Sound, Late, used_count}
use Rattle.tree.specs.Insert.{Fresh, Inserted, path, attach}
use Rattle.tree.proofs.Insert.Path.{path_used, attach_used}
use Rattle.tree.proofs.Insert.KeepsFormed.{inserted_formed}
use Rattle.tree.proofs.Insert.KeepsSound.{inserted_sound}
use Rattle.view.specs.View.{view_of}
use Rattle.view.specs.Shaped.{Shaped}
use Rattle.view.specs.Children.{children_length}
use Rattle.view.specs.Survey.{used_in_used_count, root_of_is}
use Rattle.view.specs.Formed.{count_fits, used_within, Fields, formed_view, formed_table}
use Rattle.placing.specs.Place.{hanging_from}
use Rattle.newcomer.specs.Newcomer.{Newcomer, fresh, adopting}
use Rattle.newcomer.specs.Kept.{Kept, Still}
use Rattle.placing.specs.Place.Row.{along_other}
use Rattle.placing.specs.Place.Hanging.{high, after, after_length, high_still, hanging_inserted}
use Rattle.placing.specs.Place.Hanging.{after_new, after_on, after_other, after_kept}
use Rattle.placing.specs.Place.Room.{attach_room}
use Rattle.placing.specs.Place.Settled.{Ready, Settled, not_new}
use Rattle.placing.specs.Place.Root.{fresh_filled}

-- ---- the walk in a table of n records

module _ (d : List ℕ → List ℕ → ℕ) (arity n : ℕ) (x : Newcomer) (rows : List Record) where
  -- the record whose last child the newcomer becomes
  unfoldable pub host : ℕ
  host = attach d (view_of (at rows)) x.readings arity (used_count (view_of (at rows)) n) (root_of n (at rows))

  -- the records visited
  unfoldable pub visited : List ℕ
  visited = path d (view_of (at rows)) x.readings arity (used_count (view_of (at rows)) n) (root_of n (at rows))

-- ---- a record's fields stay right

still_filled : (r q : Record) → Still r q → Filled r → Filled q
still_filled r q h f =
    record {
      card_from_1 = rw h.kept.card f.card_from_1;
      timestamp_from_1 = rw h.kept.timestamp f.timestamp_from_1;
      count_to_8 = rw h.count f.count_to_8;
      kind_known = rw h.kept.kind f.kind_known;
      past_count = λ i p b. rw h.slots (f.past_count i (rw h.count at p) b);
    }

adopting_filled : (s : ℕ) (r : Record) → r.count < most_children → Filled r → Filled (adopting s r)
unfolding adopting
adopting_filled s r h f =
    record {
      card_from_1 = f.card_from_1;
      timestamp_from_1 = f.timestamp_from_1;
      count_to_8 = omega arith;
      kind_known = f.kind_known;
      past_count =
          λ i p b.
          get_or-set_other r.slots r.count i s 0 (λ e. omega arith) ∙ f.past_count i (omega arith) b;
    }

module _ (d : List ℕ → List ℕ → ℕ) (arity : ℕ) {n s : ℕ} {x : Newcomer} {rows : List Record}
    (ready : Ready n arity s x rows) (t : ℕ) (positive : 1 ≤ t)
    (late : Late (view_of (at rows)) t) (some : 1 ≤ used_in n (at rows)) where
  -- ---- the walk

  abbrev on : ℕ
  on = host d arity n x rows

  abbrev walk : List ℕ
  walk = visited d arity n x rows

  -- the records afterwards
  S : ℕ → Record
  S = after d arity s x rows t on walk

  seen : Formed (view_of (at rows)) n (root_of n (at rows))
  seen = formed_view ready.small ready.shaped ready.well_formed some

  fuel : 0 < used_count (view_of (at rows)) n
  fuel = omega (arith, used_in_used_count n (at rows))

  on_used : Used (at rows on)
  unfolding host
  on_used = attach_used d (view_of (at rows)) x.readings arity seen (used_count (view_of (at rows)) n) fuel

  walk_used : (a : ℕ) → a ∈ walk → Used (at rows a)
  unfolding visited
  walk_used a i = path_used d (view_of (at rows)) x.readings arity seen (used_count (view_of (at rows)) n) a i

  within : (a : ℕ) → Used (at rows a) → a < length rows
  within a u = omega (arith, used_within ready.shaped a u, ready.length_is)

  on_count : (at rows on).count < most_children
  unfolding host
  on_count =
      let fits = count_fits ready.shaped ready.well_formed.free_if_no_card ready.well_formed.filled on in
      either
      (attach_room d (view_of (at rows)) x.readings arity seen)
      (λ e. omega (arith, children_length (at rows on) fits))
      (λ h. omega (arith, children_length (at rows on) fits, ready.arity_to_8))

  slot_in : s < length rows
  slot_in = omega (arith, ready.slot_within, ready.length_is)

  done : Inserted d (view_of (at rows)) (view_of S) x.card x.readings s t on walk
  unfolding S
  done =
      hanging_inserted d arity s x rows t on walk slot_in (within on on_used) (not_new ready on on_used)
      (omega (arith, on_count, ready.shaped.eight on))
      (λ i. not_new ready s (walk_used s i) refl)
      (λ a i. within a (walk_used a i))

  -- an insertion, as the tree knows it
  pub child_inserted :
      Inserted
      d
      (view_of (at rows))
      (view_of (at (hanging_from d arity s x rows t on walk).rows))
      x.card
      x.readings
      s
      t
      on
      walk
  unfolding S after
  child_inserted = done

  new : Fresh (view_of (at rows)) n s x.card t
  new =
      record {
        slot_within = ready.slot_within;
        slot_free = λ u. omega (arith, ready.slot_free);
        card_some = ready.card_some;
        card_new = λ a u e. ready.card_new a (used_within ready.shaped a u) e;
        late = late;
      }

  -- ---- the records afterwards

  -- the record with its radius raised, if it was visited
  H : ℕ → Record
  H = high d arity s x rows t on walk

  still : (a : ℕ) → Still (at rows a) (H a)
  unfolding H
  still = high_still d arity s x rows t on walk

  each :
      (P : Record → Type 0) (a : ℕ)
      → (a ≡ s → P (fresh x t on))
      → (a ≡ on → P (adopting s (H a)))
      → ((a ≡ s → ⊥) → (a ≡ on → ⊥) → P (H a))
      → P (S a)
  unfolding S H
  each P a f g h = elim (ℕ_discrete a s) [
    | yes e ↦
        let q = after_new d arity s x rows t on walk slot_in (within on on_used) (not_new ready on on_used) in
        rw (e, q) (f e)
    | no ns ↦ elim (ℕ_discrete a on) [
      | yes e ↦
          let q = after_on d arity s x rows t on walk slot_in (within on on_used) (not_new ready on on_used) in
          let g' : P (adopting s (high d arity s x rows t on walk on)) = rw e at (g e) in
          rw (e, q) g'
      | no no' ↦
          let other = after_other d arity s x rows t on walk slot_in (within on on_used) (not_new ready on on_used) in
          let q = other a ns no' in
          rw q (h ns no')
    ]
  ]

  kept : (a : ℕ) → (a ≡ s → ⊥) → Kept (at rows a) (S a)
  unfolding S
  kept = after_kept d arity s x rows t on walk slot_in (within on on_used) (not_new ready on on_used)

  S_new : S s ≡ fresh x t on
  unfolding S
  S_new = after_new d arity s x rows t on walk slot_in (within on on_used) (not_new ready on on_used)

  -- a record without a card is as it was
  unused_same : (a : ℕ) → (S a).card ≡ 0 → S a ≡ at rows a
  unfolding S high
  unused_same a z =
      let ns : a ≡ s → ⊥ = λ e. omega (arith, ready.card_some, ap (λ (i : ℕ). (S i).card) e, done.card_new) in
      let idle : Used (at rows a) → ⊥ = λ u. omega (arith, (kept a ns).card) in
      after_other d arity s x rows t on walk slot_in (within on on_used) (not_new ready on on_used) a ns
      (λ e. idle (rw e on_used))
      ∙ along_other d x.readings walk rows a (λ i. idle (walk_used a i))

  shape : Shaped n S
  unfolding fresh adopting
  shape =
      record {
        eight =
            λ a.
            let as-was : length (H a).slots ≡ most_children = ap length (still a).slots ∙ ready.shaped.eight a in
            each
            (λ (r : Record). length r.slots ≡ most_children)
            a
            (λ _. refl)
            (λ _. length-set (H a).slots (H a).count s ∙ as-was)
            (λ _ _. as-was);
        sixteen =
            λ a.
            let as-was : length (H a).readings ≡ 16 = ap length (still a).kept.readings ∙ ready.shaped.sixteen a in
            each (λ (r : Record). length r.readings ≡ 16) a (λ _. ready.sixteen) (λ _. as-was) (λ _ _. as-was);
        past = λ a h. past a h;
      }
    where
      past : (a : ℕ) → n ≤ a → S a ≡ free
      past a h =
          unfold S after in
          get_or-eq_default
          (hanging_from d arity s x rows t on walk).rows
          free
          (omega (arith, after_length d arity s x rows t on walk, ready.length_is))

  kinds : (a : ℕ) → a < n → Used (S a) → (S a).kind ≡ x.kind
  unfolding fresh
  kinds a b u = elim (ℕ_discrete a s) [
    | yes e ↦ ap (λ (i : ℕ). (S i).kind) e ∙ ap (λ (r : Record). r.kind) S_new
    | no ne ↦ (kept a ne).kind ∙ ready.kind_same a b (rw (kept a ne).card at u)
  ]

  fields : Fields n S (root_of n (at rows))
  fields =
      let r = root_of_is n (at rows) ready.well_formed some in
      record {
        free_if_no_card = λ a b z.
            let was : (at rows a).card ≡ 0 = ap (λ (q : Record). q.card) (sym (unused_same a z)) ∙ z in
            unused_same a z ∙ ready.well_formed.free_if_no_card a b was;
        filled = λ a b u.
            each
            Filled
            a
            (λ _. fresh_filled ready t on positive)
            (λ e.
            let room : (H a).count < most_children =
            omega (arith, on_count, (still a).count, ap (λ (i : ℕ). (at rows i).count) e) in
            adopting_filled s (H a) room (was_filled a b (rw e on_used)))
            (λ ns _. was_filled a b (rw (kept a ns).card at u));
        kinds = λ a b p q u w. kinds a p u ∙ sym (kinds b q w);
        root_parent = (kept (root_of n (at rows)) (not_new ready (root_of n (at rows)) r.1)).parent ∙ r.2;
      }
    where
      was_filled : (a : ℕ) → a < n → Used (at rows a) → Filled (H a)
      was_filled a b u = still_filled (at rows a) (H a) (still a) (ready.well_formed.filled a b u)

  pub child_settled : Settled n s t x (at rows) (at (hanging_from d arity s x rows t on walk).rows)
  unfolding fresh S after host visited
  child_settled =
      record {
        shaped = shape;
        well_formed =
            formed_table ready.small shape
            (inserted_formed arity (used_count (view_of (at rows)) n) fuel seen new done)
            fields;
        card_new = ap (λ (r : Record). r.card) S_new;
        timestamp_new = ap (λ (r : Record). r.timestamp) S_new;
        kind_new = ap (λ (r : Record). r.kind) S_new;
        readings_new = ap (λ (r : Record). r.readings) S_new;
        kept = kept;
      }

  pub child_sound :
      {Fit : List ℕ → Type 0}
      → Distance Fit d
      → Sound d (view_of (at rows))
      → Sound d (view_of (at (hanging_from d arity s x rows t on walk).rows))
  unfolding S after host visited
  child_sound laws ok = inserted_sound arity (used_count (view_of (at rows)) n) fuel seen new done laws ok
