-- What leaves with the deleted card and what stays, of the records: the keys of those that leave, the largest
-- timestamp, the root and the number of those that stay, and the rows in which v alone has left and the others wait.
-- Assumes nothing.
use Rattle.std.specs.Prelude.{ℕ, ◌+◌, ◌-◌, ◌≤◌, ◌<◌, ◌≡◌, refl, length, get_or, set, drop}
use Rattle.std.proofs.Math.Path.{sym}
use Rattle.std.proofs.Common.{ap, ◌∙◌, arith, get_or-set_other}
use mathlib.Core.List.{List, map}
use Rattle.std.proofs.Math.Decide.{ℕ_discrete}
use Rattle.std.proofs.lemmas.List.{length-map, length-replicate}
use Rattle.places.specs.Fill.{zeros_at}
use Rattle.order.specs.InOrder.{in_order_length}
use Rattle.refusals.specs.Limits.{most_records, last_timestamp}
use Rattle.table.specs.Record.{Record, free, no_slot}
use Rattle.table.specs.Table.{at}
use Rattle.survey.specs.Survey.{used_in, root_of, kind_of, largest_timestamp}
use Rattle.survey.specs.Laws.{used_in_most}
use Rattle.tree.specs.Slots.{◌∈◌, ∈_decide, image_to}
use Rattle.tree.specs.View.Count.{used_at_most}
use Rattle.tree.proofs.Remove.Count.{removed_used_count}
use Rattle.view.specs.Children.{at_∈}
use Rattle.view.specs.Survey.{used_in_used_count}
use Rattle.view.specs.Freed.{freed_at, freed_same}
use Rattle.removal.specs.Removal.{leaving, removed, unhung}
use Rattle.removal.specs.Leaving.{
  Held,
  held_seen,
  leaving_first,
  leaving_used,
  leaving_distinct,
  unhung_leaving,
  removed_in,
  removed_out,
}
use Rattle.removal.specs.Removed.{removed_is, removed_all, removed_root_of}
use Rattle.age.specs.Key.{age_key, slot_in}
use Rattle.back.specs.Returnable.{returnable_same}
use Rattle.back.specs.Loop.Turn.{Turn, formed_linked}
use Rattle.delete.specs.Delete.{waiting}
use Rattle.delete.specs.Waiting.{leaving_keys}
use Rattle.delete.proofs.Waiting.{leaving_within, waiting_low, waiting_iff, keys_slots}
use Rattle.delete.proofs.Deleted.{removed_returnable}
use Rattle.below.specs.Loop.Clock.{
  no_marks,
  marked,
  marked_in,
  marked_out,
  unmarked,
  timestamp_in,
  timestamp_marked,
  timestamp_open,
  timestamp_free,
  largest_same,
}

module _ {rows : List Record} {v : ℕ} (held : Held rows v) where
  abbrev N : ℕ
  N = length rows

  pub keys_few : (i : ℕ) → i < length (leaving_keys rows v) → slot_in (get_or (leaving_keys rows v) i 0) < most_records
  keys_few i h =
      let l = leaving_keys rows v in
      let a = (keys_slots held (slot_in (get_or l i 0))).0 (image_to slot_in (get_or l i 0) l (at_∈ l i h)) in
      omega (arith, leaving_within held (slot_in (get_or l i 0)) a, held.small)

  pub keys_length : length (leaving_keys rows v) ≡ length (leaving rows v)
  keys_length = in_order_length (map (age_key rows) (leaving rows v)) ∙ length-map (leaving rows v) (age_key rows)

  pub leaving_used_most : length (leaving rows v) ≤ used_in (length rows) (at rows)
  leaving_used_most =
      omega (
        arith,
        used_at_most (held_seen held) (leaving rows v) (leaving_distinct held) (leaving_used held),
        used_in_used_count (length rows) (at rows),
      )

  pub leaving_few : length (leaving rows v) ≤ most_records
  leaving_few = omega (arith, leaving_used_most, used_in_most (length rows) (at rows), held.small)

  -- "the largest among the records that stay"
  pub staying_largest :
      largest_timestamp N (unmarked (marked (leaving_keys rows v) no_marks) (at rows))
      ≡ largest_timestamp N (at (removed rows v))
  staying_largest =
      let l = leaving_keys rows v in
      let marks = marked l no_marks in
      largest_same N (unmarked marks (at rows)) (at (removed rows v))
      (λ s b. elim (∈_decide s (leaving rows v)) [
        | yes i ↦
            let e =
            marked_in l no_marks s ((keys_slots held s).1 i)
            (omega (arith, length-replicate {A = ℕ} most_records 0, held.small)) in
            timestamp_marked marks (at rows) s (λ z. omega (arith, e, z))
            ∙ sym (timestamp_free (at (removed rows v) s) (ap (λ (r : Record). r.card) (removed_in held s i)))
        | no m ↦
            let st = removed_out held s m in
            let e = marked_out l no_marks s (λ i. m ((keys_slots held s).0 i)) in
            timestamp_open marks (at rows) s (e ∙ zeros_at most_records s)
            ∙ same_in (at rows s) (at (removed rows v) s) st.card st.timestamp
      ])
    where
      same_in : (r q : Record) → q.card ≡ r.card → q.timestamp ≡ r.timestamp → timestamp_in r ≡ timestamp_in q
      same_in r q e f = rw (e, f)

  pub staying_used : used_in N (at rows) - length (leaving rows v) ≡ used_in N (at (removed rows v))
  unfolding leaving
  staying_used =
      let e = removed_used_count (held_seen held) held.used (removed_is held) in
      let f = rw (used_in_used_count N (at rows), used_in_used_count N (at (removed rows v))) at e in
      omega (arith, f)

  pub staying_root : 1 ≤ used_in N (at (removed rows v)) → root_of N (at rows) ≡ root_of N (at (removed rows v))
  staying_root some = elim (ℕ_discrete (at rows v).parent no_slot) [
    | yes e ↦ absurd (omega (arith, removed_all held e, some))
    | no ne ↦ sym (removed_root_of held ne).1
  ]

  -- ---- v has left its parent, and its slot is free: the others that leave wait

  abbrev alone : List Record
  alone = set (unhung v rows) v free

  pub alone_freed : freed_at (waiting rows v) (set (unhung v rows) v free) ≡ removed rows v
  unfolding removed
  alone_freed =
      freed_same (waiting rows v) (drop 1 (leaving rows v)) alone
      (λ a. (waiting_low held a).0)
      (λ a. (waiting_low held a).1)
      ∙ sym
      (ap (λ (l : List ℕ). freed_at l (unhung v rows)) (leaving_first held)
      ∙ unfold freed_at in refl)

  -- a slot below v is not v's parent, so it is as it was
  pub alone_waits : (s : ℕ) → s ∈ waiting rows v → at (set (unhung v rows) v free) s ≡ at rows s
  alone_waits s i =
      let z = (waiting_iff held s).0 i in
      get_or-set_other (unhung v rows) v s free free z.1 ∙ unhung_leaving held s z.0

  pub alone_turn :
      {kind root depth last : ℕ}
      → kind ≡ kind_of N (at rows)
      → (1 ≤ depth → root ≡ root_of N (at (removed rows v)))
      → depth ≡ used_in N (at (removed rows v))
      → last ≡ largest_timestamp N (at (removed rows v))
      → last + length (waiting rows v) ≤ last_timestamp
      → Turn N kind (waiting rows v) (set (unhung v rows) v free) root depth last
  alone_turn kind_is root_is depth_is last_is clock =
      record {
        returnable = rw (kind_is, alone_freed) (returnable_same alone alone_waits (removed_returnable held));
        linked = λ s i. rw (alone_waits s i) (formed_linked held.shaped held.well_formed s);
        depth_is = rw alone_freed depth_is;
        root_is = rw alone_freed root_is;
        last_is = rw alone_freed last_is;
        clock = clock;
      }
