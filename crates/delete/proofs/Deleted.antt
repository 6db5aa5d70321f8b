-- What the rule leaves: the slots that wait may go back over what stays (`removed_returnable`), so all that is true of
-- putting back is true of a deletion. Assumes nothing.
use Rattle.std.specs.Prelude.{ℕ, ◌≤◌, ◌≡◌, refl, ◌↔◌, List, length}
use Rattle.std.proofs.Common.{ap, ◌∙◌}
use mathlib.Core.List.Memᴰ.{head as first}
use Rattle.refusals.specs.Limits.{most_children}
use Rattle.distance.specs.Kind.{apart}
use Rattle.table.specs.Record.{Record, free}
use Rattle.table.specs.Table.{at}
use Rattle.survey.specs.Survey.{kind_of}
use Rattle.tree.specs.Slots.{◌∈◌, ∈_decide}
use Rattle.view.specs.Sound.{SoundTable}
use Rattle.newcomer.specs.Newcomer.{Newcomer, brought, brought_is}
use Rattle.placing.specs.Place.{Placed}
use Rattle.placing.specs.Stored.{Stored, stored_less}
use Rattle.removal.specs.Removal.{leaving, removed}
use Rattle.removal.specs.Leaving.{
  Held,
  held_within,
  leaving_used,
  leaving_first,
  removed_length,
  removed_in,
  removed_out,
}
use Rattle.removal.specs.Removed.{used_stays, removed_shaped, removed_well_formed, removed_sound_table}
use Rattle.back.specs.Returnable.{Returnable}
use Rattle.back.specs.Returned.{Returned, put_back_returned, put_back_sound}
use Rattle.back.specs.Instance.{parted_returnable}
use Rattle.delete.specs.Delete.{waiting, deleted}
use Rattle.delete.proofs.Waiting.{waiting_iff, waiting_distinct}

module _ {rows : List Record} {v : ℕ} (held : Held rows v) where
  -- what has not left is as it was brought
  removed_brought : (a : ℕ) → (a ∈ leaving rows v → ⊥) → brought (at (removed rows v) a) ≡ brought (at rows a)
  removed_brought a m =
      let s = removed_out held a m in
      brought_is (at (removed rows v) a) (brought (at rows a)) s.card s.kind s.readings

  -- what has left is free
  removed_card : (a : ℕ) → a ∈ leaving rows v → (at (removed rows v) a).card ≡ 0
  removed_card a i = ap (λ (r : Record). r.card) (removed_in held a i)

  -- those below v may go back over what stays
  pub removed_returnable :
      Returnable (length rows) (kind_of (length rows) (at rows)) rows (removed rows v) (waiting rows v)
  removed_returnable =
      parted_returnable
      (record {
        small = held.small;
        old_shaped = held.shaped;
        old_formed = held.well_formed;
        length_is = removed_length held;
        shaped = removed_shaped held;
        well_formed = removed_well_formed held;
        distinct = waiting_distinct held;
        waits = λ s i.
            let z = (waiting_iff held s).0 i in (leaving_used held s z.0, removed_card s z.0);
        stays = λ a u. removed_brought a (used_stays held a u);
      })

  -- ---- the whole deletion

  module _ {arity : ℕ} (to_8 : arity ≤ most_children) where
    abbrev start : Placed
    start = record { rows = removed rows v; count = 0 }

    abbrev after : List Record
    after = (deleted arity rows v).rows

    pub deleted_returned :
        Returned (length rows) rows (removed rows v) (waiting rows v) (deleted arity rows v).rows
    unfolding deleted
    deleted_returned =
        put_back_returned to_8 (apart (kind_of (length rows) (at rows))) (waiting rows v) start removed_returnable

    -- "no radius shrinks", and what else soundness needs
    pub deleted_sound : SoundTable (length rows) (at rows) → SoundTable (length rows) (at (deleted arity rows v).rows)
    unfolding deleted
    deleted_sound ok =
        put_back_sound to_8 (waiting rows v) start removed_returnable (removed_sound_table held ok)

    -- every card but the deleted one is as it was brought, in its own slot
    deleted_others : (a : ℕ) → (a ≡ v → ⊥) → brought (at after a) ≡ brought (at rows a)
    deleted_others a ne = elim (∈_decide a (waiting rows v)) [
      | yes i ↦ deleted_returned.back a i
      | no m ↦ deleted_returned.kept a m ∙ removed_brought a (λ i. m ((waiting_iff held a).1 (i, ne)))
    ]

    deleted_card : (at after v).card ≡ 0
    deleted_card =
        ap (λ (x : Newcomer). x.card) (deleted_returned.kept v (λ i. ((waiting_iff held v).0 i).1 refl))
        ∙ removed_card v (rw (leaving_first held) (first refl))

    -- the stored cards are those before less the deleted one, each with its kind and signature
    pub deleted_stored :
        (x : Newcomer)
        → Stored (length rows) (at (deleted arity rows v).rows) x
        ↔ (Stored (length rows) (at rows) x × (x.card ≡ (at rows v).card → ⊥))
    deleted_stored =
        stored_less
        (length rows)
        (at rows)
        (at after)
        v
        (λ a b ne. deleted_others a ne)
        held.well_formed.cards
        (held_within held)
        held.used
        deleted_card

    -- "The deleted card's record becomes free, all zero"
    pub deleted_free : at (deleted arity rows v).rows v ≡ free
    deleted_free = deleted_returned.well_formed.free_if_no_card v (held_within held) deleted_card
