-- A deletion leaves fields that fit their bytes, so the bytes afterwards hold exactly the records that the rule gives.
-- What stays fits as it did, and putting back keeps that. Assumes nothing.
use Rattle.std.specs.Prelude.{ℕ, ◌+◌, ◌≤◌, ◌<◌, ◌≡◌, false, List, length}
use Rattle.std.proofs.Common.{arith, ltb-false}
use Rattle.std.proofs.Math.ListN.{get_or-eq_default}
use Rattle.places.specs.Cases.{below_or, either}
use Rattle.refusals.specs.Limits.{most_children, last_timestamp}
use Rattle.table.specs.Record.{Record, Used, slot}
use Rattle.table.specs.Table.{at}
use Rattle.table.specs.Fitting.{Fitting, FittingRow}
use Rattle.survey.specs.Survey.{largest_timestamp}
use Rattle.view.specs.Formed.{free_or_used}
use Rattle.placing.specs.RowsFit.{fitting_free}
use Rattle.removal.specs.Removal.{removed}
use Rattle.removal.specs.Leaving.{Held, removed_out}
use Rattle.removal.specs.Removed.{used_stays, removed_shaped, removed_well_formed}
use Rattle.back.specs.Fits.{put_back_fits}
use Rattle.delete.specs.Delete.{waiting, deleted, clock_would_pass}
use Rattle.delete.proofs.Deleted.{removed_returnable}

removed_fits : {rows : List Record} {v : ℕ} → Held rows v → FittingRow rows → FittingRow (removed rows v)
removed_fits {rows} {v} held fits a h =
    either
    (free_or_used (removed_shaped held) (removed_well_formed held).free_if_no_card a)
    (λ e. rw e fitting_free)
    (λ z. used_fits z.0 z.1)
  where
    S : ℕ → Record
    S = at (removed rows v)

    slots_fit : a < length rows → Used (S a) → (i : ℕ) → slot (S a) i < 65536
    slots_fit b u i =
        below_or i (S a).count
        (λ k. omega (arith, ((removed_well_formed held).owned a i b u k).child_in, held.small))
        (λ k. below_or i most_children
        (λ j. omega (arith, ((removed_well_formed held).filled a b u).past_count i k j))
        (λ j.
        let none : slot (S a) i ≡ 0 =
        get_or-eq_default (S a).slots 0 (omega (arith, (removed_shaped held).eight a)) in
        omega (arith, none)))

    used_fits : a < length rows → Used (S a) → Fitting (S a)
    used_fits b u =
        let st = removed_out held a (used_stays held a u) in
        let was = fits a b in
        record {
          card = rw st.card was.card;
          timestamp = rw st.timestamp was.timestamp;
          radius = rw st.radius was.radius;
          parent = rw st.parent was.parent;
          count = omega (arith, ((removed_well_formed held).filled a b u).count_to_8);
          kind = rw st.kind was.kind;
          eight = (removed_shaped held).eight a;
          slots = slots_fit b u;
          sixteen = (removed_shaped held).sixteen a;
          readings = rw st.readings was.readings;
        }

pub deleted_fits :
    {rows : List Record} {v arity : ℕ}
    → Held rows v
    → arity ≤ most_children
    → FittingRow rows
    → clock_would_pass rows v ≡ false
    → FittingRow (deleted arity rows v).rows
unfolding deleted clock_would_pass
deleted_fits {rows} {v} held to_8 were clock =
    let r = removed_returnable held in
    put_back_fits to_8 (waiting rows v) (record { rows = removed rows v; count = 0 }) r
    (λ s i. let f = were s (r.slot_within s i) in (f.card, f.readings))
    (removed_fits held were)
    (ltb-false last_timestamp (largest_timestamp (length rows) (at (removed rows v)) + length (waiting rows v)) clock)
