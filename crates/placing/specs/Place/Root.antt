-- "In a free table it becomes the root": the table afterwards is well formed, and sound at every distance.
-- Assumes nothing.
use Rattle.std.specs.Prelude.{ℕ, ◌≤◌, ◌≡◌, List, []}
use Rattle.std.proofs.Math.Path.{refl, sym, ap}
use Rattle.std.proofs.Common.{◌∙◌, arith}
use Rattle.std.proofs.Math.Decide.{ℕ_discrete}
use Rattle.std.proofs.Math.ListN.{length, length-set}
use Rattle.std.proofs.lemmas.List.{get_or-replicate}
use Rattle.std.proofs.Math.Seq.{get_or-set_same, get_or-set_other}
use Rattle.refusals.specs.Limits.{most_children}
use Rattle.table.specs.Record.{Record, Used, free, no_slot, children}
use Rattle.table.specs.Table.{at}
use Rattle.judge.specs.WellFormed.{Filled}
use Rattle.survey.specs.Survey.{used_in}
use Rattle.tree.specs.View.{Sound}
use Rattle.tree.specs.Insert.{Alone}
use Rattle.tree.proofs.Insert.First.{alone_formed, alone_sound}
use Rattle.view.specs.View.{view_of}
use Rattle.view.specs.Shaped.{Shaped}
use Rattle.view.specs.Formed.{none_used, formed_table}
use Rattle.placing.specs.Place.{as_root}
use Rattle.newcomer.specs.Newcomer.{Newcomer, fresh}
use Rattle.newcomer.specs.Kept.{kept_self}
use Rattle.placing.specs.Place.Settled.{Ready, Settled}

-- the newcomer's record has every field as the paper's table has it
pub fresh_filled :
    {n arity s : ℕ} {x : Newcomer} {rows : List Record}
    → Ready n arity s x rows
    → (t p : ℕ)
    → 1 ≤ t
    → Filled (fresh x t p)
unfolding fresh
fresh_filled ready t p h =
    record {
      card_from_1 = ready.card_some;
      timestamp_from_1 = h;
      count_to_8 = omega arith;
      kind_known = ready.kind_known;
      past_count = λ i _ b. get_or-replicate most_children i no_slot 0 b;
    }

module _ (d : List ℕ → List ℕ → ℕ) (arity : ℕ) {n s : ℕ} {x : Newcomer} {rows : List Record}
    (ready : Ready n arity s x rows) (t : ℕ) (late : 1 ≤ t) (none : used_in n (at rows) ≡ 0) where
  after : ℕ → Record
  after = at (as_root d arity s x rows t).rows

  was_free : (a : ℕ) → at rows a ≡ free
  was_free = none_used ready.shaped ready.well_formed none

  after_new : after s ≡ fresh x t no_slot
  unfolding after as_root
  after_new = get_or-set_same rows s (fresh x t no_slot) free (omega (arith, ready.slot_within, ready.length_is))

  after_other : (a : ℕ) → (a ≡ s → ⊥) → after a ≡ at rows a
  unfolding after as_root
  after_other a ne = get_or-set_other rows s a (fresh x t no_slot) free ne

  pub root_length : length (as_root d arity s x rows t).rows ≡ n
  unfolding as_root
  root_length = length-set rows s (fresh x t no_slot) ∙ ready.length_is

  -- what holds of the newcomer's record and of a free one holds of all
  each : (P : Record → Type 0) → P (fresh x t no_slot) → P free → (a : ℕ) → P (after a)
  each P p q a = elim (ℕ_discrete a s) [
    | yes e ↦ rw (e, after_new) p
    | no ne ↦ rw (after_other a ne, was_free a) q
  ]

  shape : Shaped n after
  unfolding fresh
  shape =
      record {
        eight = each (λ (r : Record). length r.slots ≡ most_children) refl refl;
        sixteen = each (λ (r : Record). length r.readings ≡ 16) ready.sixteen refl;
        past = λ a h. after_other a (λ e. omega (arith, ready.slot_within)) ∙ was_free a;
      }

  only_new : (a : ℕ) → Used (after a) → a ≡ s
  only_new a u = elim (ℕ_discrete a s) [
    | yes e ↦ e
    | no ne ↦ absurd (omega (arith, ap (λ (r : Record). r.card) (after_other a ne ∙ was_free a)))
  ]

  alone : Alone (view_of after) n s
  unfolding fresh
  alone =
      record {
        within = ready.slot_within;
        used = rw after_new ready.card_some;
        only = only_new;
        childless = each (λ (r : Record). children r ≡ []) refl refl;
      }

  -- a lone root, as the tree knows it
  pub root_alone : Alone (view_of (at (as_root d arity s x rows t).rows)) n s
  unfolding after
  root_alone = alone

  pub root_settled : Settled n s t x (at rows) (at (as_root d arity s x rows t).rows)
  unfolding fresh after
  root_settled =
      record {
        shaped = shape;
        well_formed =
            formed_table
            ready.small
            shape
            (alone_formed alone)
            (record {
              free_if_no_card =
                  λ a b z.
                  let new : (after s).card ≡ x.card = ap (λ (r : Record). r.card) after_new in
                  after_other a (λ e. omega (arith, ready.card_some, ap (λ (i : ℕ). (after i).card) e)) ∙ was_free a;
              filled = λ a b u. rw (only_new a u, after_new) (fresh_filled ready t no_slot late);
              kinds = λ a b _ _ u w. ap (λ (i : ℕ). (after i).kind) (only_new a u ∙ sym (only_new b w));
              root_parent = ap (λ (r : Record). r.parent) after_new;
            });
        card_new = ap (λ (r : Record). r.card) after_new;
        timestamp_new = ap (λ (r : Record). r.timestamp) after_new;
        kind_new = ap (λ (r : Record). r.kind) after_new;
        readings_new = ap (λ (r : Record). r.readings) after_new;
        kept = λ a ne. rw (after_other a ne) (kept_self (at rows a));
      }

  pub root_sound : (e : List ℕ → List ℕ → ℕ) → Sound e (view_of (at (as_root d arity s x rows t).rows))
  unfolding after
  root_sound e = alone_sound alone e
