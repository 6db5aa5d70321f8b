-- What may go back: slots that wait, over rows in which they are free (`Returnable`). One goes back, and the others may
-- still go back over what it leaves (`returnable_next`), so nothing else need be asked of the rows on the way.
-- Assumes nothing.
use Rattle.std.specs.Prelude.{ℕ, suc, ◌+◌, ◌≤◌, ◌<◌, ◌≡◌, refl, true, List, ◌∷◌, length}
use Rattle.std.proofs.Common.{sym, ap, ◌∙◌}
use mathlib.Core.List.Memᴰ.{head as first}
use mathlib.Core.List.Memᴰ.{tail as later}
use Rattle.std.proofs.Math.Decide.{ℕ_discrete}
use Rattle.distance.specs.Kind.{apart, known_kind}
use Rattle.refusals.specs.Limits.{most_records, most_children}
use Rattle.table.specs.Record.{Record, Used}
use Rattle.table.specs.Table.{at}
use Rattle.judge.specs.WellFormed.{WellFormed}
use Rattle.survey.specs.Survey.{used_in, largest_timestamp}
use Rattle.tree.specs.Slots.{◌∈◌, Distinct}
use Rattle.view.specs.Shaped.{Shaped}
use Rattle.view.specs.Sound.{SoundTable}
use Rattle.placing.specs.Place.{placed}
use Rattle.newcomer.specs.Newcomer.{brought}
use Rattle.placing.specs.Place.Settled.{Ready, Settled, settled_used_in, settled_largest, settled_kinds}
use Rattle.placing.specs.Place.Keeps.{placed_length, placed_settled, placed_sound_table}

-- the record brings a card, this kind, which is known, and a whole signature
pub record Brings (kind : ℕ) (r : Record) : Type 0 where
  pub card_some : Used r
  pub kind_is : r.kind ≡ kind
  pub kind_known : known_kind r.kind ≡ true
  pub sixteen : length r.readings ≡ 16

-- the records that `old` has in the slots ss may go back over the n rows `base`
pub record Returnable (n kind : ℕ) (old base : List Record) (ss : List ℕ) : Type 0 where
  -- base is a well-formed table of this kind
  pub length_is : length base ≡ n
  pub small : n ≤ most_records
  pub shaped : Shaped n (at base)
  pub well_formed : WellFormed n (at base)
  pub base_kind : (a : ℕ) → a < n → Used (at base a) → (at base a).kind ≡ kind
  -- each that waits waits once, in a slot that is free
  pub distinct : Distinct ss
  pub slot_within : (s : ℕ) → s ∈ ss → s < n
  pub slot_free : (s : ℕ) → s ∈ ss → (at base s).card ≡ 0
  -- it brings what a newcomer brings, and a card of its own
  pub brings : (s : ℕ) → s ∈ ss → Brings kind (at old s)
  pub cards : (s a : ℕ) → s ∈ ss → a ∈ ss → (at old s).card ≡ (at old a).card → s ≡ a
  pub card_new : (s a : ℕ) → s ∈ ss → a < n → (at base a).card ≡ (at old s).card → ⊥

-- ---- one goes back

module _ {n kind arity s : ℕ} {old rows : List Record} {ss : List ℕ} (to_8 : arity ≤ most_children)
    (r : Returnable n kind old rows (s ∷ ss)) where
  pub returnable_ready : Ready n arity s (brought (at old s)) rows
  returnable_ready =
      let b = r.brings s (first refl) in
      record {
        length_is = r.length_is;
        small = r.small;
        shaped = r.shaped;
        well_formed = r.well_formed;
        slot_within = r.slot_within s (first refl);
        slot_free = r.slot_free s (first refl);
        card_some = b.card_some;
        card_new = λ a h e. r.card_new s a (first refl) h e;
        kind_known = b.kind_known;
        kind_same = λ a h u. r.base_kind a h u ∙ sym b.kind_is;
        sixteen = b.sixteen;
        arity_to_8 = to_8;
      }

  module _ (d : List ℕ → List ℕ → ℕ) where
    abbrev next : List Record
    next = (placed d arity s (brought (at old s)) rows).rows

    new : Settled n s (largest_timestamp n (at rows) + 1) (brought (at old s)) (at rows) (at next)
    new = placed_settled d returnable_ready

    -- one that still waits is not the one that went back
    other : (a : ℕ) → a ∈ ss → a ≡ s → ⊥
    other a i e = r.distinct.0 (rw e at i)

    pub returnable_next : Returnable n kind old (placed d arity s (brought (at old s)) rows).rows ss
    returnable_next =
        record {
          length_is = placed_length d returnable_ready;
          small = r.small;
          shaped = new.shaped;
          well_formed = new.well_formed;
          base_kind = λ a h u. settled_kinds returnable_ready new a h u ∙ (r.brings s (first refl)).kind_is;
          distinct = r.distinct.1;
          slot_within = λ a i. r.slot_within a (later i);
          slot_free = λ a i. (new.kept a (other a i)).card ∙ r.slot_free a (later i);
          brings = λ a i. r.brings a (later i);
          cards = λ a b i j e. r.cards a b (later i) (later j) e;
          card_new = λ b a i h e. elim (ℕ_discrete a s) [
            | yes q ↦
                let here : (at next a).card ≡ (at old s).card = ap (λ (j : ℕ). (at next j).card) q ∙ new.card_new in
                other b i (r.cards b s (later i) (first refl) (sym e ∙ here))
            | no ne ↦ r.card_new b a (later i) h (sym (new.kept a ne).card ∙ e)
          ];
        }

    -- the newcomer is the youngest, and one more record is used
    pub returnable_largest :
        largest_timestamp n (at (placed d arity s (brought (at old s)) rows).rows)
        ≡ largest_timestamp n (at rows) + 1
    returnable_largest = settled_largest returnable_ready new refl

    pub returnable_used_in :
        used_in n (at (placed d arity s (brought (at old s)) rows).rows) ≡ suc (used_in n (at rows))
    returnable_used_in = settled_used_in returnable_ready new

  -- it keeps a sound table sound
  pub returnable_sound :
      SoundTable n (at rows) → SoundTable n (at (placed (apart kind) arity s (brought (at old s)) rows).rows)
  returnable_sound ok = rw (← (r.brings s (first refl)).kind_is) (placed_sound_table returnable_ready ok)

-- ---- where the waiting records stand elsewhere

pub returnable_same :
    {n kind : ℕ} {old base : List Record} {ss : List ℕ} (new : List Record)
    → ((s : ℕ) → s ∈ ss → at new s ≡ at old s)
    → Returnable n kind old base ss
    → Returnable n kind new base ss
returnable_same {old = old} {ss = ss} new same r =
    record {
      length_is = r.length_is;
      small = r.small;
      shaped = r.shaped;
      well_formed = r.well_formed;
      base_kind = r.base_kind;
      distinct = r.distinct;
      slot_within = r.slot_within;
      slot_free = r.slot_free;
      brings = λ s i. rw (same s i) (r.brings s i);
      cards = λ s a i j e. r.cards s a i j (sym (card s i) ∙ e ∙ card a j);
      card_new = λ s a i h e. r.card_new s a i h (e ∙ card s i);
    }
  where
    card : (s : ℕ) → s ∈ ss → (at new s).card ≡ (at old s).card
    card s i = ap (λ (q : Record). q.card) (same s i)
