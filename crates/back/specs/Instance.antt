-- Two ways to rows over which slots may go back: some slots of a well-formed table wait, and the rows hold only what
-- the table held elsewhere (`parted_returnable`: a deletion, or several); or all its cards wait, and the rows are free
-- (`emptied_returnable`: the table is built afresh). Assumes nothing.
use Rattle.std.specs.Prelude.{ℕ, ◌≤◌, ◌<◌, ◌≡◌, List, length}
use Rattle.std.proofs.Common.{sym, ap, ◌∙◌, arith}
use Rattle.refusals.specs.Limits.{most_records}
use Rattle.table.specs.Record.{Record, Used, free}
use Rattle.table.specs.Table.{at}
use Rattle.judge.specs.WellFormed.{WellFormed}
use Rattle.survey.specs.Survey.{kind_of}
use Rattle.tree.specs.Slots.{◌∈◌, Distinct}
use Rattle.view.specs.Shaped.{Shaped}
use Rattle.view.specs.Survey.{kind_of_is}
use Rattle.view.specs.Formed.{used_within, free_formed}
use Rattle.newcomer.specs.Newcomer.{Newcomer, brought}
use Rattle.back.specs.Returnable.{Brings, Returnable}

-- the slots ss of the well-formed table `old` wait, and base holds only what `old` held in the same slots
pub record Parted (n : ℕ) (old base : List Record) (ss : List ℕ) : Type 0 where
  pub small : n ≤ most_records
  pub old_shaped : Shaped n (at old)
  pub old_formed : WellFormed n (at old)
  pub length_is : length base ≡ n
  pub shaped : Shaped n (at base)
  pub well_formed : WellFormed n (at base)
  pub distinct : Distinct ss
  pub waits : (s : ℕ) → s ∈ ss → Used (at old s) × ((at base s).card ≡ 0)
  pub stays : (a : ℕ) → Used (at base a) → brought (at base a) ≡ brought (at old a)

module _ {n : ℕ} {old base : List Record} {ss : List ℕ} (p : Parted n old base ss) where
  within : (s : ℕ) → s ∈ ss → s < n
  within s i = used_within p.old_shaped s (p.waits s i).0

  card_is : (a : ℕ) → Used (at base a) → (at base a).card ≡ (at old a).card
  card_is a u = ap (λ (x : Newcomer). x.card) (p.stays a u)

  was_used : (a : ℕ) → Used (at base a) → Used (at old a)
  was_used a u = rw (card_is a u) at u

  of_kind : (a : ℕ) → a < n → Used (at old a) → (at old a).kind ≡ kind_of n (at old)
  of_kind a h u = sym (kind_of_is n (at old) p.old_formed a h u)

  brings_its : (s : ℕ) → s ∈ ss → Brings (kind_of n (at old)) (at old s)
  brings_its s i =
      let u = (p.waits s i).0 in
      record {
        card_some = u;
        kind_is = of_kind s (within s i) u;
        kind_known = (p.old_formed.filled s (within s i) u).kind_known;
        sixteen = p.old_shaped.sixteen s;
      }

  pub parted_returnable : Returnable n (kind_of n (at old)) old base ss
  parted_returnable =
      record {
        length_is = p.length_is;
        small = p.small;
        shaped = p.shaped;
        well_formed = p.well_formed;
        base_kind = λ a h u. ap (λ (x : Newcomer). x.kind) (p.stays a u) ∙ of_kind a h (was_used a u);
        distinct = p.distinct;
        slot_within = within;
        slot_free = λ s i. (p.waits s i).1;
        brings = brings_its;
        cards = λ s a i j e. p.old_formed.cards s a (within s i) (within a j) (p.waits s i).0 (p.waits a j).0 e;
        card_new = λ s a i h e.
            let us = (p.waits s i).0 in
            let u : Used (at base a) = rw e us in
            let same : a ≡ s =
            p.old_formed.cards a s h (within s i) (was_used a u) us (sym (card_is a u) ∙ e) in
            omega (arith, (p.waits s i).1, u, ap (λ (j : ℕ). (at base j).card) same);
      }

-- all cards of a well-formed table wait, and the rows are free
pub emptied_returnable :
    {n : ℕ} {old base : List Record} {ss : List ℕ}
    → n ≤ most_records
    → Shaped n (at old)
    → WellFormed n (at old)
    → length base ≡ n
    → ((a : ℕ) → at base a ≡ free)
    → Distinct ss
    → ((s : ℕ) → s ∈ ss → Used (at old s))
    → Returnable n (kind_of n (at old)) old base ss
emptied_returnable {base = base} small shape wf long empty distinct waits =
    parted_returnable
    (record {
      small = small;
      old_shaped = shape;
      old_formed = wf;
      length_is = long;
      shaped =
          record {
            eight = λ a. ap (λ (r : Record). length r.slots) (empty a);
            sixteen = λ a. ap (λ (r : Record). length r.readings) (empty a);
            past = λ a _. empty a;
          };
      well_formed = free_formed (λ a _. empty a);
      distinct = distinct;
      waits = λ s i. (waits s i, no_card s);
      stays = λ a u. absurd (omega (arith, u, no_card a));
    })
  where
    no_card : (a : ℕ) → (at base a).card ≡ 0
    no_card a = ap (λ (r : Record). r.card) (empty a)
