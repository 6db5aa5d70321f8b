-- What a newcomer's placing leaves, as one statement (`Settled`) for both cases of the rule, and what follows from it
-- of the used slots, their number, the timestamps and the kinds. Assumes nothing.
use Rattle.std.specs.Prelude.{ℕ, suc, ◌+◌, ◌≤◌, ◌<◌, ◌≡◌, true, ◌⊎◌, List, length}
use Rattle.std.proofs.Common.{sym, ap, ◌∙◌, inl, inr, arith}
use Rattle.std.proofs.Math.Decide.{ℕ_discrete}
use Rattle.distance.specs.Kind.{known_kind}
use Rattle.table.specs.Record.{Record, Used}
use Rattle.refusals.specs.Limits.{most_records}
use Rattle.table.specs.Table.{at}
use Rattle.judge.specs.WellFormed.{WellFormed}
use Rattle.survey.specs.Survey.{used_in, largest_timestamp}
use Rattle.survey.specs.Laws.{largest_late, largest_is}
use Rattle.places.specs.Cases.{either}
use Rattle.tree.specs.View.Count.{used_count_more}
use Rattle.view.specs.View.{view_of}
use Rattle.view.specs.Shaped.{Shaped}
use Rattle.view.specs.Survey.{used_in_used_count}
use Rattle.newcomer.specs.Newcomer.{Newcomer}
use Rattle.newcomer.specs.Kept.{Kept}

-- a newcomer x may be put into slot s of these records, n in all
pub record Ready (n arity s : ℕ) (x : Newcomer) (rows : List Record) : Type 0 where
  pub length_is : length rows ≡ n
  pub small : n ≤ most_records
  pub shaped : Shaped n (at rows)
  pub well_formed : WellFormed n (at rows)
  -- the slot is free
  pub slot_within : s < n
  pub slot_free : (at rows s).card ≡ 0
  -- the card is a card, and not stored
  pub card_some : 1 ≤ x.card
  pub card_new : (a : ℕ) → a < n → (at rows a).card ≡ x.card → ⊥
  -- the kind is known, and in a used table the table's
  pub kind_known : known_kind x.kind ≡ true
  pub kind_same : (a : ℕ) → a < n → Used (at rows a) → (at rows a).kind ≡ x.kind
  pub sixteen : length x.readings ≡ 16
  pub arity_to_8 : arity ≤ 8

-- S is R with the newcomer x in slot s at timestamp t
pub record Settled (n s t : ℕ) (x : Newcomer) (R S : ℕ → Record) : Type 0 where
  pub shaped : Shaped n S
  pub well_formed : WellFormed n S
  pub card_new : (S s).card ≡ x.card
  pub timestamp_new : (S s).timestamp ≡ t
  pub kind_new : (S s).kind ≡ x.kind
  pub readings_new : (S s).readings ≡ x.readings
  -- every other record keeps its card, its timestamp, its parent, its kind and its signature
  pub kept : (a : ℕ) → (a ≡ s → ⊥) → Kept (R a) (S a)

-- ---- what follows

-- the slot is none of the used ones
pub not_new :
    {n arity s : ℕ} {x : Newcomer} {rows : List Record}
    → Ready n arity s x rows
    → (a : ℕ)
    → Used (at rows a)
    → a ≡ s
    → ⊥
not_new {rows = rows} ready a u e = omega (arith, ready.slot_free, ap (λ (i : ℕ). (at rows i).card) e)

module _ {n arity s t : ℕ} {x : Newcomer} {rows : List Record} {S : ℕ → Record}
    (ready : Ready n arity s x rows) (new : Settled n s t x (at rows) S) where
  pub settled_new_used : Used (S s)
  settled_new_used = rw new.card_new ready.card_some

  pub settled_cases : (a : ℕ) → Used (S a) → (a ≡ s) ⊎ ((a ≡ s → ⊥) × Used (at rows a))
  settled_cases a u =
      elim (ℕ_discrete a s) [ yes e ↦ inl e | no ne ↦ inr (ne, rw (new.kept a ne).card at u) ]

  pub settled_used_in : used_in n S ≡ suc (used_in n (at rows))
  settled_used_in =
      sym (used_in_used_count n S)
      ∙ used_count_more
      (view_of (at rows))
      (view_of S)
      n
      s
      ready.slot_within
      ready.slot_free
      settled_new_used
      (λ a ne. (new.kept a ne).card)
      ∙ ap suc (used_in_used_count n (at rows))

  -- every used record is of the newcomer's kind
  pub settled_kinds : (a : ℕ) → a < n → Used (S a) → (S a).kind ≡ x.kind
  settled_kinds a b u =
      either
      (settled_cases a u)
      (λ e. ap (λ (i : ℕ). (S i).kind) e ∙ new.kind_new)
      (λ z. (new.kept a z.0).kind ∙ ready.kind_same a b z.1)

  -- the newcomer is the youngest
  pub settled_largest : t ≡ largest_timestamp n (at rows) + 1 → largest_timestamp n S ≡ t
  settled_largest e =
      largest_is
      S
      n
      s
      t
      ready.slot_within
      settled_new_used
      new.timestamp_new
      (λ a b u.
      either
      (settled_cases a u)
      (λ q. omega (arith, ap (λ (i : ℕ). (S i).timestamp) q, new.timestamp_new))
      (λ z. omega (arith, (new.kept a z.0).timestamp, largest_late n (at rows) a b z.1)))
