-- Slots of a table in lent bytes that hold a card, and that a look at the table may follow. Assumes nothing.
use Rattle.std.specs.Prelude.{ℕ, ◌≤◌, ◌<◌, ◌≡◌, List, Option, Some, None, IfSome}
use Rattle.std.specs.Option.{ForSome}
use Rattle.std.proofs.Common.{sym, arith}
use Rattle.std.proofs.lemmas.Option.{none-some, same_Some}
use Rattle.refusals.specs.Limits.{most_children}
use Rattle.table.specs.Record.{Used, slot, no_slot, slot_told, record_of}
use Rattle.table.specs.Table.{records_in}
use Rattle.table.specs.Stands.{Stands, stands_in}
use Rattle.judge.specs.WellFormed.{WellFormed}

-- the bytes l hold a well-formed table
abbrev pub FormedTable : List ℕ → Type 0
FormedTable l = WellFormed (records_in l) (record_of l)

-- slot s holds a card
abbrev pub HoldsCard : List ℕ → ℕ → Type 0
HoldsCard l s = (s < records_in l) × Used (record_of l s)

-- s is the slot of a card, or no slot
abbrev pub CardOrNone : List ℕ → ℕ → Type 0
CardOrNone l s = (s ≡ no_slot → ⊥) → HoldsCard l s

-- the same of a parent that was read: the slot of a card, if there is one
abbrev pub CardIfAny : List ℕ → Option ℕ → Type 0
CardIfAny l o = ForSome o (λ s. HoldsCard l s × (s < no_slot))

-- a slot that holds a card stands in the bytes
pub card_stands : (l : List ℕ) (s : ℕ) → HoldsCard l s → Stands l s
card_stands l s h = stands_in l s h.0

-- a record's parent holds a card, or it has none
pub parent_card : (l : List ℕ) (s : ℕ) → FormedTable l → HoldsCard l s → CardOrNone l (record_of l s).parent
parent_card l s wf h ne = let p = wf.hung s h.0 h.1 ne in (p.parent_in, p.parent_used)

pub parent_if_any :
    (l : List ℕ) (s : ℕ) (o : Option ℕ)
    → FormedTable l
    → HoldsCard l s
    → (slot_told o ≡ (record_of l s).parent) × IfSome o (λ p. p < no_slot)
    → CardIfAny l o
parent_if_any l s None wf h told p e = absurd (none-some p e)
parent_if_any l s (Some q) wf h told p e =
    let same : q ≡ p = same_Some q p e in
    rw (← same)
    (rw (sym told.0) at (parent_card l s wf h (λ z. omega (arith, z, told.0, told.1))), told.1)

-- a record in use has at most eight children
pub count_most : (l : List ℕ) (s : ℕ) → FormedTable l → HoldsCard l s → (record_of l s).count ≤ most_children
count_most l s wf h = (wf.filled s h.0 h.1).count_to_8

-- and each of them holds a card
pub child_card :
    (l : List ℕ) (s i : ℕ)
    → FormedTable l
    → HoldsCard l s
    → i < (record_of l s).count
    → HoldsCard l (slot (record_of l s) i)
child_card l s i wf h b = let o = wf.owned s i h.0 h.1 b in (o.child_in, o.child_used)
