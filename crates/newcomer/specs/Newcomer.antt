-- A newcomer: what a card brings, and what it changes in one record, in the paper's words and in the steps in which the
-- newcomer's own record is written.
use Rattle.std.specs.Prelude.{ℕ, ◌+◌, max, ◌≡◌, List, set, replicate}
use Rattle.std.proofs.Common.{ap}
use Rattle.refusals.specs.Limits.{most_children}
use Rattle.table.specs.Record.{Record, no_slot}
use Rattle.writing.specs.Put.{parts, with_slots}

-- ---- what a card brings

-- what a card brings: its number, its kind and its signature
pub record Newcomer : Type 0 where
  pub card : ℕ
  pub kind : ℕ
  pub readings : List ℕ

-- a card with its kind and signature
abbrev pub newcomer : ℕ → ℕ → List ℕ → Newcomer
newcomer card kind readings = record { card = card; kind = kind; readings = readings }

-- what a record's insert brought
abbrev pub brought : Record → Newcomer
brought r = record { card = r.card; kind = r.kind; readings = r.readings }

pub brought_is :
    (r : Record) (x : Newcomer) → r.card ≡ x.card → r.kind ≡ x.kind → r.readings ≡ x.readings → brought r ≡ x
brought_is r x c k l i = record { card = c i; kind = k i; readings = l i }

pub brought_card : (r : Record) (x : Newcomer) → brought r ≡ x → r.card ≡ x.card
brought_card r x e = ap (λ (y : Newcomer). y.card) e

-- ---- a record on the way

-- 1. "a's covering radius becomes the larger of itself and the distance from a to x"
unfoldable pub raised : ℕ → Record → Record
raised dist r =
    record {
      card = r.card;
      timestamp = r.timestamp;
      radius = max r.radius dist;
      parent = r.parent;
      count = r.count;
      kind = r.kind;
      slots = r.slots;
      readings = r.readings;
    }

-- 3. "x becomes a's last child": slot s stands after the children that r has
unfoldable pub adopting : ℕ → Record → Record
adopting s r =
    record {
      card = r.card;
      timestamp = r.timestamp;
      radius = r.radius;
      parent = r.parent;
      count = r.count + 1;
      kind = r.kind;
      slots = set r.slots r.count s;
      readings = r.readings;
    }

-- ---- the newcomer's own record

-- "with radius 0 and no child": the newcomer's record with timestamp t, below slot p
unfoldable pub fresh : Newcomer → ℕ → ℕ → Record
fresh x t p =
    record {
      card = x.card;
      timestamp = t;
      radius = 0;
      parent = p;
      count = 0;
      kind = x.kind;
      slots = replicate most_children no_slot;
      readings = x.readings;
    }

-- the record with a card's number, kind and signature written into it
abbrev pub named : ℕ → ℕ → List ℕ → Record → Record
named card kind readings r = parts card r.timestamp r.radius r.parent r.count kind r.slots readings

-- the record with 65,535 in every child slot
abbrev pub slotless : Record → Record
slotless r = with_slots r (replicate most_children no_slot)
