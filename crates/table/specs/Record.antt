-- "The record, 64 bytes, no header": its fields, and where each stands. Other files take the places from here.
use Rattle.std.specs.Prelude.{ℕ, ◌+◌, ◌*◌, ◌≤◌, List, Bool, Option, None, Some, leb, get_or, take, replicate}
use Rattle.places.specs.Row.{row_to}
use Rattle.number.specs.Number.{number_at}
use Rattle.distance.specs.Signature.{readings_at}
use Rattle.refusals.specs.Limits.{most_children}

-- ---- what a record holds

pub record Record : Type 0 where
  pub card : ℕ
  pub timestamp : ℕ
  pub radius : ℕ
  pub parent : ℕ
  pub count : ℕ
  pub kind : ℕ
  pub slots : List ℕ
  pub readings : List ℕ

-- "65,535 for the root", and past the count of children
abbrev pub no_slot : ℕ
no_slot = 65535

-- a parent's slot as a record's bytes tell it: the slot, or 65,535 where there is none
abbrev pub slot_told : Option ℕ → ℕ
slot_told None = no_slot
slot_told (Some p) = p

-- "A free record is 64 zero bytes"
abbrev pub free : Record
free =
    record {
      card = 0;
      timestamp = 0;
      radius = 0;
      parent = 0;
      count = 0;
      kind = 0;
      slots = replicate most_children 0;
      readings = replicate 16 0;
    }

-- a record is used if it has a card
abbrev pub Used : Record → Type 0
Used r = 1 ≤ r.card

abbrev pub used : Record → Bool
used r = leb 1 r.card

-- child slot i, counted from 0
abbrev pub slot : Record → ℕ → ℕ
slot r i = get_or r.slots i 0

-- the child slots within the count, oldest child first
abbrev pub children : Record → List ℕ
children r = take r.count r.slots

-- ---- where its fields stand

-- the length of a record, and of the largest table, of 1,024 records
abbrev pub record_length : ℕ
record_length = 64

abbrev pub largest_table : ℕ
largest_table = 65536

-- where the fields of the record that starts at b start; the card starts it, in bytes 0 to 3

-- bytes 4 to 7
abbrev pub timestamp_at : ℕ → ℕ
timestamp_at b = b + 4

-- bytes 8 to 11
abbrev pub radius_at : ℕ → ℕ
radius_at b = b + 8

-- bytes 12 and 13
abbrev pub parent_at : ℕ → ℕ
parent_at b = b + 12

-- byte 14
abbrev pub count_at : ℕ → ℕ
count_at b = b + 14

-- byte 15
abbrev pub kind_at : ℕ → ℕ
kind_at b = b + 15

-- bytes 16 to 31, two for each child slot
abbrev pub slots_at : ℕ → ℕ
slots_at b = b + 16

-- bytes 32 to 63
abbrev pub signature_at : ℕ → ℕ
signature_at b = b + 32

-- ---- reading it

abbrev pub slots_in : List ℕ → ℕ → List ℕ
slots_in l b = row_to most_children (λ i. number_at 2 l (slots_at b + 2 * i))

-- the record whose first byte is byte b of l
unfoldable pub record_at : List ℕ → ℕ → Record
record_at l b =
    record {
      card = number_at 4 l b;
      timestamp = number_at 4 l (timestamp_at b);
      radius = number_at 4 l (radius_at b);
      parent = number_at 2 l (parent_at b);
      count = get_or l (count_at b) 0;
      kind = get_or l (kind_at b) 0;
      slots = slots_in l b;
      readings = readings_at l (signature_at b);
    }

-- ---- records one after another

-- where the record in slot s starts
abbrev pub place_of : ℕ → ℕ
place_of s = s * record_length

-- the record in slot s of the bytes l
unfoldable pub record_of : List ℕ → ℕ → Record
record_of l s = record_at l (place_of s)
