-- A field of the record in slot s written anew: in the bytes (putX), and in the record (withX). The laws stand in Laws.
use Rattle.std.specs.Prelude.{ℕ, zero, suc, ◌+◌, ◌*◌, List, get_or, set}
use Rattle.number.specs.Number.{with_number}
use Rattle.table.specs.Record.{
  Record,
  record_length,
  timestamp_at,
  radius_at,
  parent_at,
  count_at,
  kind_at,
  slots_at,
  signature_at,
  place_of,
}

-- ---- in the bytes

unfoldable pub put_card : List ℕ → ℕ → ℕ → List ℕ
put_card l s v = with_number 4 l (place_of s) v

unfoldable pub put_timestamp : List ℕ → ℕ → ℕ → List ℕ
put_timestamp l s v = with_number 4 l (timestamp_at (place_of s)) v

unfoldable pub put_radius : List ℕ → ℕ → ℕ → List ℕ
put_radius l s v = with_number 4 l (radius_at (place_of s)) v

unfoldable pub put_parent : List ℕ → ℕ → ℕ → List ℕ
put_parent l s v = with_number 2 l (parent_at (place_of s)) v

unfoldable pub put_count : List ℕ → ℕ → ℕ → List ℕ
put_count l s v = set l (count_at (place_of s)) v

unfoldable pub put_kind : List ℕ → ℕ → ℕ → List ℕ
put_kind l s v = set l (kind_at (place_of s)) v

-- child slot i
unfoldable pub put_slot : List ℕ → ℕ → ℕ → ℕ → List ℕ
put_slot l s i v = with_number 2 l (slots_at (place_of s) + 2 * i) v

-- the first n of the readings vs, two bytes each from `at` on
unfoldable pub put_readings : ℕ → List ℕ → ℕ → List ℕ → List ℕ
put_readings zero l at vs = l
put_readings (suc n) l at vs = with_number 2 (put_readings n l at vs) (at + 2 * n) (get_or vs n 0)

unfoldable pub put_signature : List ℕ → ℕ → List ℕ → List ℕ
put_signature l s vs = put_readings 16 l (signature_at (place_of s)) vs

-- the first n bytes from `at` on made zero
unfoldable pub zeroed : ℕ → List ℕ → ℕ → List ℕ
zeroed zero l at = l
zeroed (suc n) l at = set (zeroed n l at) (at + n) 0

-- the record made free
unfoldable pub freed : List ℕ → ℕ → List ℕ
freed l s = zeroed record_length l (place_of s)

-- ---- in the record

-- a record of these parts
abbrev pub parts : ℕ → ℕ → ℕ → ℕ → ℕ → ℕ → List ℕ → List ℕ → Record
parts c t r p n k ss rs =
    record {
      card = c;
      timestamp = t;
      radius = r;
      parent = p;
      count = n;
      kind = k;
      slots = ss;
      readings = rs;
    }

abbrev pub with_card : Record → ℕ → Record
with_card r v = parts v r.timestamp r.radius r.parent r.count r.kind r.slots r.readings

abbrev pub with_timestamp : Record → ℕ → Record
with_timestamp r v = parts r.card v r.radius r.parent r.count r.kind r.slots r.readings

abbrev pub with_radius : Record → ℕ → Record
with_radius r v = parts r.card r.timestamp v r.parent r.count r.kind r.slots r.readings

abbrev pub with_parent : Record → ℕ → Record
with_parent r v = parts r.card r.timestamp r.radius v r.count r.kind r.slots r.readings

abbrev pub with_count : Record → ℕ → Record
with_count r v = parts r.card r.timestamp r.radius r.parent v r.kind r.slots r.readings

abbrev pub with_kind : Record → ℕ → Record
with_kind r v = parts r.card r.timestamp r.radius r.parent r.count v r.slots r.readings

abbrev pub with_slots : Record → List ℕ → Record
with_slots r ss = parts r.card r.timestamp r.radius r.parent r.count r.kind ss r.readings

-- child slot i
abbrev pub with_slot : Record → ℕ → ℕ → Record
with_slot r i v = with_slots r (set r.slots i v)

abbrev pub with_readings : Record → List ℕ → Record
with_readings r vs = parts r.card r.timestamp r.radius r.parent r.count r.kind r.slots vs
