-- One number for a record that waits and for a card that is held: what decides first, what decides among equals, and
-- the slot, which decides nothing and is there to be read back.
use Rattle.std.specs.Prelude.{ℕ, ◌+◌, ◌*◌, ◌/◌, ◌%◌}
pub mod Laws

-- the source's FIRST and SECOND: 22 bits, 32 bits and 10 bits, for a distance, a card or a timestamp, and a slot
abbrev pub first_span : ℕ
first_span = 4398046511104

abbrev pub second_span : ℕ
second_span = 1024

abbrev pub key : ℕ → ℕ → ℕ → ℕ
key x y s = x * first_span + y * second_span + s

-- what stands in a key
abbrev pub first_in : ℕ → ℕ
first_in key = key / first_span

abbrev pub second_in : ℕ → ℕ
second_in key = key / second_span % 4294967296

abbrev pub slot_in : ℕ → ℕ
slot_in key = key % second_span
