-- What is known of the record in slot s of any bytes, without where it stands: callers use these laws and not the text
-- of `record_of`. Assumes nothing.
use Rattle.std.specs.Prelude.{ℕ, ◌+◌, ◌*◌, ◌≤◌, ◌<◌, ◌≡◌, List, ◌++◌, length, replicate}
use Rattle.std.proofs.Common.{arith}
use Rattle.std.proofs.Math.ListN.{get_or-eq_default}
use Rattle.places.specs.Fill.{zeros_at, zeros_behind}
use Rattle.number.specs.Number.{number_at}
use Rattle.number.specs.Frame.{Bytes}
use Rattle.refusals.specs.Limits.{most_children}
use Rattle.table.specs.Record.{free, slot, slots_at, place_of, record_of}
use Rattle.table.specs.Table.{records_in, free_table}
use Rattle.table.specs.Stands.{WholeRecords, AreRecords, are_whole, are_in, past_place}
use Rattle.table.specs.Fields.{slot_in, slots_eight, readings_sixteen, record_alike}
use Rattle.table.specs.Fields.{zeros_free, ZeroWords, words_free, free_words}

-- ---- its rows

-- child slot i stands in two bytes of its own
pub slot_at :
    (l : List ℕ) (s i : ℕ)
    → i < most_children
    → slot (record_of l s) i ≡ number_at 2 l (slots_at (place_of s) + 2 * i)
unfolding record_of
slot_at l s i h = slot_in l (place_of s) i h

-- there are eight
pub slots_length : (l : List ℕ) (s : ℕ) → length (record_of l s).slots ≡ most_children
unfolding record_of
slots_length l s = slots_eight l (place_of s)

-- and sixteen readings
pub readings_length_of : (l : List ℕ) (s : ℕ) → length (record_of l s).readings ≡ 16
unfolding record_of
readings_length_of l s = readings_sixteen l (place_of s)

-- ---- free records

-- what stands past the end is free
pub past_free : (l : List ℕ) (s : ℕ) → length l ≤ place_of s → record_of l s ≡ free
unfolding record_of
past_free l s h = zeros_free l (place_of s) (λ j p. get_or-eq_default l 0 (omega arith))

-- so are all records but the n that a table has
pub past_whole : (l : List ℕ) (s : ℕ) → WholeRecords l → records_in l ≤ s → record_of l s ≡ free
past_whole l s w h = past_free l s (past_place l s w h)

pub past_are : (l : List ℕ) (n s : ℕ) → AreRecords l n → n ≤ s → record_of l s ≡ free
past_are l n s e h = past_whole l s (are_whole l n e) (omega (arith, are_in l n e))

-- in bytes that are all zero every record is
pub all_free : (n s : ℕ) → record_of (replicate n 0) s ≡ free
unfolding record_of
all_free n s = zeros_free (replicate n 0) (place_of s) (λ j p. zeros_at n (place_of s + j))

pub free_table_lem : (n s : ℕ) → record_of (free_table n) s ≡ free
unfolding free_table
free_table_lem n s = all_free (place_of n) s

pub free_bytes : (n : ℕ) → Bytes (free_table n)
unfolding free_table
free_bytes n i = omega (arith, zeros_at (place_of n) i)

-- free records behind a table change none of its records
pub free_behind : (l : List ℕ) (k s : ℕ) → record_of (l ++ free_table k) s ≡ record_of l s
unfolding record_of free_table
free_behind l k s =
    record_alike (l ++ replicate (place_of k) 0) (place_of s) l (place_of s)
    (λ j p. zeros_behind l (place_of k) (place_of s + j))

pub behind_bytes : (l : List ℕ) (k : ℕ) → Bytes l → Bytes (l ++ free_table k)
unfolding free_table
behind_bytes l k h i = rw (zeros_behind l (place_of k) i) (h i)

-- ---- a test for a free record

-- the record in slot s is free exactly if its eight words are zero
pub zero_words_free : (l : List ℕ) (s : ℕ) → Bytes l → ZeroWords l (place_of s) 8 → record_of l s ≡ free
unfolding record_of
zero_words_free l s = words_free l (place_of s)

pub free_zero_words : (l : List ℕ) (s : ℕ) → Bytes l → record_of l s ≡ free → ZeroWords l (place_of s) 8
unfolding record_of
free_zero_words l s = free_words l (place_of s)
