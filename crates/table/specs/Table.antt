-- "The table is a row of records; slot numbers start at 0."
use Rattle.std.specs.Prelude.{ℕ, ◌/◌, ◌%◌, Bool, ◌&&◌, List, [], ◌∷◌, ◌++◌, leb, eqb, get_or, length, replicate}
use Rattle.places.specs.Row.{row_to}
use Rattle.number.specs.Number.{digits}
use Rattle.table.specs.Record.{Record, free, record_length, largest_table, place_of, record_of}

-- ---- size

-- "The table's length is a multiple of 64 from 64 to 65,536"
unfoldable pub right_size : ℕ → Bool
right_size n = (leb record_length n && leb n largest_table) && eqb (n % record_length) 0

-- how many records the bytes hold
abbrev pub records_in : List ℕ → ℕ
records_in l = length l / record_length

-- the bytes of n free records
unfoldable pub free_table : ℕ → List ℕ
free_table n = replicate (place_of n) 0

-- ---- bytes and records

-- the records that the bytes hold
unfoldable pub records_of : List ℕ → List Record
records_of l = row_to (records_in l) (record_of l)

-- the record in slot s; past the end, a free one
abbrev pub at : List Record → ℕ → Record
at rows s = get_or rows s free

-- low bytes first, number after number
abbrev pub numbers : ℕ → List ℕ → List ℕ
numbers n [] = []
numbers n (v ∷ vs) = digits n v ++ numbers n vs

-- the 64 bytes of a record
unfoldable pub bytes_of_record : Record → List ℕ
bytes_of_record r =
    numbers 4 (r.card ∷ r.timestamp ∷ r.radius ∷ [])
    ++ numbers 2 (r.parent ∷ [])
    ++ numbers 1 (r.count ∷ r.kind ∷ [])
    ++ numbers 2 r.slots
    ++ numbers 2 r.readings

-- the bytes of a row of records
unfoldable pub bytes_of : List Record → List ℕ
bytes_of [] = []
bytes_of (r ∷ rs) = bytes_of_record r ++ bytes_of rs
