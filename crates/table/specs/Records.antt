-- The records that a table's bytes hold: how many, which stands where, and two tables of the same records.
-- Assumes nothing.
use Rattle.std.specs.Prelude.{ℕ, ◌/◌, ◌%◌, ◌<◌, ◌≡◌, List, length}
use Rattle.std.proofs.Common.{ap, sym, ◌∙◌, ext_get_or}
use Rattle.places.specs.Row.{row_at, row_past, row_length}
use Rattle.number.specs.Frame.{Bytes}
use Rattle.table.specs.Record.{Record, free, record_length, place_of, record_of}
use Rattle.table.specs.Table.{records_of, records_in, at}
use Rattle.places.specs.Cases.{below_or}
use Rattle.table.specs.Place.{byte_place, byte_below}
use Rattle.table.specs.Stands.{WholeRecords, whole_same}
use Rattle.table.specs.Fields.{alike_record}
use Rattle.table.specs.Same.{past_whole}

pub records_length : (l : List ℕ) → length (records_of l) ≡ records_in l
unfolding records_of
records_length l = row_length (records_in l) (record_of l)

-- a slot of the table holds its record
pub records_in_lem : (l : List ℕ) (s : ℕ) → s < records_in l → at (records_of l) s ≡ record_of l s
unfolding records_of
records_in_lem l s h = row_at (records_in l) (record_of l) free s h

-- and so does every slot of a table of whole records, since past the end all is free
pub records_at : (l : List ℕ) → WholeRecords l → (s : ℕ) → at (records_of l) s ≡ record_of l s
unfolding records_of
records_at l whole s =
    below_or
    s
    (records_in l)
    (records_in_lem l s)
    (λ h. row_past (records_in l) (record_of l) free s h ∙ sym (past_whole l s whole h))

-- two tables of bytes of one length with the same records are one
pub bytes_same :
    (m l : List ℕ)
    → Bytes m
    → Bytes l
    → length m ≡ length l
    → WholeRecords l
    → records_of m ≡ records_of l
    → m ≡ l
unfolding record_of
bytes_same m l hm hl e whole same =
    ext_get_or
    0
    m
    l
    e
    (λ i p.
    let s = i / record_length in
    let one : record_of m s ≡ record_of l s =
    sym (records_at m (whole_same l m e whole) s)
    ∙ ap (λ (rows : List Record). at rows s) same
    ∙ records_at l whole s in
    rw (byte_place i) at (alike_record m (place_of s) l (place_of s) hm hl one (i % record_length) (byte_below i)))
