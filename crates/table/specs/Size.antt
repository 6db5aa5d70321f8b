-- The right size: the paper's examples, and a table of the right size in rows. Assumes nothing.
use Rattle.std.specs.Prelude.{ℕ, ◌≡◌, refl, true, false, List, length}
use Rattle.table.specs.Record.{record_of}
use Rattle.table.specs.Table.{right_size, records_of, at}
use Rattle.table.specs.Stands.{right_whole}
use Rattle.table.specs.Records.{records_at}

-- "Lengths 0, 63 and 65,600 give 1"
pub refused_sizes : (right_size 0 ≡ false) × (right_size 63 ≡ false) × (right_size 65600 ≡ false)
unfolding right_size
refused_sizes = (refl, refl, refl)

-- "64 and 65,536 don't"
pub right_sizes : (right_size 64 ≡ true) × (right_size 65536 ≡ true)
unfolding right_size
right_sizes = (refl, refl)

-- the rows of a table of the right size are its bytes' records, in every slot
pub rows_are : (l : List ℕ) → right_size (length l) ≡ true → at (records_of l) ≡ record_of l
rows_are l right i s = records_at l (right_whole l right) s i
