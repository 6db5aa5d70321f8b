-- A table that a call may read. Assumes nothing.
use Rattle.std.specs.Prelude.{ℕ, ◌≡◌, true, List, length}
use Rattle.table.specs.Record.{record_of}
use Rattle.table.specs.Table.{right_size, records_in}
use Rattle.judge.specs.WellFormed.{well_formed}

-- the bytes of a table of the right size that is well formed
pub record Readable (l : List ℕ) : Type 0 where
  pub size : right_size (length l) ≡ true
  pub formed : well_formed (records_in l) (record_of l) ≡ true
