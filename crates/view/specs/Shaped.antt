-- A table's shape: eight child slots and sixteen readings in each record, and free records past its n slots. A table of
-- bytes has it, and so has a row of such records. Assumes nothing.
use Rattle.std.specs.Prelude.{ℕ, ◌≤◌, ◌≡◌, List, length}
use Rattle.refusals.specs.Limits.{most_children}
use Rattle.table.specs.Record.{Record, free, record_of}
use Rattle.table.specs.Stands.{AreRecords}
use Rattle.table.specs.Same.{slots_length, readings_length_of, past_are}

pub record Shaped (n : ℕ) (R : ℕ → Record) : Type 0 where
  pub eight : (s : ℕ) → length (R s).slots ≡ most_children
  pub sixteen : (s : ℕ) → length (R s).readings ≡ 16
  pub past : (s : ℕ) → n ≤ s → R s ≡ free

-- the records that the bytes of n of them hold
pub shaped_bytes : (n : ℕ) (l : List ℕ) → AreRecords l n → Shaped n (record_of l)
shaped_bytes n l e =
    record { eight = slots_length l; sixteen = readings_length_of l; past = λ s h. past_are l n s e h }
