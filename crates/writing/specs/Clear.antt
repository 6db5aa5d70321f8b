-- Clear: "Clear zeroes the table", and refusal 1, SIZE, leaves it as it was. Assumes nothing.
use Rattle.std.specs.Prelude.{ℕ, ◌≡◌, true, false, List, length, replicate}
use Rattle.places.specs.Choice.{pick}
use Rattle.refusals.specs.Refusal.{done, SIZE}
use Rattle.table.specs.Table.{right_size}

-- what a clear leaves: its refusal number, 0 if done, and the table's bytes
pub record Cleared : Type 0 where
  pub refusal : ℕ
  pub table : List ℕ

abbrev pub cleared : ℕ → List ℕ → Cleared
cleared n l = record { refusal = n; table = l }

unfoldable pub clear_of : List ℕ → Cleared
clear_of l = pick (right_size (length l)) (cleared done (replicate (length l) 0)) (cleared SIZE l)

pub clear_done : (l : List ℕ) → right_size (length l) ≡ true → clear_of l ≡ cleared done (replicate (length l) 0)
unfolding clear_of
clear_done l e = rw e

pub clear_refused : (l : List ℕ) → right_size (length l) ≡ false → clear_of l ≡ cleared SIZE l
unfolding clear_of
clear_refused l e = rw e
