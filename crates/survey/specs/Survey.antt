-- The small questions that the calls ask of a table of n records, of which R s stands in slot s.
use Rattle.std.specs.Prelude.{ℕ, zero, suc, max, Bool, ◌&&◌, not, eqb}
use Rattle.places.specs.Choice.{pick}
use Rattle.places.specs.Test.{count_to}
use Rattle.table.specs.Record.{Record, used, no_slot}

-- the first place from s on, of k, that passes; s + k if none does
unfoldable pub first_from : (ℕ → Bool) → ℕ → ℕ → ℕ
first_from p s zero = s
first_from p s (suc k) = pick (p s) s (first_from p (suc s) k)

module _ (n : ℕ) (R : ℕ → Record) where
  -- how many records are used
  unfoldable pub used_in : ℕ
  used_in = count_to n (λ s. used (R s))

  -- the slot in which a card stands; n if it is not stored
  unfoldable pub slot_of_card : ℕ → ℕ
  slot_of_card card = first_from (λ s. eqb (R s).card card) 0 n

  -- the lowest free slot; n if there is none
  unfoldable pub lowest_free : ℕ
  lowest_free = first_from (λ s. not (used (R s))) 0 n

  -- the slot of the root; n in a free table
  unfoldable pub root_of : ℕ
  root_of = first_from (λ s. used (R s) && eqb (R s).parent no_slot) 0 n

  -- the kind of the first used record; in a free table that of slot n, which is free: 0
  unfoldable pub kind_of : ℕ
  kind_of = (R (first_from (λ s. used (R s)) 0 n)).kind

-- the largest timestamp in use, 0 if none is
unfoldable pub largest_timestamp : ℕ → (ℕ → Record) → ℕ
largest_timestamp zero R = 0
largest_timestamp (suc n) R = max (pick (used (R n)) (R n).timestamp 0) (largest_timestamp n R)
