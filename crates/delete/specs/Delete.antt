-- "Delete": the outcome of the call, for every input. A record and every record below it leave; those that stood below
-- go back one at a time by the insert rule, oldest first.
use Rattle.std.specs.Prelude.{ℕ, ◌+◌, Bool, not, List, [], ◌∷◌, ◌++◌, eqb, leb, ltb, length, drop}
use Rattle.places.specs.Choice.{pick}
use Rattle.distance.specs.Kind.{apart}
use Rattle.admission.specs.Query.{known_change}
use Rattle.refusals.specs.Limits.{last_timestamp}
use Rattle.refusals.specs.Refusal.{ARGUMENT, ABSENT, CLOCK, Test, first_of, done}
use Rattle.refusals.specs.Outcome.{Outcome, refused}
use Rattle.table.specs.Record.{Record, record_of}
use Rattle.table.specs.Table.{records_in, records_of, at}
use Rattle.survey.specs.Survey.{slot_of_card, largest_timestamp, kind_of}
use Rattle.admission.specs.Admission.{admission_tests}
use Rattle.placing.specs.Place.{Placed}
use Rattle.placing.specs.Changed.{changed}
use Rattle.removal.specs.Removal.{leaving, removed}
use Rattle.age.specs.Age.{oldest_first}
use Rattle.back.specs.Back.{put_back}

-- the slots that stood below v, "oldest first by their old timestamps"
unfoldable pub waiting : List Record → ℕ → List ℕ
waiting rows v = oldest_first (λ s. (at rows s).timestamp) (drop 1 (leaving rows v))

-- the records after the deletion of slot v, and the distances worked out
unfoldable pub deleted : ℕ → List Record → ℕ → Placed
deleted arity rows v =
    put_back
    (apart (kind_of (length rows) (at rows)))
    arity
    rows
    (waiting rows v)
    (record { rows = removed rows v; count = 0 })

-- ---- the call

-- "the largest among the records that stay (0 if none), plus m, passes" the last timestamp
unfoldable pub clock_would_pass : List Record → ℕ → Bool
clock_would_pass rows v =
    ltb last_timestamp (largest_timestamp (length rows) (at (removed rows v)) + length (waiting rows v))

-- "3, ARGUMENT: card 0; arity not 1 to 8; 6, ABSENT: card not stored; 8, CLOCK: a fresh timestamp would pass" the last
abbrev pub deletion_tests : List ℕ → ℕ → ℕ → List Test
deletion_tests l card arity =
    (not (known_change card arity), ARGUMENT)
    ∷ (leb (records_in l) (slot_of_card (records_in l) (record_of l) card), ABSENT)
    ∷ (clock_would_pass (records_of l) (slot_of_card (records_in l) (record_of l) card), CLOCK)
    ∷ []

-- the refusal, 0 if there is none: first 1 and 2, as of every call
unfoldable pub refusal_of : List ℕ → ℕ → ℕ → ℕ
refusal_of l card arity = first_of (admission_tests l ++ deletion_tests l card arity)

-- table l, card and arity
unfoldable pub delete_of : List ℕ → ℕ → ℕ → Outcome
delete_of l card arity =
    pick
    (eqb (refusal_of l card arity) done)
    (changed (deleted arity (records_of l) (slot_of_card (records_in l) (record_of l) card)))
    (refused (refusal_of l card arity) l)
