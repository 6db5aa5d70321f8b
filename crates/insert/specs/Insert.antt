-- "Insert (001, Algorithm 1)": the outcome of the call, for every input.
use Rattle.std.specs.Prelude.{ℕ, Bool, ◌&&◌, not, List, [], ◌∷◌, eqb, leb, ltb, length}
use Rattle.places.specs.Choice.{pick}
use Rattle.distance.specs.Signature.{readings_at}
use Rattle.distance.specs.Kind.{apart}
use Rattle.table.specs.Record.{record_of}
use Rattle.table.specs.Table.{right_size, records_in, records_of}
use Rattle.judge.specs.WellFormed.{well_formed}
use Rattle.survey.specs.Survey.{slot_of_card, lowest_free, largest_timestamp}
use Rattle.refusals.specs.Refusal.{SIZE, TABLE, ARGUMENT, KIND, TWICE, FULL, CLOCK, done, first_of}
use Rattle.admission.specs.Query.{known_query, other_kind, known_change}
use Rattle.refusals.specs.Limits.{last_timestamp}
use Rattle.refusals.specs.Outcome.{Outcome, refused}
use Rattle.placing.specs.Place.{Placed, placed}
use Rattle.placing.specs.Changed.{changed}

-- "card 0; arity not 1 to 8; kind not 1 or 2, or signature not 32 bytes" is refused
unfoldable pub right_arguments : ℕ → ℕ → ℕ → List ℕ → Bool
right_arguments card kind arity s =
    known_change card arity && known_query kind s

-- the refusal, 0 if there is none
unfoldable pub refusal_of : List ℕ → ℕ → ℕ → ℕ → List ℕ → ℕ
refusal_of l card kind arity s =
    first_of
    ((not (right_size (length l)), SIZE)
    ∷ (not (well_formed (records_in l) (record_of l)), TABLE)
    ∷ (not (right_arguments card kind arity s), ARGUMENT)
    ∷ (other_kind (records_in l) (record_of l) kind, KIND)
    ∷ (ltb (slot_of_card (records_in l) (record_of l) card) (records_in l), TWICE)
    ∷ (leb (records_in l) (lowest_free (records_in l) (record_of l)), FULL)
    ∷ (leb last_timestamp (largest_timestamp (records_in l) (record_of l)), CLOCK)
    ∷ [])

-- "The record goes in the lowest free slot, so freed slots are used again"
unfoldable pub inserted : List ℕ → ℕ → ℕ → ℕ → List ℕ → Placed
inserted l card kind arity s =
    placed
    (apart kind)
    arity
    (lowest_free (records_in l) (record_of l))
    (record { card = card; kind = kind; readings = readings_at s 0 })
    (records_of l)

-- table l, card, kind, arity and signature bytes s
unfoldable pub insert_of : List ℕ → ℕ → ℕ → ℕ → List ℕ → Outcome
insert_of l card kind arity s =
    pick
    (eqb (refusal_of l card kind arity s) done)
    (changed (inserted l card kind arity s))
    (refused (refusal_of l card kind arity s) l)
