-- What one card was stored with, its kind and its signature: the outcome of the call, for every input. The paper has no
-- such call; without it a caller who has lost a card's signature cannot get it back from the table.
use Rattle.std.specs.Prelude.{ℕ, List, [], ◌∷◌, ◌++◌, eqb, leb, ltb, length}
use Rattle.std.proofs.lemmas.List.Edits.{sets}
use Rattle.places.specs.Choice.{pick}
use Rattle.table.specs.Record.{Record, record_of}
use Rattle.table.specs.Table.{records_in, numbers}
use Rattle.survey.specs.Survey.{slot_of_card}
use Rattle.admission.specs.Admission.{admission_tests}
use Rattle.refusals.specs.Limits.{signature_length}
use Rattle.refusals.specs.Refusal.{Test, ARGUMENT, ABSENT, SHORT, first_of, done}

-- what the call returns, and the row of bytes as it leaves it
pub record Outcome : Type 0 where
  pub refusal : ℕ
  pub kind : ℕ
  pub row : List ℕ

abbrev pub outcome : ℕ → ℕ → List ℕ → Outcome
outcome refusal kind row = record { refusal = refusal; kind = kind; row = row }

-- the 32 bytes of a record's signature: its sixteen readings, low byte first
abbrev pub signature_bytes : Record → List ℕ
signature_bytes r = numbers 2 r.readings

-- what is asked of an admitted table, a card, and a row of m bytes: 3 for card 0, 6 if the card is not stored, 9 if the
-- row has no room for a signature
abbrev pub card_tests : List ℕ → ℕ → ℕ → List Test
card_tests l card m =
    (eqb card 0, ARGUMENT)
    ∷ (leb (records_in l) (slot_of_card (records_in l) (record_of l) card), ABSENT)
    ∷ (ltb m signature_length, SHORT)
    ∷ []

-- the refusal, 0 if there is none: first 1 and 2, as of every call
unfoldable pub refusal_of : List ℕ → ℕ → ℕ → ℕ
refusal_of l card m = first_of (admission_tests l ++ card_tests l card m)

-- a refused call tells no kind and leaves the row
unfoldable pub refused : ℕ → List ℕ → Outcome
refused k row = outcome k 0 row

-- the record's kind, and its signature's bytes from the row's start on; later bytes stay
unfoldable pub telling : Record → List ℕ → Outcome
telling r row = outcome done r.kind (sets row 0 (signature_bytes r))

-- table l, card and a lent row
unfoldable pub one_card_of : List ℕ → ℕ → List ℕ → Outcome
one_card_of l card row =
    pick
    (eqb (refusal_of l card (length row)) done)
    (telling (record_of l (slot_of_card (records_in l) (record_of l) card)) row)
    (refused (refusal_of l card (length row)) row)
