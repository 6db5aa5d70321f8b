-- All stored cards in slot order: the outcome of the call, for every input. The paper has no such call; without it
-- nobody can ask a table what it stores, and how much room is left.
use Rattle.std.specs.Prelude.{ℕ, zero, suc, List, [], ◌∷◌, ◌++◌, eqb, ltb, length}
use Rattle.std.proofs.lemmas.List.Edits.{sets}
use Rattle.places.specs.Choice.{pick}
use Rattle.table.specs.Record.{Record, used, record_of}
use Rattle.table.specs.Table.{records_in}
use Rattle.survey.specs.Survey.{used_in}
use Rattle.tree.specs.Slots.{keep}
use Rattle.admission.specs.Admission.{admission_tests}
use Rattle.refusals.specs.Refusal.{SHORT, first_of, done}

-- what the call returns, and the list as it leaves it
pub record Outcome : Type 0 where
  pub refusal : ℕ
  pub found : ℕ
  pub list : List ℕ

abbrev pub outcome : ℕ → ℕ → List ℕ → Outcome
outcome refusal found list = record { refusal = refusal; found = found; list = list }

-- the cards of the used records among the first n slots, in slot order
unfoldable pub cards_in : ℕ → (ℕ → Record) → List ℕ
cards_in zero R = []
cards_in (suc n) R = cards_in n R ++ keep (used (R n)) ((R n).card ∷ [])

-- the refusal, 0 if there is none: 1 and 2, as of every call, and 9 if a list of m entries is shorter than the used
-- records are many
unfoldable pub refusal_of : List ℕ → ℕ → ℕ
refusal_of l m = first_of (admission_tests l ++ ((ltb m (used_in (records_in l) (record_of l)), SHORT) ∷ []))

-- a refused call finds nothing and leaves the list
unfoldable pub refused : ℕ → List ℕ → Outcome
refused k list = outcome k 0 list

-- the cards stand from the list's start on; later entries stay
unfoldable pub listing : List ℕ → List ℕ → Outcome
listing cs list = outcome done (length cs) (sets list 0 cs)

-- table l and a lent list
unfoldable pub all_cards_of : List ℕ → List ℕ → Outcome
all_cards_of l list =
    pick
    (eqb (refusal_of l (length list)) done)
    (listing (cards_in (records_in l) (record_of l)) list)
    (refused (refusal_of l (length list)) list)
