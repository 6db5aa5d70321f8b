-- What the call does with the card's slot (`outcome_at`), and a refused call's outcome.
use Rattle.std.specs.Prelude.{ℕ, List}
use Rattle.places.specs.Choice.{pick}
use Rattle.refusals.specs.Refusal.{CLOCK}
use Rattle.refusals.specs.Outcome.{Outcome, refused}
use Rattle.table.specs.Table.{records_of}
use Rattle.placing.specs.Changed.{changed}
use Rattle.delete.specs.Delete.{deleted, clock_would_pass}

-- a refused call's outcome
abbrev pub refused_by : ℕ → List ℕ → Outcome
refused_by k l = record { refusal = k; count = 0; table = l }

-- what the call does with slot v, once the card is known to stand there
unfoldable pub outcome_at : List ℕ → ℕ → ℕ → Outcome
outcome_at l v arity =
    pick (clock_would_pass (records_of l) v) (refused CLOCK l) (changed (deleted arity (records_of l) v))
