-- What placing a newcomer asks of a table and of its survey.
use Rattle.std.specs.Prelude.{ℕ, ◌<◌, true, ◌≡◌, List, length}
use Rattle.distance.specs.Signature.{Fit}
use Rattle.table.specs.Record.{record_of}
use Rattle.table.specs.Table.{right_size, records_in, records_of}
use Rattle.survey.specs.declared.Findings.{Findings}
use Rattle.survey.specs.Answers.{Answers}
use Rattle.newcomer.specs.Newcomer.{Newcomer}
use Rattle.placing.specs.Place.Settled.{Ready}
use Rattle.refusals.specs.Limits.{last_timestamp}

-- the newcomer x may be placed in slot s of the table l, of which f are the survey's findings
pub record Placeable (l : List ℕ) (s : ℕ) (f : Findings) (x : Newcomer) (arity : ℕ) : Type 0 where
  pub answers : Answers (records_in l) (record_of l) f
  pub size : right_size (length l) ≡ true
  pub ready : Ready (records_in l) arity s x (records_of l)
  pub fit : Fit x.readings
  pub clock : f.largest < last_timestamp
