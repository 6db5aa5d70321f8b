-- What the call works out before it writes (`Planned`). That it is what the definition asks for is proved in proofs/.
use Rattle.std.specs.Prelude.{ℕ, ◌-◌, ◌≡◌, List, length, take, drop}
use Rattle.table.specs.Record.{record_of}
use Rattle.table.specs.Table.{records_of, records_in, at}
use Rattle.table.specs.Stands.{WholeRecords}
use Rattle.survey.specs.declared.Findings.{Findings}
use Rattle.survey.specs.Answers.{Answers}
use Rattle.survey.specs.Survey.{largest_timestamp}
use Rattle.removal.specs.Removal.{removed}
use Rattle.removal.specs.Leaving.{Held}
use Rattle.delete.specs.Waiting.{leaving_keys}

-- slot v of the bytes l holds a card; found: what was found in them
pub record Deletable (l : List ℕ) (v : ℕ) (found : Findings) : Type 0 where
  pub whole : WholeRecords l
  pub held : Held (records_of l) v
  pub answers : Answers (records_in l) (record_of l) found

-- all keys but the first, as they are lent
abbrev pub later_keys : List ℕ → List ℕ
later_keys keys = take (length keys - 1) (drop 1 keys)

-- what the call has worked out: the keys of all that leave, in age order, and the largest timestamp of those that stay
pub record Planned (l : List ℕ) (v : ℕ) (found : Findings) (keys : List ℕ) (last : ℕ) : Type 0 where
  pub deletable : Deletable l v found
  pub keys_are : keys ≡ leaving_keys (records_of l) v
  pub last_is : last ≡ largest_timestamp (length (records_of l)) (at (removed (records_of l) v))
