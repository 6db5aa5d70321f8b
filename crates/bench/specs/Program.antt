-- "The bench program": the line that a command gets, the tables and lists that commands lead to, and what may be
-- printed after so many commands. No contract can say what was read; so it is said of some commands.
use Rattle.std.specs.Prelude.{ℕ, ◌+◌, ◌<◌, List, take, replicate}
use Rattle.line.specs.Line.{line_of, cut_of}
use Rattle.command.specs.Command.{Done, command_of, command_length}

-- ---- "Its table and its list have 512 places"

abbrev pub places : ℕ
places = 512

abbrev pub table_length : ℕ
table_length = 32768

-- ---- a command's line

-- what a command leaves, with its line
pub record Answer : Type 0 where
  pub line : List ℕ
  pub table : List ℕ
  pub list : List ℕ

-- "For each record it prints a line": of the command of this number, from what it reports
abbrev pub answer_of : ℕ → Done → Answer
answer_of number d = record {
  line = line_of number d.refusal d.count d.found (take d.found d.list);
  table = d.table;
  list = d.list;
}

-- ---- what commands lead to, and what is printed

-- "cleared at start": the table and the list that so many commands lead to
pub data Reached : ℕ → List ℕ → List ℕ → Type 0 where
  cleared : Reached 0 (replicate table_length 0) (replicate places 0)
  ran :
      {done : ℕ} {table list : List ℕ} (command : List ℕ)
      → Reached done table list
      → Reached (done + 1) (command_of command table list).table (command_of command table list).list

-- what is printed after so many commands: "command number from 1", so the next line's number is one more than they are;
-- or the line of left-over bytes, which are fewer than a record has, "none print nothing"
pub data Says : ℕ → List ℕ → Type 0 where
  answers :
      {done : ℕ} {table list : List ℕ} (command : List ℕ)
      → Reached done table list
      → Says done (answer_of (done + 1) (command_of command table list)).line
  leaves : {done : ℕ} (left : ℕ) → 0 < left → left < command_length → Says done (cut_of left)
