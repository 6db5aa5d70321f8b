-- Loop: what the pass has seen of the records before slot s, and what it knows at its end. How one record adds to it is
-- in Turn. Assumes nothing.
use Rattle.std.specs.Prelude.{ℕ, zero, suc, ◌+◌, ◌-◌, ◌*◌, ◌≤◌, ◌<◌, max, ◌≡◌, Bool, true, false, ◌&&◌, not, ltb}
use Rattle.std.specs.Prelude.{Option, Some, None, MatchOption}
use Rattle.std.specs.Option.{option_or}
use Rattle.places.specs.Test.{all_to}
use Rattle.distinct.specs.Distinct.{distinct_to}
use Rattle.table.specs.Record.{Record, used}
use Rattle.judge.specs.WellFormed.{is_root}
use Rattle.judge.specs.Counted.{kind_before, fits, used_count, child_count, agree}
use Rattle.survey.specs.Survey.{largest_timestamp}
use Rattle.links.specs.declared.Seen.{Seen}
use Rattle.links.specs.Loop.Found.{FirstBefore, OneBefore}

-- the largest number that a byte holds, and so the largest child count that is read
abbrev pub largest_byte : ℕ
largest_byte = 255

-- a record without card
abbrev pub is_empty : (ℕ → Record) → ℕ → Bool
is_empty R s = not (used (R s))

-- the kind that a record has, of which 0 is none
abbrev pub kind_found : ℕ → Option ℕ
kind_found zero = None
kind_found (suc k) = Some (suc k)

-- what is seen with a free record in slot s besides
abbrev pub with_free : Seen → ℕ → Seen
with_free seen s =
    record {
      kind = seen.kind;
      used = seen.used - 1;
      children = seen.children;
      rising = seen.rising;
      lowest = option_or seen.lowest (Some s);
      largest = seen.largest;
      root = seen.root;
    }

-- .. and with the used record r, after which the root is this
abbrev pub with_used : Seen → Record → Option ℕ → Seen
with_used seen r root =
    record {
      kind = Some r.kind;
      used = seen.used;
      children = seen.children + r.count;
      rising = seen.rising && ltb seen.largest r.timestamp;
      lowest = seen.lowest;
      largest = max r.timestamp seen.largest;
      root = root;
    }

-- the records before s fit; `used` counts those from s on too, until they are found free; `few` is what keeps the sum
-- of child counts within its type; timestamps that rise are all different (`apart`), since none before s is above the
-- largest (`within`)
pub record SeenBefore (n : ℕ) (R : ℕ → Record) (s : ℕ) (seen : Seen) : Type 0 where
  pub fit : true ≡ all_to s (fits n R)
  pub kind : seen.kind ≡ kind_found (kind_before R s)
  pub used : seen.used + s ≡ used_count s R + n
  pub children : seen.children ≡ child_count s R
  pub few : seen.children ≤ largest_byte * s
  pub apart : seen.rising ≡ true → distinct_to s (λ a. (R a).timestamp) ≡ true
  pub within : (a : ℕ) → a < s → (R a).timestamp ≤ seen.largest
  pub lowest : FirstBefore (is_empty R) s seen.lowest
  pub largest : seen.largest ≡ largest_timestamp s R
  pub root : OneBefore (is_root R) s seen.root

-- the table is not well formed: a record does not fit, or the numbers do not agree
abbrev pub Misfit : ℕ → (ℕ → Record) → Type 0
Misfit n R = all_to n (fits n R) && agree n R ≡ false

-- the table is not well formed, or the record in slot s fits and is seen too
abbrev pub Looked : ℕ → (ℕ → Record) → ℕ → Option Seen → Type 0
Looked n R s seen = MatchOption seen (Misfit n R) (SeenBefore n R (s + 1))

-- the pass ends with the last record, or where the table is found not well formed
abbrev pub Ended : ℕ → (ℕ → Record) → Option Seen → Type 0
Ended n R seen = MatchOption seen (Misfit n R) (SeenBefore n R n)
