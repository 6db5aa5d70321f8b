-- "Edges to try", those marked P, as one table (`Edges`) about the definitions that the contracts equate the code with:
-- the paper's listing as a history, and what each line prints. The proof, `edges`, is in proofs/Edges.
use Rattle.std.specs.Prelude.{ℕ, ◌≡◌, replicate}
use mathlib.Core.List.{List, [], ◌∷◌, ◌++◌}
use Rattle.distance.specs.Laws.{farthest}
use Rattle.distance.specs.Kind.{apart}
use Rattle.table.specs.Record.{Record, free, record_of}
use Rattle.writing.specs.Put.{put_radius}
use Rattle.newcomer.specs.Newcomer.{Newcomer}
use Rattle.soundness.specs.Soundness.{check_of}
use Rattle.history.specs.History.{Line, line, cleared, run, report_of, reports}
use Rattle.listing.specs.Rows.{Step, insert, delete, search, check, call, calls, run_on}

-- ---- "Commands for this listing: kind 1, arity 2, reading 0 as given, the other readings 0"

-- the 32 bytes of a signature whose reading 0 is v, below 256
abbrev pub reading : ℕ → List ℕ
reading v = v ∷ replicate 31 0

abbrev pub put : ℕ → ℕ → Step
put card v = insert card 1 2 (reading v)

-- what such an insert brings
abbrev pub brings : ℕ → ℕ → Newcomer
brings card v = record { card = card; kind = 1; readings = v ∷ replicate 15 0 }

-- "its list has 512 places"
abbrev pub look : ℕ → ℕ → Step
look v r = search 1 (reading v) r (replicate 512 0)

-- "Insert cards 11 to 16 with 50, 80, 20, 52, 40, 78": lines 1 to 6
abbrev pub six_cards : List Step
six_cards = put 11 50 ∷ put 12 80 ∷ put 13 20 ∷ put 14 52 ∷ put 15 40 ∷ put 16 78 ∷ []

-- "search 48 with radius 5; delete 12; the same search; delete 99; check"
abbrev pub paper_listing : List Step
paper_listing = six_cards ++ (look 48 5 ∷ delete 12 2 ∷ look 48 5 ∷ delete 99 2 ∷ check ∷ [])

-- what follows on the six cards
abbrev pub rest : List Step
rest = look 48 5 ∷ delete 12 2 ∷ look 48 5 ∷ delete 99 2 ∷ check ∷ []

-- ---- on rows

-- the records after line 6
abbrev pub six_rows : List Record
six_rows = run_on six_cards (replicate 512 free)

-- what is printed, line by line: refusal, distance count, cards found, and the cards
abbrev pub printed : List Line
printed =
    line 0 0 0 []
    ∷ line 0 1 0 []
    ∷ line 0 2 0 []
    ∷ line 0 3 0 []
    ∷ line 0 3 0 []
    ∷ line 0 4 0 []
    ∷ line 0 5 2 (11 ∷ 14 ∷ [])
    ∷ line 0 5 0 []
    ∷ line 0 4 2 (11 ∷ 14 ∷ [])
    ∷ line 6 0 0 []
    ∷ line 0 0 0 []
    ∷ []

-- the cards that are stored in the end, with their readings
abbrev pub left_stored : List Newcomer
left_stored = brings 16 78 ∷ brings 15 40 ∷ brings 14 52 ∷ brings 13 20 ∷ brings 11 50 ∷ []

-- ---- the table

-- the bytes after line 6
abbrev pub six : List ℕ
six = (run (calls six_cards) (cleared 512)).table

pub record Edges : Type 0 where
  -- "lines 1 to 9 above", and the last two
  pub P1_to_P9 : reports (calls paper_listing) (cleared 512) ≡ printed
  -- "all readings 0 against all 65,535"
  pub P10 : apart 1 (replicate 16 0) (replicate 16 65535) ≡ farthest
  -- "no bits against all bits"
  pub P11 : apart 2 (replicate 16 0) (replicate 16 65535) ≡ 256
  -- "after line 6, search 40 with radius 0: card 15, count 4"
  pub P12 : report_of (call (look 40 0)) (run (calls six_cards) (cleared 512)) ≡ line 0 4 1 (15 ∷ [])
  -- "after line 6 with record 11's radius set from 30 to 29: check gives 10"
  pub P13 : ((record_of six 0).card ≡ 11) × ((record_of six 0).radius ≡ 30) × (check_of (put_radius six 0 29) ≡ 10)
  -- "After line 6, a search for 52 with radius 0": an index that counts the parent among the candidates "misses card
  -- 14, because 11 is nearer but was full"; this was the fault that forgot eleven cards
  pub parent_nearer : report_of (call (look 52 0)) (run (calls six_cards) (cleared 512)) ≡ line 0 5 1 (14 ∷ [])
