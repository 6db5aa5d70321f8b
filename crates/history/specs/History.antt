-- A history: calls on one table that starts cleared, accepted or refused, in any order, with any arguments.
-- The stored cards are read from the calls alone: "each with the kind and signature that its accepted insert brought,
-- until its accepted delete or a clear".
-- A further call that reads is named in `Reading` and says in `tells_of` what it reports, no more. One that writes is
-- named in `Writing`: its arguments' types, its outcome, and what is then stored.
use Rattle.std.specs.Prelude.{ℕ, ◌^◌, ◌<◌, List, [], ◌∷◌, map, eqb, take}
use Rattle.places.specs.Choice.{pick}
use Rattle.number.specs.Frame.{Bytes}
use Rattle.distance.specs.Signature.{readings_at}
use Rattle.table.specs.Table.{free_table}
use Rattle.writing.specs.Clear.{clear_of}
use Rattle.refusals.specs.Refusal.{done}
use Rattle.newcomer.specs.Newcomer.{Newcomer}
use Rattle.insert.specs.Insert.{insert_of}
use Rattle.refusals.specs.Outcome.{Outcome}
use Rattle.delete.specs.Delete.{delete_of}
use Rattle.search.specs.Search.{search_of, Outcome as Listing}
use Rattle.pairs.specs.declared.Pair.{Pair}
use Rattle.nearest.specs.Nearest.{nearest_of, Outcome as Nearest}
use Rattle.soundness.specs.Soundness.{check_of}
use Rattle.inventory.specs.Cards.{all_cards_of, Outcome as Inventory}
use Rattle.inventory.specs.Card.{one_card_of}

-- ---- the calls; a signature, a list and a row are what the caller lends

-- those that write: they change the table, if they are accepted
pub data Writing : Type 0 where
  clear : Writing
  insert : (card kind arity : ℕ) (signature : List ℕ) → Writing
  delete : (card arity : ℕ) → Writing

-- those that read: table and stored cards stay, whatever they are asked
pub data Reading : Type 0 where
  search : (kind : ℕ) (signature : List ℕ) (radius : ℕ) (list : List ℕ) → Reading
  nearest : (kind : ℕ) (signature : List ℕ) (k : ℕ) (list : List Pair) → Reading
  check : Reading
  all_cards : (list : List ℕ) → Reading
  one_card : (card : ℕ) (row : List ℕ) → Reading

pub data Call : Type 0 where
  writes : Writing → Call
  reads : Reading → Call

-- the arguments of a call that writes are numbers of their types: a card is a 32-bit number, a signature is bytes
abbrev pub TypedWriting : Writing → Type 0
TypedWriting clear = Unit {0}
TypedWriting (insert card kind arity signature) = (card < 2 ^ 32) × Bytes signature
TypedWriting (delete card arity) = Unit {0}

abbrev pub Typed : Call → Type 0
Typed (writes c) = TypedWriting c
Typed (reads r) = Unit {0}

-- ---- table and stored cards

-- the table, and the cards that are stored according to the calls
pub record State : Type 0 where
  pub table : List ℕ
  pub stored : List Newcomer

-- a cleared table of n records stores nothing
unfoldable pub cleared : ℕ → State
cleared n = record { table = free_table n; stored = [] }

-- the stored cards without this one
unfoldable pub without : ℕ → List Newcomer → List Newcomer
without card [] = []
without card (x ∷ xs) = pick (eqb x.card card) (without card xs) (x ∷ without card xs)

-- what a call that writes leaves of the table's bytes l, with its refusal and its distance count
unfoldable pub outcome_of : Writing → List ℕ → Outcome
outcome_of clear l = record { refusal = (clear_of l).refusal; count = 0; table = (clear_of l).table }
outcome_of (insert card kind arity signature) l = insert_of l card kind arity signature
outcome_of (delete card arity) l = delete_of l card arity

-- what is stored after it, if it is accepted
unfoldable pub stored_by : Writing → List Newcomer → List Newcomer
stored_by clear stored = []
stored_by (insert card kind arity signature) stored =
    record { card = card; kind = kind; readings = readings_at signature 0 } ∷ stored
stored_by (delete card arity) stored = without card stored

-- what a call makes of table and stored cards: only an accepted call (refusal 0) changes what is stored
unfoldable pub after : Call → State → State
after (writes c) st =
    record {
      table = (outcome_of c st.table).table;
      stored = pick (eqb (outcome_of c st.table).refusal done) (stored_by c st.stored) st.stored;
    }
after (reads r) st = st

-- after all calls of a history, the first one first
unfoldable pub run : List Call → State → State
run [] st = st
run (c ∷ cs) st = run cs (after c st)

-- every call's arguments are of their types
abbrev pub AllTyped : List Call → Type 0
AllTyped [] = Unit {0}
AllTyped (c ∷ cs) = Typed c × AllTyped cs

-- ---- what the calls report

-- a line of the paper's listing: refusal, distance count, cards found, and the cards
pub record Line : Type 0 where
  pub refusal : ℕ
  pub count : ℕ
  pub found : ℕ
  pub cards : List ℕ

abbrev pub line : ℕ → ℕ → ℕ → List ℕ → Line
line refusal count found cards = record { refusal = refusal; count = count; found = found; cards = cards }

abbrev of_outcome : Outcome → Line
of_outcome o = line o.refusal o.count 0 []

abbrev of_listing : Listing → Line
of_listing o = line o.refusal o.count o.found (take o.found o.list)

-- of the pairs the cards, which the nearest call lists with their distances
abbrev of_nearest : Nearest → Line
of_nearest o =
    line o.refusal o.count o.found (map (λ (p : Pair). p.card) (take o.found o.list))

abbrev of_inventory : Inventory → Line
of_inventory o = line o.refusal 0 o.found (take o.found o.list)

-- "distance count (0 for check), cards found (0 but for search), then the cards"; the two calls beyond the paper work
-- out no distance, and `cards` finds and lists all that are stored
unfoldable pub tells_of : Reading → List ℕ → Line
tells_of (search kind signature radius list) l = of_listing (search_of l kind signature radius list)
tells_of (nearest kind signature k list) l = of_nearest (nearest_of l kind signature k list)
tells_of check l = line (check_of l) 0 0 []
tells_of (all_cards list) l = of_inventory (all_cards_of l list)
tells_of (one_card card row) l = line (one_card_of l card row).refusal 0 0 []

unfoldable pub report_of : Call → State → Line
report_of (writes c) st = of_outcome (outcome_of c st.table)
report_of (reads r) st = tells_of r st.table

-- what all calls of a history report, the first one first
unfoldable pub reports : List Call → State → List Line
reports [] st = []
reports (c ∷ cs) st = report_of c st ∷ reports cs (after c st)
