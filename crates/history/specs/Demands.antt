-- What the paper asks, as definitions: of a table after a history (`Holds`), of an accepted search (`Finds`), of all
-- searches on a table (`ListsExactly`), and of the refusals of a call (`Refuses`).
use Rattle.std.specs.Prelude.{ℕ, ◌≤◌, ◌≡◌, ◌↔◌, length, take, drop}
use mathlib.Core.List.{List, map, Memᴰ}
use Rattle.number.specs.Frame.{Bytes}
use Rattle.distance.specs.Signature.{readings_at}
use Rattle.distance.specs.Kind.{apart}
use Rattle.table.specs.Record.{Used, record_of}
use Rattle.table.specs.Table.{records_in}
use Rattle.table.specs.Stands.{AreRecords}
use Rattle.tree.specs.Slots.{◌∈◌, Distinct}
use Rattle.refusals.specs.Refusal.{Test, first_of, done}
use Rattle.newcomer.specs.Newcomer.{Newcomer}
use Rattle.placing.specs.Stored.{Stored}
use Rattle.view.specs.Sound.{SoundTable}
use Rattle.search.specs.Search.{Outcome, compared_slots, search_of}
use Rattle.history.specs.History.{State}

-- the numbers of these cards
abbrev pub cards_of : List Newcomer → List ℕ
cards_of stored = map (λ (x : Newcomer). x.card) stored

-- ---- after every history

-- a table of n records, and the cards that are stored according to the calls
pub record Holds (n : ℕ) (st : State) : Type 0 where
  pub size : AreRecords st.table n
  pub bytes : Bytes st.table
  -- sound, and so well formed
  pub sound : SoundTable n (record_of st.table)
  -- "the used records are exactly the stored cards with those kinds and signatures"
  pub stored : (x : Newcomer) → Stored n (record_of st.table) x ↔ Memᴰ x st.stored
  -- and no card is stored twice
  pub once : Distinct (cards_of st.stored)

-- ---- every accepted search

-- c is the number of a stored card at most r from the query
abbrev pub Near : List Newcomer → ℕ → List ℕ → ℕ → ℕ → Type 0
Near stored kind q r c = (x : Newcomer) × Memᴰ x stored × (x.card ≡ c) × (apart kind x.readings q ≤ r)

-- "the cards compared are the root and the children of entered records": table l, signature bytes s
abbrev pub compared_cards : List ℕ → ℕ → List ℕ → ℕ → List ℕ
compared_cards l kind s r =
    map (λ (a : ℕ). (record_of l a).card) (compared_slots (records_in l) (record_of l) kind (readings_at s 0) r)

-- the outcome o of a search in the state st, lent this list
pub record Finds (st : State) (kind : ℕ) (s : List ℕ) (r : ℕ) (list : List ℕ) (o : Outcome) : Type 0 where
  -- "lists each stored card within the radius once and no other card"
  pub room : o.found ≤ length o.list
  pub exactly : (c : ℕ) → c ∈ take o.found o.list ↔ Near st.stored kind (readings_at s 0) r c
  pub listed_once : Distinct (take o.found o.list)
  -- "later entries stay"
  pub later : drop o.found o.list ≡ drop o.found list
  -- "compares no stored card twice", and nothing but stored cards
  pub compared_once : Distinct (compared_cards st.table kind s r)
  pub compared_stored : (c : ℕ) → c ∈ compared_cards st.table kind s r → c ∈ cards_of st.stored
  -- "works out at most as many distances as cards are stored": the count is of the cards compared
  pub count_is : o.count ≡ length (compared_cards st.table kind s r)
  pub count_most : o.count ≤ length st.stored

-- ---- every accepted search on a table, whatever made it

-- each lists exactly the cards of the used records within its radius: it misses nothing, and lists nothing else
abbrev pub ListsExactly : List ℕ → Type 0
ListsExactly l =
    (kind : ℕ) (s : List ℕ) (r : ℕ) (list : List ℕ)
    → (search_of l kind s r list).refusal ≡ done
    → (c : ℕ)
    → c ∈ take (search_of l kind s r list).found (search_of l kind s r list).list
    ↔ ((a : ℕ)
    × Used (record_of l a)
    × ((record_of l a).card ≡ c)
    × (apart kind (record_of l a).readings (readings_at s 0) ≤ r))

-- ---- every call

-- the refusal is the number of the first test that holds, 0 if none does; and a refused call leaves all untouched
pub record Refuses (tests : List Test) (refusal : ℕ) (Untouched : Type 0) : Type 0 where
  pub first : refusal ≡ first_of tests
  pub untouched : (refusal ≡ done → ⊥) → Untouched
