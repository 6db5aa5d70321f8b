-- What is asked of an accepted nearest call after a history: it lists exactly the first k of all stored cards.
use Rattle.std.specs.Prelude.{ℕ, ◌≤◌, min, ◌≡◌, Bool, ◌&&◌, ◌||◌, eqb, ltb, length, take, drop}
use mathlib.Core.List.{List, map}
use Rattle.distance.specs.Signature.{readings_at}
use Rattle.distance.specs.Kind.{apart}
use Rattle.pairs.specs.declared.Pair.{Pair}
use Rattle.table.specs.Record.{record_of}
use Rattle.table.specs.Table.{records_in}
use Rattle.tree.specs.Slots.{◌∈◌, Distinct}
use Rattle.tree.specs.Sorted.{sort_by}
use Rattle.newcomer.specs.Newcomer.{Newcomer}
use Rattle.nearest.specs.Nearest.{Outcome, pair, compared_slots}
use Rattle.history.specs.History.{State}
use Rattle.history.specs.Demands.{cards_of}

-- "nearest first, equal distances by smaller card": of stored cards, by their distances to the query
unfoldable pub closer : ℕ → List ℕ → Newcomer → Newcomer → Bool
closer kind q x y =
    let a = apart kind x.readings q in
    let b = apart kind y.readings q in
    ltb a b || (eqb a b && ltb x.card y.card)

-- "the first k of all stored cards in that order", each with its distance; "with fewer stored than k, all of them"
unfoldable pub nearest_stored : List Newcomer → ℕ → List ℕ → ℕ → List Pair
nearest_stored stored kind q k =
    map (λ (x : Newcomer). pair x.card (apart kind x.readings q)) (take k (sort_by (closer kind q) stored))

-- the cards compared: the root and the children of the records taken
abbrev pub nearest_compared : List ℕ → ℕ → List ℕ → ℕ → List ℕ
nearest_compared l kind s k =
    map (λ (a : ℕ). (record_of l a).card) (compared_slots (records_in l) (record_of l) kind (readings_at s 0) k)

-- the outcome o of a nearest call in the state st, lent this list
pub record FindsNearest (st : State) (kind : ℕ) (s : List ℕ) (k : ℕ) (list : List Pair) (o : Outcome) : Type 0 where
  -- "the list is exactly the first k of all stored cards in that order"
  pub exactly : take o.found o.list ≡ nearest_stored st.stored kind (readings_at s 0) k
  pub found_is : o.found ≡ min k (length st.stored)
  -- "later entries stay"
  pub later : drop o.found o.list ≡ drop o.found list
  -- no card is compared twice, and nothing but stored cards
  pub compared_once : Distinct (nearest_compared st.table kind s k)
  pub compared_stored : (c : ℕ) → c ∈ nearest_compared st.table kind s k → c ∈ cards_of st.stored
  -- the count is of the cards compared, and so at most the stored cards
  pub count_is : o.count ≡ length (nearest_compared st.table kind s k)
  pub count_most : o.count ≤ length st.stored
