-- The promises, whole. Each call's outcome (`clear_of`, `insert_of`, `delete_of`, `search_of`, `nearest_of`,
-- `check_of`, `all_cards_of`, `one_card_of`) is what its contract equates the code with, so each statement here is
-- about what the code does. Read first History.antt, what a history is, and Demands.antt, what is asked. Assumes
-- nothing.
use Rattle.std.specs.Prelude.{ℕ, ◌+◌, ◌≤◌, ◌≡◌, true, ◌&&◌, not, ◌↔◌, List, [], ◌∷◌, leb, ltb, eqb, length}
use Rattle.std.proofs.Math.Path.{refl}
use Rattle.std.proofs.Common.{sym, ◌∙◌}
use Rattle.number.specs.Frame.{Bytes}
use Rattle.table.specs.Record.{record_of}
use Rattle.refusals.specs.Limits.{most_records, most_nearest, last_timestamp, signature_length}
use Rattle.table.specs.Table.{right_size, records_in, records_of}
use Rattle.writing.specs.Clear.{Cleared, clear_of}
use Rattle.judge.specs.WellFormed.{WellFormed, well_formed}
use Rattle.survey.specs.Survey.{used_in, slot_of_card, lowest_free, largest_timestamp}
use Rattle.refusals.specs.Refusal.{SIZE, TABLE, ARGUMENT, KIND, TWICE, ABSENT, FULL, CLOCK, SHORT, LOOSE, first_of}
use Rattle.refusals.specs.Refusal.{done}
use Rattle.admission.specs.Query.{other_kind, known_change}
use Rattle.distance.specs.Kind.{known_kind}
use Rattle.insert.specs.Insert.{insert_of, right_arguments}
use Rattle.refusals.specs.Outcome.{Outcome}
use Rattle.insert.specs.Insert as Insert
use Rattle.insert.specs.Promises as Inserts
use Rattle.delete.specs.Delete.{delete_of, clock_would_pass}
use Rattle.delete.specs.Delete as Delete
use Rattle.delete.proofs.Promises as Deletes
use Rattle.search.specs.Search.{search_of}
use Rattle.search.specs.Search as Search
use Rattle.search.specs.Promises.{refusal_is, count_narrower}
use Rattle.pairs.specs.declared.Pair.{Pair}
use Rattle.nearest.specs.Nearest.{nearest_of}
use Rattle.nearest.specs.Nearest as Nearest
use Rattle.nearest.proofs.Promises as Nearests
use Rattle.soundness.specs.Soundness.{is_sound, check_of}
use Rattle.inventory.specs.Cards.{all_cards_of}
use Rattle.inventory.specs.Cards as Cards
use Rattle.inventory.specs.Card.{one_card_of}
use Rattle.inventory.specs.Card as Card
use Rattle.inventory.specs.Promises as Inventories
use Rattle.history.specs.History.{Call, AllTyped, State, cleared, run}
use Rattle.history.specs.Demands.{Holds, Finds, ListsExactly, Refuses}
use Rattle.history.specs.Longer.{longer, longer_holds}
use Rattle.history.specs.Complete.{check_exactly}
use Rattle.history.proofs.Kept.{run_holds}
use Rattle.history.proofs.Searched.{search_finds, check_done}
use Rattle.history.specs.Refused.{clear_refusal, clear_untouched, insert_refusal_lem, delete_refusal_lem}
use Rattle.history.specs.Refused.{search_untouched}
use Rattle.history.specs.Nearest.{FindsNearest}
use Rattle.history.proofs.Nearest.{nearest_finds, nearest_untouched}
use Rattle.history.specs.Inventory.{Lists, Tells}
use Rattle.history.proofs.Inventory.{cards_lists, card_tells, cards_untouched, card_untouched}

-- ---- demand 1: each call refuses by the first of its tests that holds, and a refused call leaves all as it was

module _ (l : List ℕ) where
  pub clear_refuses : Refuses ((not (right_size (length l)), SIZE) ∷ []) (clear_of l).refusal ((clear_of l).table ≡ l)
  clear_refuses = record { first = clear_refusal l; untouched = clear_untouched l }

  pub insert_refuses :
      (card kind arity : ℕ) (signature : List ℕ)
      → Refuses
      ((not (right_size (length l)), SIZE)
      ∷ (not (well_formed (records_in l) (record_of l)), TABLE)
      ∷ (not (known_change card arity && (known_kind kind && eqb (length signature) signature_length)), ARGUMENT)
      ∷ (other_kind (records_in l) (record_of l) kind, KIND)
      ∷ (ltb (slot_of_card (records_in l) (record_of l) card) (records_in l), TWICE)
      ∷ (leb (records_in l) (lowest_free (records_in l) (record_of l)), FULL)
      ∷ (leb last_timestamp (largest_timestamp (records_in l) (record_of l)), CLOCK)
      ∷ [])
      (insert_of l card kind arity signature).refusal
      (((insert_of l card kind arity signature).count ≡ 0) × ((insert_of l card kind arity signature).table ≡ l))
  unfolding Insert.refusal_of right_arguments
  insert_refuses card kind arity s =
      record {
        first = insert_refusal_lem l card kind arity s;
        untouched = Inserts.refused_touches_nothing l card kind arity s;
      }

  pub delete_refuses :
      (card arity : ℕ)
      → Refuses
      ((not (right_size (length l)), SIZE)
      ∷ (not (well_formed (records_in l) (record_of l)), TABLE)
      ∷ (not (known_change card arity), ARGUMENT)
      ∷ (leb (records_in l) (slot_of_card (records_in l) (record_of l) card), ABSENT)
      ∷ (clock_would_pass (records_of l) (slot_of_card (records_in l) (record_of l) card), CLOCK)
      ∷ [])
      (delete_of l card arity).refusal
      (((delete_of l card arity).count ≡ 0) × ((delete_of l card arity).table ≡ l))
  unfolding Delete.refusal_of
  delete_refuses card arity =
      record { first = delete_refusal_lem l card arity; untouched = Deletes.refused_touches_nothing l card arity }

  pub search_refuses :
      (kind : ℕ) (signature : List ℕ) (radius : ℕ) (list : List ℕ)
      → Refuses
      ((not (right_size (length l)), SIZE)
      ∷ (not (well_formed (records_in l) (record_of l)), TABLE)
      ∷ (not (known_kind kind && eqb (length signature) signature_length), ARGUMENT)
      ∷ (other_kind (records_in l) (record_of l) kind, KIND)
      ∷ (ltb (length list) (used_in (records_in l) (record_of l)), SHORT)
      ∷ [])
      (search_of l kind signature radius list).refusal
      (((search_of l kind signature radius list).count ≡ 0)
      × ((search_of l kind signature radius list).found ≡ 0)
      × ((search_of l kind signature radius list).list ≡ list))
  unfolding Search.refusal_of
  search_refuses kind s r list =
      record { first = refusal_is l kind s r list; untouched = search_untouched l kind s r list }

  pub nearest_refuses :
      (kind : ℕ) (signature : List ℕ) (k : ℕ) (list : List Pair)
      → Refuses
      ((not (right_size (length l)), SIZE)
      ∷ (not (well_formed (records_in l) (record_of l)), TABLE)
      ∷ (
        not ((known_kind kind && eqb (length signature) signature_length) && (leb 1 k && leb k most_nearest)),
        ARGUMENT,
      )
      ∷ (other_kind (records_in l) (record_of l) kind, KIND)
      ∷ (ltb (length list) k, SHORT)
      ∷ [])
      (nearest_of l kind signature k list).refusal
      (((nearest_of l kind signature k list).count ≡ 0)
      × ((nearest_of l kind signature k list).found ≡ 0)
      × ((nearest_of l kind signature k list).list ≡ list))
  unfolding Nearest.refusal_of
  nearest_refuses kind s k list =
      record { first = Nearests.refusal_is l kind s k list; untouched = nearest_untouched l kind s k list }

  -- check writes nothing and reports no count
  pub check_refuses :
      check_of l
      ≡ first_of
      ((not (right_size (length l)), SIZE)
      ∷ (not (well_formed (records_in l) (record_of l)), TABLE)
      ∷ (not (is_sound (records_in l) (record_of l)), LOOSE)
      ∷ [])
  unfolding check_of
  check_refuses = refl

  -- the two calls beyond the paper
  pub cards_refuses :
      (list : List ℕ)
      → Refuses
      ((not (right_size (length l)), SIZE)
      ∷ (not (well_formed (records_in l) (record_of l)), TABLE)
      ∷ (ltb (length list) (used_in (records_in l) (record_of l)), SHORT)
      ∷ [])
      (all_cards_of l list).refusal
      (((all_cards_of l list).found ≡ 0) × ((all_cards_of l list).list ≡ list))
  unfolding Cards.refusal_of
  cards_refuses list =
      record { first = Inventories.cards_refusal l list; untouched = cards_untouched l list }

  pub card_refuses :
      (card : ℕ) (row : List ℕ)
      → Refuses
      ((not (right_size (length l)), SIZE)
      ∷ (not (well_formed (records_in l) (record_of l)), TABLE)
      ∷ (eqb card 0, ARGUMENT)
      ∷ (leb (records_in l) (slot_of_card (records_in l) (record_of l) card), ABSENT)
      ∷ (ltb (length row) signature_length, SHORT)
      ∷ [])
      (one_card_of l card row).refusal
      (((one_card_of l card row).kind ≡ 0) × ((one_card_of l card row).row ≡ row))
  unfolding Card.refusal_of
  card_refuses card row =
      record { first = Inventories.card_refusal l card row; untouched = card_untouched l card row }

-- ---- demand 3: after every history of calls on a table of n records that starts cleared

module _ {n : ℕ} (some : 1 ≤ n) (small : n ≤ most_records) (calls : List Call) (typed : AllTyped calls) where
  -- the table and the stored cards that they lead to
  abbrev reached : State
  reached = run calls (cleared n)

  -- the table is well formed and sound, and its used records are exactly the stored cards
  pub history_holds : Holds n reached
  history_holds = run_holds some small calls typed

  -- free records behind the table give it more room and change nothing else, so that a history can go on in it
  pub history_longer : (k : ℕ) → Holds (n + k) (longer k reached)
  history_longer k = longer_holds k history_holds

  -- every accepted search lists each stored card within the radius once and no other, and compares none twice
  pub history_search :
      (kind : ℕ) (signature : List ℕ) (radius : ℕ) (list : List ℕ)
      → (search_of reached.table kind signature radius list).refusal ≡ done
      → Finds reached kind signature radius list (search_of reached.table kind signature radius list)
  history_search kind s r list = search_finds some small history_holds kind s r list

  -- a smaller radius never costs more distances, whatever lists are lent, where both searches are accepted; a refused
  -- one costs nothing
  pub history_narrower :
      (kind : ℕ) (signature : List ℕ) {r r' : ℕ} (list list' : List ℕ)
      → r ≤ r'
      → ((search_of reached.table kind signature r list).refusal ≡ done
      → (search_of reached.table kind signature r' list').refusal ≡ done)
      → (search_of reached.table kind signature r list).count
      ≤ (search_of reached.table kind signature r' list').count
  history_narrower kind s list list' h both = count_narrower reached.table kind s list list' h both

  -- every accepted nearest call lists exactly the first k of all stored cards, by distance and then by card, and
  -- compares none twice
  pub history_nearest :
      (kind : ℕ) (signature : List ℕ) (k : ℕ) (list : List Pair)
      → (nearest_of reached.table kind signature k list).refusal ≡ done
      → FindsNearest reached kind signature k list (nearest_of reached.table kind signature k list)
  history_nearest kind s k list = nearest_finds some small history_holds kind s k list

  -- check answers 0
  pub history_check : check_of reached.table ≡ done
  history_check = check_done some small history_holds

  -- every accepted `cards` lists each stored card once and no other
  pub history_cards :
      (list : List ℕ)
      → (all_cards_of reached.table list).refusal ≡ done
      → Lists reached list (all_cards_of reached.table list)
  history_cards list = cards_lists some small history_holds list

  -- `card` tells every stored card with what it was stored with, and refuses every other
  pub history_card :
      (card : ℕ) (row : List ℕ) → Tells reached card row (one_card_of reached.table card row)
  history_card card row = card_tells some small history_holds card row

-- ---- check, on any bytes: 0 exactly of a well-formed table of the right size on which every search lists exactly what
-- it should, so that "sound" means to a user that nothing is missed

pub check_means :
    (l : List ℕ)
    → Bytes l
    → check_of l ≡ done
    ↔ ((right_size (length l) ≡ true) × WellFormed (records_in l) (record_of l) × ListsExactly l)
check_means l bytes = check_exactly l bytes

-- ---- each contract fixes its outcome: two that it allows are equal

pub two_outcomes : {Outcome : Type 0} {one other fixed : Outcome} → one ≡ fixed → other ≡ fixed → one ≡ other
two_outcomes e f = e ∙ sym f

pub clear_fixed : (l : List ℕ) (o p : Cleared) → o ≡ clear_of l → p ≡ clear_of l → o ≡ p
clear_fixed l o p = two_outcomes

pub insert_fixed :
    (l : List ℕ) (card kind arity : ℕ) (signature : List ℕ) (o p : Outcome)
    → o ≡ insert_of l card kind arity signature
    → p ≡ insert_of l card kind arity signature
    → o ≡ p
insert_fixed l card kind arity s o p = two_outcomes

pub delete_fixed :
    (l : List ℕ) (card arity : ℕ) (o p : Outcome) → o ≡ delete_of l card arity → p ≡ delete_of l card arity → o ≡ p
delete_fixed l card arity o p = two_outcomes

pub search_fixed :
    (l : List ℕ) (kind : ℕ) (signature : List ℕ) (radius : ℕ) (list : List ℕ) (o p : Search.Outcome)
    → o ≡ search_of l kind signature radius list
    → p ≡ search_of l kind signature radius list
    → o ≡ p
search_fixed l kind s r list o p = two_outcomes

pub nearest_fixed :
    (l : List ℕ) (kind : ℕ) (signature : List ℕ) (k : ℕ) (list : List Pair) (o p : Nearest.Outcome)
    → o ≡ nearest_of l kind signature k list
    → p ≡ nearest_of l kind signature k list
    → o ≡ p
nearest_fixed l kind s k list o p = two_outcomes

pub check_fixed : (l : List ℕ) (o p : ℕ) → o ≡ check_of l → p ≡ check_of l → o ≡ p
check_fixed l o p = two_outcomes

pub cards_fixed :
    (l list : List ℕ) (o p : Cards.Outcome) → o ≡ all_cards_of l list → p ≡ all_cards_of l list → o ≡ p
cards_fixed l list o p = two_outcomes

pub card_fixed :
    (l : List ℕ) (card : ℕ) (row : List ℕ) (o p : Card.Outcome)
    → o ≡ one_card_of l card row
    → p ≡ one_card_of l card row
    → o ≡ p
card_fixed l card row o p = two_outcomes
