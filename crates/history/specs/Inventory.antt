-- What is asked of `cards` and `card` after a history: they list exactly the stored cards, and tell what each was
-- stored with.
use Rattle.std.specs.Prelude.{ℕ, ◌≤◌, ◌≡◌, ◌↔◌, length, take, drop}
use mathlib.Core.List.{List, Memᴰ}
use Rattle.distance.specs.Signature.{readings_at}
use Rattle.refusals.specs.Limits.{signature_length}
use Rattle.refusals.specs.Refusal.{ABSENT, done}
use Rattle.tree.specs.Slots.{◌∈◌, Distinct}
use Rattle.newcomer.specs.Newcomer.{newcomer}
use Rattle.inventory.specs.Cards as Cards
use Rattle.inventory.specs.Card as Card
use Rattle.history.specs.History.{State}
use Rattle.history.specs.Demands.{cards_of}

-- the outcome o of `cards` in the state st, lent this list
pub record Lists (st : State) (list : List ℕ) (o : Cards.Outcome) : Type 0 where
  -- the cards listed are the stored cards, and no other
  pub exactly : (c : ℕ) → c ∈ take o.found o.list ↔ c ∈ cards_of st.stored
  -- each once
  pub listed_once : Distinct (take o.found o.list)
  -- as many are found as are stored
  pub found_is : o.found ≡ length st.stored
  -- later entries stay
  pub later : drop o.found o.list ≡ drop o.found list

-- the outcome o of `card` in the state st, for this card, lent this row
pub record Tells (st : State) (card : ℕ) (row : List ℕ) (o : Card.Outcome) : Type 0 where
  -- a card that is told is stored, with the kind and the signature that are told
  pub as_stored : o.refusal ≡ done → Memᴰ (newcomer card o.kind (readings_at o.row 0)) st.stored
  -- later bytes stay
  pub later : o.refusal ≡ done → drop signature_length o.row ≡ drop signature_length row
  -- a stored card is told, if the row has room for its signature
  pub present : signature_length ≤ length row → card ∈ cards_of st.stored → o.refusal ≡ done
  -- one that is not stored is refused for that
  pub absent : (card ≡ 0 → ⊥) → (card ∈ cards_of st.stored → ⊥) → o.refusal ≡ ABSENT
