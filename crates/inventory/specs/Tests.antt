-- The refusals of both calls by their tests, one after the other as the code takes them, and what they have shown of a
-- call that passes them all. Assumes nothing.
use Rattle.std.specs.Prelude.{ℕ, ◌≤◌, ◌<◌, ◌≡◌, ◌||◌, eqb, leb, length}
use Rattle.std.proofs.Math.Path.{refl, sym, ap, ap₂}
use Rattle.std.proofs.Common.{◌∙◌, arith}
use Rattle.std.proofs.Math.Bool.{false}
use mathlib.Core.List.{List, [], ◌∷◌}
use Rattle.std.proofs.Math.Dec.{ltb}
use Rattle.std.proofs.lemmas.List.Edits.{sets}
use borrow.Author.Tests.{eq-eqb, ne_eqb, lt-ltb, le-ltb, le-leb, lt-leb, ltb-false, leb-false, eqb-false}
use Rattle.places.specs.Choice.{pick, or_left, or_right}
use Rattle.places.specs.Cases.{below_or}
use Rattle.refusals.specs.Refusal.{Test, ARGUMENT, ABSENT, SHORT, first_of, done}
use Rattle.refusals.specs.First.{first_none}
use Rattle.refusals.specs.Limits.{signature_length}
use Rattle.table.specs.Record.{Record, record_of}
use Rattle.table.specs.Table.{records_in}
use Rattle.survey.specs.Survey.{used_in, slot_of_card}
use Rattle.writing.specs.Put.{put_readings}
use Rattle.judge.specs.Readable.{Readable}
use Rattle.admission.specs.Admission.{admission_tests, admitted_readable, table_refuses, own_first, table_passes}
use Rattle.inventory.specs.Cards as Cards
use Rattle.inventory.specs.Cards.{cards_in, listing, all_cards_of}
use Rattle.inventory.specs.Card as Card
use Rattle.inventory.specs.Card.{card_tests, telling, one_card_of}
use Rattle.inventory.specs.Listing.{cards_length}
use Rattle.inventory.specs.Row.{row_laid}

-- ---- all cards

module _ (l : List ℕ) (list : List ℕ) where
  pub cards_accepted :
      Cards.refusal_of l (length list) ≡ done
      → all_cards_of l list ≡ listing (cards_in (records_in l) (record_of l)) list
  unfolding all_cards_of
  cards_accepted e = rw (eq-eqb _ _ e)

  pub cards_refused :
      (Cards.refusal_of l (length list) ≡ done → ⊥)
      → all_cards_of l list ≡ Cards.outcome (Cards.refusal_of l (length list)) 0 list
  unfolding all_cards_of Cards.refused
  cards_refused n = rw (ne_eqb _ _ n)

  cards_given :
      {k : ℕ}
      → Cards.refusal_of l (length list) ≡ k
      → (k ≡ done → ⊥)
      → Cards.outcome k 0 list ≡ all_cards_of l list
  cards_given e n = sym (cards_refused (λ z. n (sym e ∙ z)) ∙ ap (λ (k : ℕ). Cards.outcome k 0 list) e)

  abbrev own_tests : List Test
  own_tests = (ltb (length list) (used_in (records_in l) (record_of l)), SHORT) ∷ []

  -- by the table's size or form
  pub cards_lent :
      (k : ℕ) → k ≡ first_of (admission_tests l) → (k ≡ done → ⊥) → Cards.outcome k 0 list ≡ all_cards_of l list
  unfolding Cards.refusal_of
  cards_lent k e n = cards_given (table_refuses l own_tests (λ z. n (e ∙ z)) ∙ sym e) n

  -- by the list's room
  pub cards_short :
      first_of (admission_tests l) ≡ done
      → length list < used_in (records_in l) (record_of l)
      → Cards.outcome SHORT 0 list ≡ all_cards_of l list
  unfolding Cards.refusal_of
  cards_short e h = cards_given (own_first l own_tests e ∙ rw (lt-ltb _ _ h)) (λ z. omega (arith, z))

  -- by none
  pub cards_pass :
      first_of (admission_tests l) ≡ done
      → used_in (records_in l) (record_of l) ≤ length list
      → Cards.refusal_of l (length list) ≡ done
  unfolding Cards.refusal_of
  cards_pass e h = own_first l own_tests e ∙ rw (le-ltb _ _ h)

  -- and then all used records' cards are listed
  pub cards_done :
      first_of (admission_tests l) ≡ done
      → (k : ℕ)
      → k ≡ used_in (records_in l) (record_of l)
      → k ≤ length list
      → (after : List ℕ)
      → after ≡ sets list 0 (cards_in (records_in l) (record_of l))
      → Cards.outcome done k after ≡ all_cards_of l list
  unfolding listing
  cards_done e k many room after laid =
      ap₂ (λ (n : ℕ) (m : List ℕ). Cards.outcome done n m) (many ∙ sym (cards_length (record_of l) (records_in l))) laid
      ∙ sym (cards_accepted (cards_pass e (omega (arith, many, room))))

  module _ (e : Cards.refusal_of l (length list) ≡ done) where
    cards_admitted : first_of (admission_tests l) ≡ done
    unfolding Cards.refusal_of
    cards_admitted = table_passes l own_tests e

    pub cards_readable : Readable l
    cards_readable = admitted_readable l cards_admitted

    pub cards_room : used_in (records_in l) (record_of l) ≤ length list
    unfolding Cards.refusal_of
    cards_room =
        let short = ltb (length list) (used_in (records_in l) (record_of l)) in
        let none = first_none own_tests refl (sym (own_first l own_tests cards_admitted) ∙ e) in
        ltb-false (length list) (used_in (records_in l) (record_of l)) (or_left short false none)

-- ---- one card

-- what the call does with the record r that holds the card
unfoldable pub telling_at : Record → List ℕ → Card.Outcome
telling_at r row = pick (ltb (length row) signature_length) (Card.refused SHORT row) (telling r row)

module _ (r : Record) (row : List ℕ) where
  pub telling_short : length row < signature_length → Card.outcome SHORT 0 row ≡ telling_at r row
  unfolding telling_at Card.refused
  telling_short h = sym (rw (lt-ltb _ _ h))

  pub telling_long : signature_length ≤ length row → telling r row ≡ telling_at r row
  unfolding telling_at
  telling_long h = sym (rw (le-ltb _ _ h))

  pub telling_done :
      signature_length ≤ length row
      → length r.readings ≡ 16
      → (kind : ℕ) (vs after : List ℕ)
      → kind ≡ r.kind
      → vs ≡ r.readings
      → after ≡ put_readings 16 row 0 vs
      → Card.outcome done kind after ≡ telling_at r row
  unfolding telling
  telling_done room sixteen kind vs after k v put =
      ap₂ (λ (n : ℕ) (m : List ℕ). Card.outcome done n m) k
      (put ∙ ap (put_readings 16 row 0) v ∙ row_laid row r.readings sixteen)
      ∙ telling_long room

module _ (l : List ℕ) (card : ℕ) (row : List ℕ) where
  abbrev v : ℕ
  v = slot_of_card (records_in l) (record_of l) card

  abbrev asked : List Test
  asked = card_tests l card (length row)

  pub card_accepted : Card.refusal_of l card (length row) ≡ done → one_card_of l card row ≡ telling (record_of l v) row
  unfolding one_card_of
  card_accepted e = rw (eq-eqb _ _ e)

  pub card_refused :
      (Card.refusal_of l card (length row) ≡ done → ⊥)
      → one_card_of l card row ≡ Card.outcome (Card.refusal_of l card (length row)) 0 row
  unfolding one_card_of Card.refused
  card_refused n = rw (ne_eqb _ _ n)

  card_given :
      {k : ℕ}
      → Card.refusal_of l card (length row) ≡ k
      → (k ≡ done → ⊥)
      → Card.outcome k 0 row ≡ one_card_of l card row
  card_given e n = sym (card_refused (λ z. n (sym e ∙ z)) ∙ ap (λ (k : ℕ). Card.outcome k 0 row) e)

  -- by the table's size or form
  pub card_lent :
      (k : ℕ) → k ≡ first_of (admission_tests l) → (k ≡ done → ⊥) → Card.outcome k 0 row ≡ one_card_of l card row
  unfolding Card.refusal_of
  card_lent k e n = card_given (table_refuses l asked (λ z. n (e ∙ z)) ∙ sym e) n

  module _ (admitted : first_of (admission_tests l) ≡ done) where
    own : Card.refusal_of l card (length row) ≡ first_of asked
    unfolding Card.refusal_of
    own = own_first l asked admitted

    -- by the card's number
    pub card_none : card ≡ 0 → Card.outcome ARGUMENT 0 row ≡ one_card_of l card row
    card_none z = card_given (own ∙ rw (eq-eqb card 0 z)) (λ y. omega (arith, y))

    module _ (some : card ≡ 0 → ⊥) where
      -- since the card is not stored
      pub absent_is : records_in l ≤ v → Card.refusal_of l card (length row) ≡ ABSENT
      absent_is h = own ∙ rw (ne_eqb card 0 some, le-leb _ _ h)

      pub card_absent : records_in l ≤ v → Card.outcome ABSENT 0 row ≡ one_card_of l card row
      card_absent h = card_given (absent_is h) (λ y. omega (arith, y))

      pub present_is : v < records_in l → signature_length ≤ length row → Card.refusal_of l card (length row) ≡ done
      present_is h room = own ∙ rw (ne_eqb card 0 some, lt-leb _ _ h, le-ltb _ _ room)

      short_is : v < records_in l → length row < signature_length → Card.refusal_of l card (length row) ≡ SHORT
      short_is h room = own ∙ rw (ne_eqb card 0 some, lt-leb _ _ h, lt-ltb _ _ room)

      -- by the row's room, or not at all
      pub card_present : v < records_in l → telling_at (record_of l v) row ≡ one_card_of l card row
      card_present h =
          below_or
          (length row)
          signature_length
          (λ room.
          sym (telling_short (record_of l v) row room) ∙ card_given (short_is h room) (λ y. omega (arith, y)))
          (λ room. sym (telling_long (record_of l v) row room) ∙ sym (card_accepted (present_is h room)))

  module _ (e : Card.refusal_of l card (length row) ≡ done) where
    card_admitted : first_of (admission_tests l) ≡ done
    unfolding Card.refusal_of
    card_admitted = table_passes l asked e

    pub card_readable : Readable l
    card_readable = admitted_readable l card_admitted

    none_holds : eqb card 0 || (leb (records_in l) v || (ltb (length row) signature_length || false)) ≡ false
    none_holds = first_none asked refl (sym (own card_admitted) ∙ e)

    pub card_some : card ≡ 0 → ⊥
    card_some = eqb-false card 0 (or_left _ _ none_holds)

    pub card_within : v < records_in l
    card_within = leb-false (records_in l) v (or_left _ _ (or_right (eqb card 0) _ none_holds))

    pub card_room : signature_length ≤ length row
    card_room =
        ltb-false (length row) signature_length
        (or_left _ false (or_right (leb (records_in l) v) _ (or_right (eqb card 0) _ none_holds)))
