-- What the two calls promise of the outcomes that their contracts fix: refusals, and on a well-formed table the cards
-- of the used records, and what one of them was stored with. Assumes nothing.
use Rattle.std.specs.Prelude.{ℕ, ◌≤◌, ◌≡◌, ◌↔◌, List, take, drop}
use Rattle.std.proofs.Common.{sym, subst, ◌∙◌, arith}
use Rattle.std.proofs.Math.Path.{ap}
use Rattle.std.proofs.Math.Decide.{ℕ_discrete}
use Rattle.std.proofs.Math.ListN.{length}
use Rattle.std.proofs.Math.Seq.{take-append_seam, drop-append_seam}
use Rattle.places.specs.Fill.{from_start}
use Rattle.number.specs.Frame.{Bytes}
use Rattle.distance.specs.Signature.{readings_at}
use Rattle.refusals.specs.Limits.{signature_length}
use Rattle.refusals.specs.Refusal.{done}
use Rattle.table.specs.Record.{Used, record_of}
use Rattle.table.specs.Table.{records_in}
use Rattle.table.specs.Fitting.{record_fits}
use Rattle.table.specs.Same.{readings_length_of}
use Rattle.survey.specs.Survey.{used_in, slot_of_card}
use Rattle.survey.specs.Laws.{slot_has_card}
use Rattle.tree.specs.Slots.{◌∈◌, Distinct}
use Rattle.view.specs.Formed.{used_within}
use Rattle.view.specs.Readable.{readable_formed, readable_shaped}
use Rattle.inventory.specs.Cards as Cards
use Rattle.inventory.specs.Cards.{cards_in, listing, all_cards_of}
use Rattle.inventory.specs.Card as Card
use Rattle.inventory.specs.Card.{telling, one_card_of}
use Rattle.inventory.specs.Tests.{cards_accepted, cards_refused, cards_readable, cards_room}
use Rattle.inventory.specs.Tests.{card_accepted, card_refused, card_readable, card_some, card_within, card_room}
use Rattle.inventory.specs.Listing.{cards_length, cards_from, cards_to, cards_distinct}
use Rattle.inventory.specs.Row.{row_read, row_later}

-- ---- all cards, of the table l and a lent list

module _ (l : List ℕ) (list : List ℕ) where
  -- for every input: the refusal is the number of the first test that holds, 0 if none does
  pub cards_refusal : (all_cards_of l list).refusal ≡ Cards.refusal_of l (length list)
  unfolding listing
  cards_refusal = elim (ℕ_discrete (Cards.refusal_of l (length list)) done) [
    | yes e ↦ rw (cards_accepted l list e) (sym e)
    | no n ↦ rw (cards_refused l list n)
  ]

  -- and a refused call leaves all
  pub cards_untouched :
      (Cards.refusal_of l (length list) ≡ done → ⊥)
      → all_cards_of l list ≡ Cards.outcome (Cards.refusal_of l (length list)) 0 list
  cards_untouched n = cards_refused l list n

  module _ (e : Cards.refusal_of l (length list) ≡ done) where
    -- the cards listed: the list's first entries, as many as are found
    abbrev listed_by : List ℕ
    listed_by = take (all_cards_of l list).found (all_cards_of l list).list

    abbrev stored : List ℕ
    stored = cards_in (records_in l) (record_of l)

    fits : length stored ≤ length list
    fits = omega (arith, cards_length (record_of l) (records_in l), cards_room l list e)

    listed_cards : listed_by ≡ stored
    unfolding listing
    listed_cards =
        rw (cards_accepted l list e, from_start stored list fits)
        (take-append_seam stored (drop (length stored) list))

    -- as many are found as records are used
    pub found_used : (all_cards_of l list).found ≡ used_in (records_in l) (record_of l)
    unfolding listing
    found_used = rw (cards_accepted l list e) (cards_length (record_of l) (records_in l))

    pub listed_length : length listed_by ≡ (all_cards_of l list).found
    unfolding listing
    listed_length = ap length listed_cards ∙ rw (cards_accepted l list e)

    -- they are the cards of the used records, and no other
    pub listed_exactly :
        (c : ℕ) → c ∈ listed_by ↔ ((a : ℕ) × Used (record_of l a) × ((record_of l a).card ≡ c))
    listed_exactly c =
        rw listed_cards (
          (λ i. let z = cards_from (record_of l) (records_in l) c i in (z.0, z.2, z.3)),
          (λ w.
              let within = used_within (readable_shaped (cards_readable l list e)) w.0 w.1 in
              subst (λ (k : ℕ). k ∈ stored) w.2 (cards_to (record_of l) (records_in l) w.0 within w.1)),
        )

    -- each once
    pub listed_once : Distinct listed_by
    listed_once =
        rw listed_cards
        (cards_distinct (record_of l) (records_in l) (readable_formed (cards_readable l list e)).cards)

    -- later entries stay
    pub later_stay :
        drop (all_cards_of l list).found (all_cards_of l list).list ≡ drop (all_cards_of l list).found list
    unfolding listing
    later_stay =
        rw (cards_accepted l list e, from_start stored list fits)
        (drop-append_seam stored (drop (length stored) list))

-- ---- one card, of the table l and a lent row

module _ (l : List ℕ) (card : ℕ) (row : List ℕ) where
  -- for every input: the refusal is the number of the first test that holds, 0 if none does
  pub card_refusal : (one_card_of l card row).refusal ≡ Card.refusal_of l card (length row)
  unfolding telling
  card_refusal = elim (ℕ_discrete (Card.refusal_of l card (length row)) done) [
    | yes e ↦ rw (card_accepted l card row e) (sym e)
    | no n ↦ rw (card_refused l card row n)
  ]

  -- and a refused call leaves all
  pub card_untouched :
      (Card.refusal_of l card (length row) ≡ done → ⊥)
      → one_card_of l card row ≡ Card.outcome (Card.refusal_of l card (length row)) 0 row
  card_untouched n = card_refused l card row n

  module _ (e : Card.refusal_of l card (length row) ≡ done) where
    abbrev holder : ℕ
    holder = slot_of_card (records_in l) (record_of l) card

    holds : (record_of l holder).card ≡ card
    holds = slot_has_card (records_in l) (record_of l) card (card_within l card row e)

    used_by : (a : ℕ) → (record_of l a).card ≡ card → Used (record_of l a)
    used_by a same = some (record_of l a).card same (card_some l card row e)
      where
        some : (k : ℕ) → k ≡ card → (card ≡ 0 → ⊥) → 1 ≤ k
        some k is ne = omega arith

    -- a record holds the card
    pub card_held : (a : ℕ) × Used (record_of l a) × ((record_of l a).card ≡ card)
    card_held = (holder, used_by holder holds, holds)

    -- and no other does
    one_holder : (a : ℕ) → (record_of l a).card ≡ card → holder ≡ a
    one_holder a same =
        let ok = card_readable l card row e in
        let u = used_by a same in
        (readable_formed ok).cards holder a (card_within l card row e) (used_within (readable_shaped ok) a u)
        (used_by holder holds) u (holds ∙ sym same)

    -- the kind told is the record's
    pub kind_held : (a : ℕ) → (record_of l a).card ≡ card → (one_card_of l card row).kind ≡ (record_of l a).kind
    unfolding telling
    kind_held a same =
        rw (card_accepted l card row e) (ap (λ (s : ℕ). (record_of l s).kind) (one_holder a same))

    -- so is the signature in the row
    pub readings_held :
        Bytes l
        → (a : ℕ)
        → (record_of l a).card ≡ card
        → readings_at (one_card_of l card row).row 0 ≡ (record_of l a).readings
    unfolding telling
    readings_held bytes a same =
        let fit = record_fits l holder bytes in
        rw (card_accepted l card row e)
        (row_read row (record_of l holder).readings fit.sixteen fit.readings (card_room l card row e)
        ∙ ap (λ (s : ℕ). (record_of l s).readings) (one_holder a same))

    -- later bytes stay
    pub later_bytes_stay : drop signature_length (one_card_of l card row).row ≡ drop signature_length row
    unfolding telling
    later_bytes_stay =
        rw (card_accepted l card row e)
        (row_later row (record_of l holder).readings (readings_length_of l holder) (card_room l card row e))
