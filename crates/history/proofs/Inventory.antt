-- Where what is asked of a history holds, `cards` lists exactly the stored cards (`cards_lists`), and `card` tells what
-- each was stored with (`card_tells`). From what the two calls promise of every well-formed table, whose records are
-- told by the stored cards. Assumes nothing.
use Rattle.std.specs.Prelude.{ℕ, ◌≤◌, ◌<◌, ◌≡◌, refl, length, take}
use Rattle.std.proofs.Common.{sym, subst, ◌∙◌, arith}
use mathlib.Core.List.{List, Memᴰ}
use Rattle.std.proofs.lemmas.List.{length-map}
use Rattle.places.specs.Cases.{below_or}
use Rattle.distance.specs.Signature.{readings_at}
use Rattle.refusals.specs.Limits.{most_records, signature_length}
use Rattle.refusals.specs.Refusal.{ABSENT, first_of, done}
use Rattle.table.specs.Record.{Record, Used, record_of}
use Rattle.table.specs.Table.{records_in}
use Rattle.judge.specs.Decided.{formed_decided}
use Rattle.survey.specs.Survey.{slot_of_card}
use Rattle.survey.specs.Laws.{slot_has_card, no_card_before}
use Rattle.tree.specs.Slots.{◌∈◌, distinct_length, image_from, image_to}
use Rattle.newcomer.specs.Newcomer.{Newcomer, newcomer, brought, brought_is, brought_card}
use Rattle.view.specs.Shaped.{Shaped, shaped_bytes}
use Rattle.view.specs.Formed.{used_within}
use Rattle.admission.specs.Admission.{admission_tests}
use Rattle.inventory.specs.Cards as Cards
use Rattle.inventory.specs.Cards.{all_cards_of}
use Rattle.inventory.specs.Card as Card
use Rattle.inventory.specs.Card.{one_card_of}
use Rattle.inventory.specs.Tests.{absent_is, present_is}
use Rattle.inventory.specs.Promises.{cards_refusal, listed_length, listed_exactly, listed_once, later_stay}
use Rattle.inventory.specs.Promises.{card_refusal, card_held, kind_held, readings_held, later_bytes_stay}
use Rattle.inventory.specs.Promises as Inventories
use Rattle.history.specs.History.{State}
use Rattle.history.specs.Demands.{Holds, cards_of}
use Rattle.history.specs.Inventory.{Lists, Tells}
use Rattle.history.proofs.Holds.{sized, records_are}

-- ---- refused

pub cards_untouched :
    (l list : List ℕ)
    → ((all_cards_of l list).refusal ≡ done → ⊥)
    → ((all_cards_of l list).found ≡ 0) × ((all_cards_of l list).list ≡ list)
cards_untouched l list ne = rw (Inventories.cards_untouched l list (λ e. ne (cards_refusal l list ∙ e))) (refl, refl)

pub card_untouched :
    (l : List ℕ) (card : ℕ) (row : List ℕ)
    → ((one_card_of l card row).refusal ≡ done → ⊥)
    → ((one_card_of l card row).kind ≡ 0) × ((one_card_of l card row).row ≡ row)
card_untouched l card row ne =
    rw (Inventories.card_untouched l card row (λ e. ne (card_refusal l card row ∙ e))) (refl, refl)

-- ---- a table of n records after some calls

module _ {n : ℕ} (some : 1 ≤ n) (small : n ≤ most_records) {st : State} (h : Holds n st) where
  abbrev R : ℕ → Record
  R = record_of st.table

  shape : Shaped n R
  shape = shaped_bytes n st.table h.size

  -- a used record's card is stored, with what the record brought; and a stored card stands in a used record
  used_stored : (a : ℕ) → Used (R a) → Memᴰ (brought (R a)) st.stored
  used_stored a u = (h.stored (brought (R a))).0 (a, record { within = used_within shape a u; used = u; same = refl })

  card_stored : (a : ℕ) → Used (R a) → (R a).card ∈ cards_of st.stored
  card_stored a u = image_to (λ (x : Newcomer). x.card) (brought (R a)) st.stored (used_stored a u)

  stored_used : (c : ℕ) → c ∈ cards_of st.stored → (a : ℕ) × (a < n) × Used (R a) × ((R a).card ≡ c)
  stored_used c i =
      let x = image_from (λ (x : Newcomer). x.card) c st.stored i in
      let z = (h.stored x.0).1 x.1 in
      (z.0, z.1.within, z.1.used, brought_card (R z.0) x.0 z.1.same ∙ sym x.2)

  -- such a table is admitted
  admitted : first_of (admission_tests st.table) ≡ done
  admitted = rw (sized some small h, records_are h, (formed_decided n R).passes h.sound.well_formed)

  -- ---- all cards

  module _ (list : List ℕ) (e : (all_cards_of st.table list).refusal ≡ done) where
    none : Cards.refusal_of st.table (length list) ≡ done
    none = sym (cards_refusal st.table list) ∙ e

    abbrev listed : List ℕ
    listed = take (all_cards_of st.table list).found (all_cards_of st.table list).list

    from : (c : ℕ) → c ∈ listed → c ∈ cards_of st.stored
    from c i =
        let w = (listed_exactly st.table list none c).0 i in
        subst (λ (k : ℕ). k ∈ cards_of st.stored) w.2 (card_stored w.0 w.1)

    to : (c : ℕ) → c ∈ cards_of st.stored → c ∈ listed
    to c i = let w = stored_used c i in (listed_exactly st.table list none c).1 (w.0, w.2, w.3)

    pub cards_lists : Lists st list (all_cards_of st.table list)
    cards_lists =
        let once = listed_once st.table list none in
        record {
          exactly = λ c. (from c, to c);
          listed_once = once;
          found_is =
              omega (
                arith,
                listed_length st.table list none,
                distinct_length listed (cards_of st.stored) once from,
                distinct_length (cards_of st.stored) listed h.once to,
                length-map st.stored (λ (x : Newcomer). x.card),
              );
          later = later_stay st.table list none;
        }

  -- ---- one card

  module _ (card : ℕ) (row : List ℕ) where
    abbrev v : ℕ
    v = slot_of_card (records_in st.table) R card

    refusal_is :
        (k : ℕ) → Card.refusal_of st.table card (length row) ≡ k → (one_card_of st.table card row).refusal ≡ k
    refusal_is k e = card_refusal st.table card row ∙ e

    as_stored :
        (one_card_of st.table card row).refusal ≡ done
        → Memᴰ
        (newcomer card (one_card_of st.table card row).kind (readings_at (one_card_of st.table card row).row 0))
        st.stored
    as_stored e =
        let none = sym (card_refusal st.table card row) ∙ e in
        let w = card_held st.table card row none in
        let told =
        newcomer card (one_card_of st.table card row).kind (readings_at (one_card_of st.table card row).row 0) in
        let same : brought (R w.0) ≡ told =
        brought_is (R w.0) told w.2
        (sym (kind_held st.table card row none w.0 w.2))
        (sym (readings_held st.table card row none h.bytes w.0 w.2)) in
        subst (λ (x : Newcomer). Memᴰ x st.stored) same (used_stored w.0 w.1)

    present :
        signature_length ≤ length row
        → card ∈ cards_of st.stored
        → (one_card_of st.table card row).refusal ≡ done
    present room i =
        let w = stored_used card i in
        let within : v < records_in st.table =
        below_or v (records_in st.table) (λ b. b)
        (λ b.
        absurd (no_card_before (records_in st.table) R card w.0 (omega (arith, w.1, records_are h)) w.3)) in
        refusal_is done (present_is st.table card row admitted (λ z. omega (arith, w.2, w.3, z)) within room)

    absent : (card ≡ 0 → ⊥) → (card ∈ cards_of st.stored → ⊥) → (one_card_of st.table card row).refusal ≡ ABSENT
    absent numbered missing =
        below_or v (records_in st.table)
        (λ b.
        let has = slot_has_card (records_in st.table) R card b in
        let u : Used (R v) = at_least_1 card numbered (R v).card has in
        absurd (missing (subst (λ (k : ℕ). k ∈ cards_of st.stored) has (card_stored v u))))
        (λ b. refusal_is ABSENT (absent_is st.table card row admitted numbered b))
      where
        at_least_1 : (c : ℕ) → (c ≡ 0 → ⊥) → (k : ℕ) → k ≡ c → 1 ≤ k
        at_least_1 c n k same = omega arith

    pub card_tells : Tells st card row (one_card_of st.table card row)
    card_tells =
        record {
          as_stored = as_stored;
          later = λ e. later_bytes_stay st.table card row (sym (card_refusal st.table card row) ∙ e);
          present = present;
          absent = absent;
        }
