-- Where what is asked of a history holds, an accepted search finds what is asked (`search_finds`), and the check is
-- done (`check_done`). From what search promises of every sound table, whose records are told by the stored cards.
-- Assumes nothing.
use Rattle.std.specs.Prelude.{ℕ, ◌≤◌, ◌≡◌, refl, length}
use Rattle.std.proofs.Common.{sym, ap, subst, ◌∙◌, eq-eqb, ne_eqb}
use mathlib.Core.List.Memᴰ.{head as first}
use mathlib.Core.List.Memᴰ.{tail as later}
use mathlib.Core.List.{List, ◌∷◌, flat_map, Memᴰ}
use mathlib.Core.List.Memᴰ
use native.Mathlib.Omega.{arith}
use Rattle.std.proofs.Math.Decide.{ℕ_discrete}
use Rattle.std.proofs.lemmas.List.{length-map}
use Rattle.std.proofs.Math.Seq.{length-sets}
use Rattle.distance.specs.Signature.{readings_at}
use Rattle.table.specs.Record.{Record, Used, record_of}
use Rattle.refusals.specs.Limits.{most_records}
use Rattle.table.specs.Table.{records_in}
use Rattle.judge.specs.Decided.{formed_decided}
use Rattle.survey.specs.Survey.{used_in, root_of}
use Rattle.tree.specs.Slots.{◌∈◌, Distinct, distinct_length, flat_map_from, image_from, image_to, distinct_image}
use Rattle.tree.specs.View.{compared, Formed}
use Rattle.view.specs.View.{view_of}
use Rattle.refusals.specs.Refusal.{done}
use Rattle.newcomer.specs.Newcomer.{Newcomer, brought, brought_card}
use Rattle.view.specs.Shaped.{Shaped, shaped_bytes}
use Rattle.view.specs.Formed.{formed_view, used_within}
use Rattle.search.specs.Search.{entered, cards, compared_slots, listing, refusal_of, search_of}
use Rattle.search.specs.Tests.{accepted}
use Rattle.search.specs.Listing.{cards_fit}
use Rattle.search.specs.Laws.{accepted_is}
use Rattle.search.specs.Promises.{refusal_is, count_compared, compared_once, listed_once, listed_exactly, later_stay}
use Rattle.soundness.specs.Soundness.{check_of}
use Rattle.soundness.specs.Decided.{sound_decided}
use Rattle.history.specs.History.{State}
use Rattle.history.specs.Demands.{Holds, cards_of, compared_cards, Finds}
use Rattle.history.proofs.Holds.{sized, records_are}

-- ---- a table of n records after some calls

module _ {n : ℕ} (some : 1 ≤ n) (small : n ≤ most_records) {st : State} (h : Holds n st) where
  abbrev R : ℕ → Record
  R = record_of st.table

  shape : Shaped n R
  shape = shaped_bytes n st.table h.size

  formed : 1 ≤ used_in n R → Formed (view_of R) n (root_of n R)
  formed = formed_view small shape h.sound.well_formed

  -- a used record's card is stored, with what the record brought
  pub used_stored : (a : ℕ) → Used (R a) → Memᴰ (brought (R a)) st.stored
  used_stored a u = (h.stored (brought (R a))).0 (a, record { within = used_within shape a u; used = u; same = refl })

  -- ---- check

  pub check_done : check_of st.table ≡ done
  unfolding check_of
  check_done =
      rw (
        sized some small h,
        records_are h,
        (formed_decided n R).passes h.sound.well_formed,
        (sound_decided small shape h.sound.well_formed).passes h.sound,
      )

  -- ---- search

  compared_used : (kind : ℕ) (q : List ℕ) (r a : ℕ) → a ∈ compared_slots n R kind q r → Used (R a)
  unfolding compared_slots compared
  compared_used kind q r a i = elim (ℕ_discrete (used_in n R) 0) [
    | yes e ↦ absurd (Memᴰ.not-nil (rw (eq-eqb (used_in n R) 0 e) at i))
    | no ne ↦ on (formed (omega arith)) (entered n R kind q r) (rw (ne_eqb (used_in n R) 0 ne) at i)
  ]
    where
      on :
          {root : ℕ}
          → Formed (view_of R) n root
          → (es : List ℕ)
          → a ∈ (root ∷ flat_map (view_of R).children es)
          → Used (R a)
      on wf es (first e) = rw e wf.root_used
      on wf es (later j) = let z = flat_map_from (view_of R).children a es j in wf.child_used z.0 a z.2

  module _ (kind : ℕ) (s : List ℕ) (r : ℕ) (list : List ℕ)
      (e : (search_of st.table kind s r list).refusal ≡ done) where
    none : refusal_of st.table kind s (length list) ≡ done
    none = sym (refusal_is st.table kind s r list) ∙ e

    abbrev slots : List ℕ
    slots = compared_slots (records_in st.table) R kind (readings_at s 0) r

    slot_used : (a : ℕ) → a ∈ slots → Used (R a)
    slot_used a i = compared_used kind (readings_at s 0) r a (rw (records_are h) at i)

    slots_card : Distinct (compared_cards st.table kind s r)
    slots_card =
        distinct_image (λ a. (R a).card) slots
        (λ a b i j.
        let u = slot_used a i in
        let w = slot_used b j in
        h.sound.well_formed.cards a b (used_within shape a u) (used_within shape b w) u w)
        (compared_once st.table kind s r list none)

    slots_stored : (c : ℕ) → c ∈ compared_cards st.table kind s r → c ∈ cards_of st.stored
    slots_stored c i =
        let z = image_from (λ (a : ℕ). (R a).card) c slots i in
        subst (λ (k : ℕ). k ∈ cards_of st.stored) (sym z.2)
        (image_to (λ (x : Newcomer). x.card) (brought (R z.0)) st.stored
        (used_stored z.0 (slot_used z.0 z.1)))

    count : (search_of st.table kind s r list).count ≡ length (compared_cards st.table kind s r)
    count = count_compared st.table kind s r list none ∙ sym (length-map slots (λ (a : ℕ). (R a).card))

    fits : (search_of st.table kind s r list).found ≤ length (search_of st.table kind s r list).list
    unfolding listing
    fits =
        let k = records_in st.table in
        let cs = cards k R kind (readings_at s 0) r in
        let seen : 1 ≤ used_in k R → Formed (view_of R) k (root_of k R) = rw (records_are h) formed in
        rw (accepted_is st.table kind s r list none, length-sets list 0 cs)
        (omega (
          arith,
          cards_fit k R kind (readings_at s 0) r seen,
          (accepted st.table kind s (length list) none).room,
        ))

    pub search_finds : Finds st kind s r list (search_of st.table kind s r list)
    search_finds =
        record {
          room = fits;
          exactly =
              λ c.
              let both = listed_exactly st.table kind s r list none h.bytes (rw (records_are h) h.sound) c in (
                λ i.
                    let w = both.0 i in
                    (brought (R w.0), used_stored w.0 w.1, w.2, w.3),
                λ w.
                    let z = (h.stored w.0).1 w.1 in
                    let a = z.0 in
                    let reads : (R a).readings ≡ w.0.readings = ap (λ (x : Newcomer). x.readings) z.1.same in
                    both.1 (a, z.1.used, brought_card (R a) w.0 z.1.same ∙ w.2, rw reads w.3),
              );
          listed_once = listed_once st.table kind s r list none;
          later = later_stay st.table kind s r list none;
          compared_once = slots_card;
          compared_stored = slots_stored;
          count_is = count;
          count_most =
              omega (
                arith,
                count,
                distinct_length (compared_cards st.table kind s r) (cards_of st.stored) slots_card slots_stored,
                length-map st.stored (λ (x : Newcomer). x.card),
              );
        }
