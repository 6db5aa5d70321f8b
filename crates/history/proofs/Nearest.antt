-- Where what is asked of a history holds, an accepted nearest call lists exactly the first k of all stored cards
-- (`nearest_finds`). From what the call promises of every sound table, whose records are told by the stored cards.
-- Assumes nothing.
use Rattle.std.specs.Prelude.{ℕ, ◌≤◌, min, ◌≡◌, refl, Bool, length, take}
use Rattle.std.proofs.Common.{sym, subst, ◌∙◌, arith}
use Rattle.std.proofs.Math.Path.{ap}
use mathlib.Core.List.Memᴰ.{head as first}
use mathlib.Core.List.Memᴰ.{tail as later}
use mathlib.Core.List.{List, [], ◌∷◌, map, Memᴰ}
use Rattle.std.proofs.lemmas.List.{length-map}
use Rattle.places.specs.Image.{take_map, map_map}
use Rattle.distance.specs.Signature.{readings_at}
use Rattle.distance.specs.Kind.{apart}
use Rattle.refusals.specs.Limits.{most_records}
use Rattle.refusals.specs.Refusal.{done}
use Rattle.pairs.specs.declared.Pair.{Pair}
use Rattle.table.specs.Record.{Record, Used, record_of}
use Rattle.table.specs.Table.{records_in}
use Rattle.survey.specs.Survey.{used_in}
use Rattle.tree.specs.Slots.{◌∈◌, Distinct, distinct_length, image_from, image_to, distinct_image}
use Rattle.tree.specs.Sorted.{sort_by}
use Rattle.tree.specs.Sorted.Laws.{Ascends, Orders, sort_by_from, sort_by_to, sort_by_length}
use Rattle.tree.specs.Sorted.Laws.{put_by_ascends, sort_by_ascends, ascends_same}
use Rattle.tree.specs.View.Count.{used_slots, used_slots_from, used_slots_to, used_slots_distinct, used_slots_length}
use Rattle.tree.specs.Nearest.{nearer, nearest_first}
use Rattle.tree.proofs.Nearest.Order.{ahead_orders}
use Rattle.view.specs.View.{view_of}
use Rattle.view.specs.Survey.{used_in_used_count}
use Rattle.newcomer.specs.Newcomer.{Newcomer, brought}
use Rattle.nearest.specs.Nearest.{pair, compared_slots, refusal_of, nearest_of}
use Rattle.nearest.proofs.Promises as Nearests
use Rattle.view.specs.Sound.{SoundTable}
use Rattle.view.specs.Shaped.{Shaped, shaped_bytes}
use Rattle.view.specs.Formed.{used_within}
use Rattle.history.specs.History.{State}
use Rattle.history.proofs.Holds.{records_are}
use Rattle.history.proofs.Searched.{used_stored}
use Rattle.history.specs.Demands.{Holds, cards_of}
use Rattle.history.specs.Nearest.{closer, nearest_stored, nearest_compared, FindsNearest}

-- ---- refused

pub nearest_untouched :
    (l : List ℕ) (kind : ℕ) (s : List ℕ) (k : ℕ) (list : List Pair)
    → ((nearest_of l kind s k list).refusal ≡ done → ⊥)
    → ((nearest_of l kind s k list).count ≡ 0)
    × ((nearest_of l kind s k list).found ≡ 0)
    × ((nearest_of l kind s k list).list ≡ list)
nearest_untouched l kind s k list ne =
    rw (Nearests.refused_leaves l kind s k list (λ e. ne (Nearests.refusal_is l kind s k list ∙ e))) (refl, refl, refl)

-- ---- two lists in one order

-- members with one card are one, where no card stands twice
same_card :
    (l : List Newcomer)
    → Distinct (cards_of l)
    → (x y : Newcomer)
    → Memᴰ x l
    → Memᴰ y l
    → x.card ≡ y.card
    → x ≡ y
same_card [] once x y x6 _ same = elim x6 [ ]
same_card (z ∷ l) once x y (first e) (first f) same = e ∙ sym f
same_card (z ∷ l) once x y (first e) (later j) same =
    absurd (once.0 (subst (λ (c : ℕ). c ∈ cards_of l) (sym same ∙ ap (λ (w : Newcomer). w.card) e)
    (image_to (λ (w : Newcomer). w.card) y l j)))
same_card (z ∷ l) once x y (later i) (first f) same =
    absurd (once.0 (subst (λ (c : ℕ). c ∈ cards_of l) (same ∙ ap (λ (w : Newcomer). w.card) f)
    (image_to (λ (w : Newcomer). w.card) x l i)))
same_card (z ∷ l) once x y (later i) (later j) same = same_card l once.1 x y i j same

closer_orders :
    (kind : ℕ) (q : List ℕ) (stored : List Newcomer)
    → Distinct (cards_of stored)
    → Orders (closer kind q) (λ (x : Newcomer). Memᴰ x stored)
unfolding closer
closer_orders kind q stored once =
    ahead_orders (λ (x : Newcomer). apart kind x.readings q) (λ (x : Newcomer). x.card)
    (λ x y i j e f. same_card stored once x y i j f)

-- stored cards in order ascend
stored_ascends :
    (kind : ℕ) (q : List ℕ) (stored l : List Newcomer)
    → Distinct (cards_of stored)
    → ((x : Newcomer) → Memᴰ x l → Memᴰ x stored)
    → Distinct (cards_of l)
    → Ascends (closer kind q) (sort_by (closer kind q) l)
unfolding sort_by
stored_ascends kind q stored [] once among single = tt
stored_ascends kind q stored (x ∷ l) once among single =
    put_by_ascends (closer_orders kind q stored once) x (sort_by (closer kind q) l) (among x (first refl))
    (λ y i. among y (later (sort_by_from (closer kind q) y l i)))
    (λ i. single.0 (image_to (λ (w : Newcomer). w.card) x l (sort_by_from (closer kind q) x l i)))
    (stored_ascends kind q stored l once (λ y i. among y (later i)) single.1)

-- ---- a table of n records after some calls

module _ {n : ℕ} (some : 1 ≤ n) (small : n ≤ most_records) {st : State} (h : Holds n st) where
  abbrev R : ℕ → Record
  R = record_of st.table

  shape : Shaped n R
  shape = shaped_bytes n st.table h.size

  -- what the record in a slot was stored with
  abbrev card_at : ℕ → Newcomer
  card_at a = brought (R a)

  abbrev used : List ℕ
  used = used_slots (view_of R) n

  module _ (kind : ℕ) (q : List ℕ) where
    -- the used slots, nearest first
    abbrev used_first : List ℕ
    used_first = nearest_first (apart kind) (view_of R) q used

    abbrev before : ℕ → ℕ → Bool
    before a b = nearer (apart kind) (view_of R) q a b

    slots_order : Orders before (λ (a : ℕ). Used (R a))
    unfolding nearer
    slots_order =
        ahead_orders (λ (a : ℕ). apart kind (R a).readings q) (λ (a : ℕ). (R a).card)
        (λ a b u w e f.
        h.sound.well_formed.cards a b (used_within shape a u) (used_within shape b w) u w f)

    slots_ascend : Ascends before used_first
    slots_ascend =
        sort_by_ascends slots_order used
        (λ a i. (used_slots_from (view_of R) n a i).1) (used_slots_distinct (view_of R) n)

    cards_ascend : (l : List ℕ) → Ascends before l → Ascends (closer kind q) (map card_at l)
    unfolding closer nearer
    cards_ascend [] a = tt
    cards_ascend (x ∷ l) a = (
      λ y i.
          let z = image_from card_at y l i in
          rw z.2 (a.0 z.0 z.1),
      cards_ascend l a.1,
    )

    -- in order they are the stored cards in order
    pub order_same : map card_at used_first ≡ sort_by (closer kind q) st.stored
    order_same =
        ascends_same (closer_orders kind q st.stored h.once)
        (map card_at used_first)
        (sort_by (closer kind q) st.stored)
        (cards_ascend used_first slots_ascend)
        (stored_ascends kind q st.stored st.stored h.once (λ x i. i) h.once)
        (λ x i.
        let z = image_from card_at x used_first i in
        let u = used_slots_from (view_of R) n z.0 (sort_by_from before z.0 used z.1) in
        sort_by_to (closer kind q) x st.stored
        (rw z.2 (used_stored some small h z.0 u.1)))
        (λ x i.
        let z = (h.stored x).1 (sort_by_from (closer kind q) x st.stored i) in
        let u = used_slots_to (view_of R) n z.0 z.1.within z.1.used in
        subst (λ (y : Newcomer). Memᴰ y (map card_at used_first)) z.1.same
        (image_to card_at z.0 used_first (sort_by_to before z.0 used u)))

  module _ (kind : ℕ) (s : List ℕ) (k : ℕ) (list : List Pair)
      (e : (nearest_of st.table kind s k list).refusal ≡ done) where
    none : refusal_of st.table kind s k (length list) ≡ done
    none = sym (Nearests.refusal_is st.table kind s k list) ∙ e

    abbrev slots : List ℕ
    slots = compared_slots (records_in st.table) R kind (readings_at s 0) k

    slot_used : (a : ℕ) → a ∈ slots → Used (R a)
    slot_used a i = Nearests.compared_used st.table kind s k list none a i

    slots_card : Distinct (nearest_compared st.table kind s k)
    slots_card =
        distinct_image (λ a. (R a).card) slots
        (λ a b i j.
        let u = slot_used a i in
        let w = slot_used b j in
        h.sound.well_formed.cards a b (used_within shape a u) (used_within shape b w) u w)
        (Nearests.compared_once st.table kind s k list none)

    slots_stored : (c : ℕ) → c ∈ nearest_compared st.table kind s k → c ∈ cards_of st.stored
    slots_stored c i =
        let z = image_from (λ (a : ℕ). (R a).card) c slots i in
        subst (λ (j : ℕ). j ∈ cards_of st.stored) (sym z.2)
        (image_to (λ (x : Newcomer). x.card) (brought (R z.0)) st.stored
        (used_stored some small h z.0 (slot_used z.0 z.1)))

    count : (nearest_of st.table kind s k list).count ≡ length (nearest_compared st.table kind s k)
    count =
        Nearests.count_compared st.table kind s k list none ∙ sym (length-map slots (λ (a : ℕ). (R a).card))

    sound : SoundTable (records_in st.table) R
    sound = rw (records_are h) h.sound

    -- the stored cards are as many as the used records
    stored_used : used_in (records_in st.table) R ≡ length st.stored
    stored_used =
        rw (records_are h)
        (omega (
          arith,
          used_in_used_count n R,
          used_slots_length (view_of R) n,
          sort_by_length (before kind (readings_at s 0)) used,
          length-map (used_first kind (readings_at s 0)) card_at,
          ap length (order_same kind (readings_at s 0)),
          sort_by_length (closer kind (readings_at s 0)) st.stored,
        ))

    -- a stored card with its distance
    abbrev pair_to : Newcomer → Pair
    pair_to x = pair x.card (apart kind x.readings (readings_at s 0))

    exactly :
        take (nearest_of st.table kind s k list).found (nearest_of st.table kind s k list).list
        ≡ nearest_stored st.stored kind (readings_at s 0) k
    unfolding nearest_stored
    exactly =
        let cs = used_first kind (readings_at s 0) in
        Nearests.listed_nearest st.table kind s k list none sound
        ∙ rw (records_are h) (sym (map_map card_at pair_to _ (take k cs) (λ a i. refl)))
        ∙ ap (map pair_to) (sym (take_map card_at k cs) ∙ ap (take k) (order_same kind (readings_at s 0)))

    pub nearest_finds : FindsNearest st kind s k list (nearest_of st.table kind s k list)
    nearest_finds =
        record {
          exactly = exactly;
          found_is = Nearests.found_is st.table kind s k list none sound ∙ ap (min k) stored_used;
          later = Nearests.later_stay st.table kind s k list none;
          compared_once = slots_card;
          compared_stored = slots_stored;
          count_is = count;
          count_most =
              omega (
                arith,
                count,
                distinct_length (nearest_compared st.table kind s k) (cards_of st.stored) slots_card slots_stored,
                length-map st.stored (λ (x : Newcomer). x.card),
              );
        }
