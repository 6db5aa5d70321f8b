-- What a search promises, in the paper's words, of the outcome that its contract fixes. Of the distance only the four
-- laws are used. Assumes nothing.
use Rattle.std.specs.Prelude.{ℕ, ◌≤◌, ◌≡◌, ◌↔◌, List, length, take, drop}
use Rattle.std.proofs.Math.Path.{sym}
use Rattle.std.proofs.Common.{◌∙◌, arith}
use Rattle.std.proofs.Math.Decide.{ℕ_discrete}
use Rattle.std.proofs.Math.Seq.{take-append_seam, drop-append_seam}
use Rattle.places.specs.Fill.{from_start}
use Rattle.number.specs.Frame.{Bytes}
use Rattle.distance.specs.Signature.{readings_at}
use Rattle.distance.specs.Kind.{apart}
use Rattle.table.specs.Record.{Used, record_of}
use Rattle.table.specs.Table.{records_in}
use Rattle.survey.specs.Survey.{used_in, root_of}
use Rattle.tree.specs.Slots.{◌∈◌, Distinct}
use Rattle.tree.specs.View.{Formed, Late, used_count}
use Rattle.tree.specs.Search.{IsWalk, walk}
use Rattle.tree.proofs.Search.Fuel.{walk_obeys, walk_only, visit_unbounded}
use Rattle.view.specs.View.{view_of}
use Rattle.refusals.specs.Refusal.{done}
use Rattle.view.specs.Formed.{used_within}
use Rattle.view.specs.Sound.{SoundTable}
use Rattle.survey.specs.Laws.{used_in_seen}
use Rattle.search.specs.Search.{outcome, no_bound, entered, cards, compared_slots, refusal_of, listing, search_of}
use Rattle.view.specs.Readable.{readable_seen, readable_shaped}
use Rattle.search.specs.Tests.{accepted}
use Rattle.view.specs.Survey.{used_in_used_count}
use Rattle.search.specs.Listing.{unbounded, entered_some, cards_fit, distances_fit}
use Rattle.search.specs.Laws.{accepted_is, refused_is, distances_compared, compared_distinct}
use Rattle.search.specs.Laws.{distances_narrower, cards_distinct, cards_exactly}

-- of the table l, the kind and the signature's bytes s
module _ (l : List ℕ) (kind : ℕ) (s : List ℕ) where
  -- ---- for every input

  -- a search is accepted exactly if no test refuses it: its refusal is the number of the first test that holds, 0 if
  -- none does
  pub refusal_is : (r : ℕ) (list : List ℕ) → (search_of l kind s r list).refusal ≡ refusal_of l kind s (length list)
  unfolding listing
  refusal_is r list = elim (ℕ_discrete (refusal_of l kind s (length list)) done) [
    | yes e ↦ rw (accepted_is l kind s r list e) (sym e)
    | no n ↦ rw (refused_is l kind s r list n)
  ]

  -- "A refusal returns zero counts and touches nothing lent"
  pub refused_leaves :
      (r : ℕ) (list : List ℕ)
      → (refusal_of l kind s (length list) ≡ done → ⊥)
      → search_of l kind s r list ≡ outcome (refusal_of l kind s (length list)) 0 0 list
  refused_leaves r list n = refused_is l kind s r list n

  -- a smaller radius never costs more, whatever lists are lent, where both searches are accepted; a refused one costs
  -- nothing
  pub count_narrower :
      {r r' : ℕ} (list list' : List ℕ)
      → r ≤ r'
      → ((search_of l kind s r list).refusal ≡ done → (search_of l kind s r' list').refusal ≡ done)
      → (search_of l kind s r list).count ≤ (search_of l kind s r' list').count
  unfolding listing
  count_narrower {r} {r'} list list' h both = elim (ℕ_discrete (refusal_of l kind s (length list)) done) [
    | yes e ↦
        let e' = sym (refusal_is r' list') ∙ both (refusal_is r list ∙ e) in
        rw
        (accepted_is l kind s r list e, accepted_is l kind s r' list' e')
        (distances_narrower (records_in l) (record_of l) kind (readings_at s 0) h)
    | no n ↦ rw (refused_is l kind s r list n) (omega arith)
  ]

  -- ---- for every accepted call, on a sound table or a loose one

  module _ (r : ℕ) (list : List ℕ) (e : refusal_of l kind s (length list) ≡ done) where
    -- the slots of the records compared
    abbrev compared_by : List ℕ
    compared_by = compared_slots (records_in l) (record_of l) kind (readings_at s 0) r

    -- the cards listed: the list's first entries, as many as are found
    abbrev listed_by : List ℕ
    listed_by = take (search_of l kind s r list).found (search_of l kind s r list).list

    formed :
        1 ≤ used_in (records_in l) (record_of l)
        → Formed (view_of (record_of l)) (records_in l) (root_of (records_in l) (record_of l))
    formed = readable_seen (accepted l kind s (length list) e).readable

    -- ---- the paper's text, with no word of depth

    -- the slots entered are those of the walk that the text gives, from the root, under any bound above every timestamp
    -- in use ("no bound on time"); w is any walk that obeys the text
    pub entered_text :
        Bytes l
        → 1 ≤ used_in (records_in l) (record_of l)
        → (w : ℕ → ℕ → List ℕ)
        → IsWalk (apart kind) (view_of (record_of l)) (readings_at s 0) r w
        → (t : ℕ)
        → Late (view_of (record_of l)) t
        → entered (records_in l) (record_of l) kind (readings_at s 0) r ≡ w (root_of (records_in l) (record_of l)) t
    entered_text bytes some w is t late =
        let n = records_in l in
        let R = record_of l in
        let v = view_of (record_of l) in
        let q = readings_at s 0 in
        let wf = formed some in
        let fuel : used_count v n ≤ used_in n R = omega (arith, used_in_used_count n R) in
        entered_some n R kind q r some
        ∙ visit_unbounded (apart kind) v q r wf (used_in n R) (root_of n R) no_bound t wf.root_used
        (unbounded l bytes) late
        ∙ sym (walk_only (apart kind) v q r wf w is (used_in n R) (root_of n R) t fuel wf.root_used)

    -- and there is a walk that obeys it
    pub text_walks :
        1 ≤ used_in (records_in l) (record_of l)
        → (w : ℕ → ℕ → List ℕ) × IsWalk (apart kind) (view_of (record_of l)) (readings_at s 0) r w
    text_walks some = (
      walk (apart kind) (view_of (record_of l)) (readings_at s 0) r (records_in l),
      walk_obeys (apart kind) (view_of (record_of l)) (readings_at s 0) r (formed some),
    )

    -- ---- counts and cards

    -- the count is the number of records compared
    pub count_compared : (search_of l kind s r list).count ≡ length compared_by
    unfolding listing
    count_compared =
        rw (accepted_is l kind s r list e) (distances_compared (records_in l) (record_of l) kind (readings_at s 0) r)

    -- no record is compared twice
    pub compared_once : Distinct compared_by
    compared_once = compared_distinct (records_in l) (record_of l) kind (readings_at s 0) r formed

    -- the count is at most the number of used records
    pub count_at_most : (search_of l kind s r list).count ≤ used_in (records_in l) (record_of l)
    unfolding listing
    count_at_most =
        rw (accepted_is l kind s r list e) (distances_fit (records_in l) (record_of l) kind (readings_at s 0) r formed)

    abbrev found : List ℕ
    found = cards (records_in l) (record_of l) kind (readings_at s 0) r

    fits : length found ≤ length list
    fits =
        let room = (accepted l kind s (length list) e).room in
        omega (arith, cards_fit (records_in l) (record_of l) kind (readings_at s 0) r formed)

    -- the cards listed, in their order, are the definition's
    pub listed_cards : listed_by ≡ found
    unfolding listing
    listed_cards =
        rw (accepted_is l kind s r list e, from_start found list fits)
        (take-append_seam found (drop (length found) list))

    -- "later entries stay"
    pub later_stay :
        drop (search_of l kind s r list).found (search_of l kind s r list).list
        ≡ drop (search_of l kind s r list).found list
    unfolding listing
    later_stay =
        rw (accepted_is l kind s r list e, from_start found list fits)
        (drop-append_seam found (drop (length found) list))

    -- no card is listed twice
    pub listed_once : Distinct listed_by
    listed_once = rw listed_cards (cards_distinct (records_in l) (record_of l) kind (readings_at s 0) r formed)

    -- ---- on every sound table

    -- the cards listed are the stored cards within the radius, and no other
    pub listed_exactly :
        Bytes l
        → SoundTable (records_in l) (record_of l)
        → (c : ℕ)
        → c ∈ listed_by
        ↔ ((a : ℕ)
        × Used (record_of l a)
        × ((record_of l a).card ≡ c)
        × (apart kind (record_of l a).readings (readings_at s 0) ≤ r))
    listed_exactly bytes ok c =
        let passed = accepted l kind s (length list) e in
        rw
        listed_cards
        (cards_exactly
        (records_in l)
        (record_of l)
        kind
        (readings_at s 0)
        r
        formed
        (λ some. rw (passed.of_kind some) at ok.sound)
        (unbounded l bytes)
        (λ a u. used_in_seen (records_in l) (record_of l) a (used_within (readable_shaped passed.readable) a u) u)
        c)
