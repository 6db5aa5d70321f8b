-- What check's answer means to a user: a well-formed table is sound exactly if every accepted search on it lists
-- exactly the stored cards within its radius (`sound_exactly`). One way is what search promises of a sound table. The
-- other: ask for each stored card's own signature with radius 0; if all of these searches find their card, the table is
-- sound, by tree's `entered_sound`. Assumes nothing.
use Rattle.std.specs.Prelude.{ℕ, ◌≤◌, ◌<◌, ◌≡◌, refl, Bool, true, false, ◌&&◌, ◌↔◌, List, ltb, eqb, length, replicate}
use Rattle.std.proofs.Common.{sym, ◌∙◌, arith, eq-eqb}
use Rattle.std.proofs.Math.Decide.{ℕ_discrete}
use Rattle.std.proofs.lemmas.List.{length-replicate}
use Rattle.std.proofs.lemmas.List.Edits.{sets}
use Rattle.std.proofs.Math.Seq.{length-sets}
use Rattle.places.specs.Choice.{and_both}
use Rattle.number.specs.Frame.{Bytes}
use Rattle.distance.specs.Signature.{readings_at}
use Rattle.distance.specs.Kind.{apart, apart_distance, known_kind}
use Rattle.refusals.specs.Limits.{signature_length}
use Rattle.refusals.specs.Refusal.{done, first_of}
use Rattle.table.specs.Record.{Record, Used, record_of}
use Rattle.table.specs.Table.{right_size, records_in}
use Rattle.table.specs.Same.{readings_length_of}
use Rattle.table.specs.Fitting.{record_fits}
use Rattle.judge.specs.WellFormed.{WellFormed}
use Rattle.judge.specs.Decided.{formed_decided}
use Rattle.judge.specs.Readable.{Readable}
use Rattle.survey.specs.Survey.{used_in, root_of, kind_of}
use Rattle.survey.specs.Laws.{used_in_most, used_in_seen}
use Rattle.admission.specs.Admission.{admission_tests}
use Rattle.admission.specs.Query.{known_query, other_kind}
use Rattle.tree.specs.Slots.{◌∈◌}
use Rattle.tree.specs.View.{Formed}
use Rattle.tree.specs.Search.{visit}
use Rattle.tree.proofs.Search.Finds.{listed_from}
use Rattle.tree.proofs.Search.Needed.{entered_sound}
use Rattle.tree.proofs.Search.Once.{visit_used}
use Rattle.view.specs.View.{view_of}
use Rattle.view.specs.Survey.{kind_of_is}
use Rattle.view.specs.Formed.{used_within}
use Rattle.view.specs.Readable.{readable_formed, readable_shaped, readable_seen}
use Rattle.view.specs.Sound.{SoundTable, sound_free}
use Rattle.search.specs.Search.{no_bound, cards, refusal_of}
use Rattle.search.specs.Tests.{refusal_none}
use Rattle.search.specs.Listing.{entered_some}
use Rattle.search.specs.Promises.{refusal_is, listed_cards, listed_exactly}
use Rattle.inventory.specs.Card.{signature_bytes}
use Rattle.inventory.specs.Row.{row_read}
use Rattle.soundness.specs.Soundness.{check_of}
use Rattle.soundness.specs.Check.{done_sound, sound_done}
use Rattle.history.specs.Demands.{ListsExactly}

-- ---- a stored signature as a query

module _ (l : List ℕ) (bytes : Bytes l) (x : ℕ) where
  -- its bytes, laid in a row of 32
  abbrev query : List ℕ
  query = sets (replicate signature_length 0) 0 (signature_bytes (record_of l x))

  query_length : length query ≡ signature_length
  query_length =
      length-sets (replicate signature_length 0) 0 (signature_bytes (record_of l x))
      ∙ length-replicate {A = ℕ} signature_length 0

  query_readings : readings_at query 0 ≡ (record_of l x).readings
  query_readings =
      row_read (replicate signature_length 0) (record_of l x).readings (readings_length_of l x)
      (record_fits l x bytes).readings (omega (arith, length-replicate {A = ℕ} signature_length 0))

-- ---- a table on which every search lists all that it should

never : (b : Bool) → b && false ≡ false
never true = refl
never false = refl

module _ {l : List ℕ} (ok : Readable l) (bytes : Bytes l) (lists : ListsExactly l) where
  abbrev n : ℕ
  n = records_in l

  abbrev R : ℕ → Record
  R = record_of l

  -- a list with room for all cards
  abbrev room : List ℕ
  room = replicate n 0

  admitted : first_of (admission_tests l) ≡ done
  admitted = rw (ok.size, ok.formed) refl

  module _ (x : ℕ) (u : Used (R x)) where
    within : x < n
    within = used_within (readable_shaped ok) x u

    some : 1 ≤ used_in n R
    some = used_in_seen n R x within u

    abbrev kind : ℕ
    kind = kind_of n R

    known : known_query kind (query l bytes x) ≡ true
    known =
        and_both (known_kind kind) (eqb (length (query l bytes x)) signature_length)
        (rw (kind_of_is n R (readable_formed ok) x within u) ((readable_formed ok).filled x within u).kind_known)
        (eq-eqb (length (query l bytes x)) signature_length (query_length l bytes x))

    same_kind_lem : other_kind n R kind ≡ false
    unfolding other_kind
    same_kind_lem = rw (eq-eqb kind kind refl) (never (ltb 0 (used_in n R)))

    -- the search for the card's own signature with radius 0 is accepted
    none : refusal_of l kind (query l bytes x) (length room) ≡ done
    none =
        sym (refusal_none l kind (query l bytes x) (length room) admitted known same_kind_lem
        (omega (arith, used_in_most n R, length-replicate {A = ℕ} n 0)))

    -- and so lists the card
    listed : (R x).card ∈ cards n R kind (readings_at (query l bytes x) 0) 0
    listed =
        let yes' = refusal_is l kind (query l bytes x) 0 room ∙ none in
        let itself : apart kind (R x).readings (readings_at (query l bytes x) 0) ≤ 0 =
        rw (query_readings l bytes x) (omega (arith, (apart_distance kind).to_self (R x).readings)) in
        rw (listed_cards l kind (query l bytes x) 0 room none)
        at ((lists kind (query l bytes x) 0 room yes' (R x).card).1 (x, u, refl, itself))

    -- so the record is entered
    entered : x ∈ visit (apart kind) (view_of R) (R x).readings 0 (used_in n R) (root_of n R) no_bound
    unfolding cards
    entered =
        let wf : Formed (view_of R) n (root_of n R) = readable_seen ok some in
        let q = readings_at (query l bytes x) 0 in
        let i = rw (entered_some n R kind q 0 some) at listed in
        let es = visit (apart kind) (view_of R) q 0 (used_in n R) (root_of n R) no_bound in
        let z = listed_from (apart kind) (view_of R) q 0 (R x).card es i in
        let w = visit_used (apart kind) q 0 wf (used_in n R) (root_of n R) no_bound z.0 wf.root_used z.1 in
        let same : z.0 ≡ x = wf.cards z.0 x w u z.2 in
        rw (query_readings l bytes x) at (rw same at z.1)

  sound : SoundTable n R
  sound = elim (ℕ_discrete (used_in n R) 0) [
    | yes free ↦ sound_free (readable_shaped ok) (readable_formed ok) free
    | no used ↦ record {
      well_formed = readable_formed ok;
      sound =
          entered_sound (apart_distance (kind_of n R)) (readable_seen ok (omega arith)) (used_in n R) no_bound entered;
    }
  ]

-- ---- both ways

module _ (l : List ℕ) (bytes : Bytes l) where
  pub sound_exactly :
      right_size (length l) ≡ true
      → WellFormed (records_in l) (record_of l)
      → SoundTable (records_in l) (record_of l) ↔ ListsExactly l
  sound_exactly size wf = (
    λ ok kind s r list e. listed_exactly l kind s r list (sym (refusal_is l kind s r list) ∙ e) bytes ok,
    λ lists.
        sound (record { size = size; formed = (formed_decided (records_in l) (record_of l)).passes wf }) bytes lists,
  )

  -- check answers 0 exactly of a well-formed table of the right size on which every search misses nothing
  pub check_exactly :
      check_of l ≡ done
      ↔ ((right_size (length l) ≡ true) × WellFormed (records_in l) (record_of l) × ListsExactly l)
  check_exactly = (
    λ e.
        let z = done_sound l e in
        (z.0, z.1.well_formed, (sound_exactly z.0 z.1.well_formed).0 z.1),
    λ w. sound_done l w.0 ((sound_exactly w.0 w.1).1 w.2),
  )
