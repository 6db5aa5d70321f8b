-- An insert that is not refused: its newcomer may be put into the lowest free slot (`accepted_ready`), and its
-- timestamp fits. Assumes nothing.
use Rattle.std.specs.Prelude.{ℕ, ◌≤◌, ◌<◌, Bool, true, false, ◌&&◌, not, ◌≡◌, refl, List, leb, ltb, length}
use Rattle.std.proofs.lemmas.Bool.{false≢true}
use Rattle.std.proofs.Math.Path.{sym}
use Rattle.std.proofs.Common.{ap, ◌∙◌, subst, arith}
use Rattle.std.proofs.Math.Decide.{ℕ_discrete}
use Rattle.std.proofs.Math.Dec.{eqb}
use borrow.Author.Tests.{not-false, leb-true, leb-false, lt-ltb, ltb-false, eqb-true}
use Rattle.places.specs.Choice.{and_left, and_right}
use Rattle.distance.specs.Signature.{readings_at, readings_length}
use Rattle.table.specs.Record.{Record, Used, record_of}
use Rattle.table.specs.Table.{records_in, records_of, at}
use Rattle.table.specs.Records.{records_length}
use Rattle.table.specs.Size.{rows_are}
use Rattle.table.specs.Stands.{right_most}
use Rattle.judge.specs.WellFormed.{WellFormed}
use Rattle.survey.specs.Survey.{used_in, kind_of, slot_of_card, lowest_free, largest_timestamp}
use Rattle.survey.specs.Laws.{no_card_before, lowest_no_card, used_in_seen}
use Rattle.admission.specs.Query.{other_kind, known_change}
use Rattle.distance.specs.Kind.{known_kind}
use Rattle.refusals.specs.Limits.{known_arity, most_children, last_timestamp, signature_length}
use Rattle.refusals.specs.Refusal.{first_of, done}
use Rattle.refusals.specs.First.{any_holds, first_none}
use Rattle.judge.specs.Readable.{Readable}
use Rattle.admission.specs.Admission.{admission_tests, admitted_readable}
use Rattle.view.specs.Survey.{kind_of_is}
use Rattle.view.specs.Shaped.{Shaped}
use Rattle.view.specs.Readable.{readable_formed, readable_shaped}
use Rattle.newcomer.specs.Newcomer.{Newcomer, newcomer}
use Rattle.placing.specs.Place.Settled.{Ready}
use Rattle.insert.specs.Insert.{right_arguments, refusal_of}
use Rattle.insert.specs.Groups.{own_tests, none_of_five, refusal_first, refusal_own}

-- ---- tests

and_false : (p q : Bool) → p && q ≡ false → p ≡ true → q ≡ false
and_false true q e y = e
and_false false q e y = absurd (false≢true y)

-- ---- an accepted insert

-- what the card brings
abbrev pub comer : ℕ → ℕ → List ℕ → Newcomer
comer card kind s = newcomer card kind (readings_at s 0)

module _ (l : List ℕ) (card kind arity : ℕ) (s : List ℕ) (none : refusal_of l card kind arity s ≡ done) where
  abbrev n : ℕ
  n = records_in l

  abbrev R : ℕ → Record
  R = record_of l

  -- the table is admitted, and none of insert's own tests holds
  admitted : first_of (admission_tests l) ≡ done
  admitted = elim (ℕ_discrete (first_of (admission_tests l)) done) [
    | yes e ↦ e
    | no ne ↦ absurd (ne (sym (refusal_first l card kind arity s ne) ∙ none))
  ]

  pub accepted_readable : Readable l
  accepted_readable = admitted_readable l admitted

  own_none : any_holds (own_tests l card kind arity s) ≡ false
  own_none =
      first_none (own_tests l card kind arity s) refl (sym (refusal_own l card kind arity s admitted) ∙ none)

  passed :
      (not (right_arguments card kind arity s) ≡ false)
      × (other_kind n R kind ≡ false)
      × (ltb (slot_of_card n R card) n ≡ false)
      × (leb n (lowest_free n R) ≡ false)
      × (leb last_timestamp (largest_timestamp n R) ≡ false)
  passed =
      none_of_five
      (not (right_arguments card kind arity s))
      (other_kind n R kind)
      (ltb (slot_of_card n R card) n)
      (leb n (lowest_free n R))
      (leb last_timestamp (largest_timestamp n R))
      own_none

  -- ---- the arguments

  arguments : right_arguments card kind arity s ≡ true
  arguments = not-false (right_arguments card kind arity s) passed.0

  card_arity : known_change card arity ≡ true
  unfolding right_arguments
  card_arity = and_left (known_change card arity) (known_kind kind && eqb (length s) signature_length) arguments

  kind_signature : known_kind kind && eqb (length s) signature_length ≡ true
  unfolding right_arguments
  kind_signature =
      and_right (known_change card arity) (known_kind kind && eqb (length s) signature_length) arguments

  card_some : 1 ≤ card
  card_some = leb-true 1 card (and_left (leb 1 card) (known_arity arity) card_arity)

  pub accepted_arity : (1 ≤ arity) × (arity ≤ most_children)
  accepted_arity =
      let both = and_right (leb 1 card) (known_arity arity) card_arity in (
        leb-true 1 arity (and_left (leb 1 arity) (leb arity most_children) both),
        leb-true arity most_children (and_right (leb 1 arity) (leb arity most_children) both),
      )

  known : known_kind kind ≡ true
  known = and_left (known_kind kind) (eqb (length s) signature_length) kind_signature

  pub accepted_signature : length s ≡ signature_length
  accepted_signature =
      eqb-true (length s) signature_length
      (and_right (known_kind kind) (eqb (length s) signature_length) kind_signature)

  -- ---- the table

  pub accepted_slot : lowest_free n R < n
  accepted_slot = leb-false n (lowest_free n R) passed.3

  pub accepted_clock : largest_timestamp n R < last_timestamp
  accepted_clock = leb-false last_timestamp (largest_timestamp n R) passed.4

  card_new : (a : ℕ) → a < n → (R a).card ≡ card → ⊥
  card_new a h e =
      let past = ltb-false (slot_of_card n R card) n passed.2 in
      no_card_before n R card a (omega arith) e

  kind_same : (a : ℕ) → a < n → Used (R a) → (R a).kind ≡ kind
  unfolding other_kind
  kind_same a h u =
      let some = lt-ltb 0 (used_in n R) (omega (arith, used_in_seen n R a h u)) in
      let none = and_false (ltb 0 (used_in n R)) (not (eqb (kind_of n R) kind)) passed.1 some in
      let same = not-false (eqb (kind_of n R) kind) none in
      sym (kind_of_is n R (readable_formed accepted_readable) a h u) ∙ eqb-true (kind_of n R) kind same

  pub accepted_ready : Ready n arity (lowest_free n R) (comer card kind s) (records_of l)
  accepted_ready =
      let size = accepted_readable.size in
      let rows = rows_are l size in
      let same : (a : ℕ) → at (records_of l) a ≡ R a = λ a. ap (λ (S : ℕ → Record). S a) rows in
      record {
        length_is = records_length l;
        small = right_most l size;
        shaped = subst (Shaped n) (sym rows) (readable_shaped accepted_readable);
        well_formed = subst (WellFormed n) (sym rows) (readable_formed accepted_readable);
        slot_within = accepted_slot;
        slot_free = ap (λ (r : Record). r.card) (same (lowest_free n R)) ∙ lowest_no_card n R accepted_slot;
        card_some = card_some;
        card_new = λ a h e. card_new a h (ap (λ (r : Record). r.card) (sym (same a)) ∙ e);
        kind_known = known;
        kind_same = λ a h u. ap (λ (r : Record). r.kind) (same a) ∙ kind_same a h (rw (same a) at u);
        sixteen = readings_length s 0;
        arity_to_8 = accepted_arity.1;
      }
