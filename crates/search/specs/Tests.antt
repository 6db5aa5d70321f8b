-- The refusal by its tests, one after the other as the code takes them, and what they have shown of a call that passes
-- them all. Assumes nothing.
use Rattle.std.specs.Prelude.{ℕ, ◌≤◌, ◌<◌, ◌≡◌, refl, true, false, ◌||◌, not, List, [], ◌∷◌, ltb, length}
use Rattle.std.proofs.Math.Path.{sym}
use Rattle.std.proofs.Common.{◌∙◌, lt-ltb, le-ltb, ltb-false}
use Rattle.std.proofs.lemmas.Bool.{not-false}
use Rattle.places.specs.Choice.{or_left, or_right}
use Rattle.table.specs.Record.{record_of}
use Rattle.table.specs.Table.{records_in}
use Rattle.survey.specs.Survey.{used_in, kind_of}
use Rattle.refusals.specs.Refusal.{Test, ARGUMENT, KIND, SHORT, first_of, done}
use Rattle.refusals.specs.First.{first_none}
use Rattle.refusals.specs.Limits.{signature_length}
use Rattle.judge.specs.Readable.{Readable}
use Rattle.admission.specs.Admission.{admission_tests, admitted_readable, table_refuses, own_first, table_passes}
use Rattle.admission.specs.Query.{known_query, other_kind, query_length, query_kind}
use Rattle.search.specs.Search.{refusal_of}

-- what a search asks of a table that is admitted
abbrev pub own_tests : List ℕ → ℕ → List ℕ → ℕ → List Test
own_tests l kind s m =
    (not (known_query kind s), ARGUMENT)
    ∷ (other_kind (records_in l) (record_of l) kind, KIND)
    ∷ (ltb m (used_in (records_in l) (record_of l)), SHORT)
    ∷ []

-- what an accepted call's tests have shown, of the table l, the kind, the signature's bytes s and a list of m entries
pub record Accepted (l : List ℕ) (kind : ℕ) (s : List ℕ) (m : ℕ) : Type 0 where
  pub readable : Readable l
  pub bytes : length s ≡ signature_length
  pub of_kind : 1 ≤ used_in (records_in l) (record_of l) → kind_of (records_in l) (record_of l) ≡ kind
  pub room : used_in (records_in l) (record_of l) ≤ m

module _ (l : List ℕ) (kind : ℕ) (s : List ℕ) (m : ℕ) where
  -- ---- the first test that holds

  pub refusal_lent : (k : ℕ) → k ≡ first_of (admission_tests l) → (k ≡ done → ⊥) → k ≡ refusal_of l kind s m
  unfolding refusal_of
  refusal_lent k e n = e ∙ sym (table_refuses l (own_tests l kind s m) (λ z. n (e ∙ z)))

  module _ (admitted : first_of (admission_tests l) ≡ done) where
    refusal_own : refusal_of l kind s m ≡ first_of (own_tests l kind s m)
    unfolding refusal_of
    refusal_own = own_first l (own_tests l kind s m) admitted

    pub refusal_argument : known_query kind s ≡ false → ARGUMENT ≡ refusal_of l kind s m
    refusal_argument e = sym (refusal_own ∙ rw e)

    pub refusal_kind :
        known_query kind s ≡ true → other_kind (records_in l) (record_of l) kind ≡ true → KIND ≡ refusal_of l kind s m
    refusal_kind e f = sym (refusal_own ∙ rw (e, f))

    pub refusal_short :
        known_query kind s ≡ true
        → other_kind (records_in l) (record_of l) kind ≡ false
        → m < used_in (records_in l) (record_of l)
        → SHORT ≡ refusal_of l kind s m
    refusal_short e f h = sym (refusal_own ∙ rw (e, f, lt-ltb _ _ h))

    pub refusal_none :
        known_query kind s ≡ true
        → other_kind (records_in l) (record_of l) kind ≡ false
        → used_in (records_in l) (record_of l) ≤ m
        → done ≡ refusal_of l kind s m
    refusal_none e f h = sym (refusal_own ∙ rw (e, f, le-ltb _ _ h))

  -- ---- none holds

  pub refusal_admits : refusal_of l kind s m ≡ done → first_of (admission_tests l) ≡ done
  unfolding refusal_of
  refusal_admits e = table_passes l (own_tests l kind s m) e

  pub accepted : refusal_of l kind s m ≡ done → Accepted l kind s m
  accepted e =
      let argument = not (known_query kind s) in
      let other = other_kind (records_in l) (record_of l) kind in
      let short = ltb m (used_in (records_in l) (record_of l)) in
      let admitted = refusal_admits e in
      let none = first_none (own_tests l kind s m) refl (sym (refusal_own admitted) ∙ e) in
      let later = or_right argument (other || (short || false)) none in
      record {
        readable = admitted_readable l admitted;
        bytes =
            query_length kind s (not-false (known_query kind s) (or_left argument (other || (short || false)) none));
        of_kind = query_kind (records_in l) (record_of l) kind (or_left other (short || false) later);
        room =
            ltb-false m (used_in (records_in l) (record_of l))
            (or_left short false (or_right other (short || false) later));
      }
