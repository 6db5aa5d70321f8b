-- The call's refusals: which number is given where, and what it means that there is no refusal. By the algebra of
-- tests in their order. Assumes nothing.
use Rattle.std.specs.Prelude.{ℕ, ◌≤◌, ◌<◌, ◌≡◌, Bool, true, false, ◌||◌, not, List, [], ◌∷◌, ◌++◌, leb, length}
use Rattle.std.proofs.Math.Path.{refl, sym}
use Rattle.std.proofs.Common.{ap, subst, ◌∙◌, arith}
use Rattle.std.proofs.lemmas.Bool.{false≢true}
use borrow.Author.Tests.{ne_eqb, le-leb, lt-leb, leb-true, leb-false, not-false}
use Rattle.places.specs.Choice.{and_left, and_right}
use Rattle.admission.specs.Query.{known_change}
use Rattle.refusals.specs.Limits.{most_children, known_arity}
use Rattle.refusals.specs.Refusal.{ARGUMENT, ABSENT, CLOCK, first_of, done}
use Rattle.refusals.specs.First.{any_holds, first_none, first_given, first_done}
use Rattle.refusals.specs.Outcome.{refused}
use Rattle.table.specs.Record.{Record, record_of}
use Rattle.table.specs.Table.{right_size, records_in, records_of, at}
use Rattle.table.specs.Records.{records_length}
use Rattle.table.specs.Size.{rows_are}
use Rattle.table.specs.Stands.{right_most}
use Rattle.judge.specs.WellFormed.{WellFormed, well_formed}
use Rattle.survey.specs.Survey.{slot_of_card}
use Rattle.survey.specs.Laws.{slot_has_card}
use Rattle.judge.specs.Readable.{Readable}
use Rattle.admission.specs.Admission.{admission_tests, table_refuses, own_first}
use Rattle.view.specs.Shaped.{Shaped}
use Rattle.view.specs.Readable.{readable_formed, readable_shaped}
use Rattle.removal.specs.Leaving.{Held}
use Rattle.delete.specs.Delete.{clock_would_pass, deletion_tests, refusal_of, delete_of}
use Rattle.delete.specs.Call.{refused_by, outcome_at}

-- ---- the arguments

module _ (card arity : ℕ) (right : known_change card arity ≡ true) where
  pub right_card : 1 ≤ card
  right_card = leb-true 1 card (and_left (leb 1 card) (known_arity arity) right)

  pub right_arity : arity ≤ most_children
  right_arity =
      leb-true arity most_children
      (and_right (leb 1 arity) (leb arity most_children) (and_right (leb 1 card) (known_arity arity) right))

-- ---- a refusal

module _ (l : List ℕ) (card arity : ℕ) where
  abbrev n : ℕ
  n = records_in l

  abbrev v : ℕ
  v = slot_of_card (records_in l) (record_of l) card

  abbrev wrong : Bool
  wrong = not (known_change card arity)

  abbrev clock : Bool
  clock = clock_would_pass (records_of l) v

  refusal_given : (k : ℕ) → refusal_of l card arity ≡ k → (k ≡ done → ⊥) → refused_by k l ≡ delete_of l card arity
  unfolding delete_of refused
  refusal_given k e ne = sym (rw (e, ne_eqb k done ne))

  clock_refused : clock ≡ true → refusal_of l card arity ≡ CLOCK → outcome_at l v arity ≡ delete_of l card arity
  unfolding outcome_at delete_of
  clock_refused e given = rw (given, e)

  clock_passed : clock ≡ false → refusal_of l card arity ≡ done → outcome_at l v arity ≡ delete_of l card arity
  unfolding outcome_at delete_of
  clock_passed e given = rw (given, e)

  -- by the table's size or form
  pub admission_refused : (k : ℕ) → k ≡ first_of (admission_tests l) → (k ≡ done → ⊥)
      → refused_by k l ≡ delete_of l card arity
  unfolding refusal_of
  admission_refused k e ne =
      refusal_given k (table_refuses l (deletion_tests l card arity) (λ z. ne (e ∙ z)) ∙ sym e) ne

  module _ (admitted : first_of (admission_tests l) ≡ done) where
    own : refusal_of l card arity ≡ first_of (deletion_tests l card arity)
    unfolding refusal_of
    own = own_first l (deletion_tests l card arity) admitted

    -- by the arguments
    pub argument_refused : known_change card arity ≡ false → refused_by ARGUMENT l ≡ delete_of l card arity
    argument_refused e =
        refusal_given ARGUMENT
        (own ∙ first_given [] wrong ARGUMENT ((leb n v, ABSENT) ∷ (clock, CLOCK) ∷ []) refl (ap not e))
        (λ z. omega (arith, z))

    module _ (right : known_change card arity ≡ true) where
      -- "card not stored"
      pub absent_refused : records_in l ≤ slot_of_card (records_in l) (record_of l) card
          → refused_by ABSENT l ≡ delete_of l card arity
      absent_refused h =
          let none : wrong || false ≡ false = rw right in
          refusal_given ABSENT
          (own ∙ first_given ((wrong, ARGUMENT) ∷ []) (leb n v) ABSENT ((clock, CLOCK) ∷ []) none (le-leb n v h))
          (λ z. omega (arith, z))

      -- by the clock, or not at all
      pub present_done : slot_of_card (records_in l) (record_of l) card < records_in l
          → outcome_at l (slot_of_card (records_in l) (record_of l) card) arity ≡ delete_of l card arity
      present_done h = go clock refl
        where
          go : (t : Bool) → clock ≡ t → outcome_at l v arity ≡ delete_of l card arity
          go true e =
              let none : wrong || (leb n v || false) ≡ false = rw (right, lt-leb n v h) in
              clock_refused e (own ∙ first_given ((wrong, ARGUMENT) ∷ (leb n v, ABSENT) ∷ []) clock CLOCK [] none e)
          go false e =
              let none : wrong || (leb n v || (clock || false)) ≡ false = rw (right, lt-leb n v h, e) in
              clock_passed e (own ∙ first_done (deletion_tests l card arity) none)

  -- ---- the card stands in a well-formed table

  pub present_held :
      Readable l
      → known_change card arity ≡ true
      → slot_of_card (records_in l) (record_of l) card < records_in l
      → Held (records_of l) (slot_of_card (records_in l) (record_of l) card)
  present_held ok right h =
      let same = rows_are l ok.size in
      let card_here : (record_of l v).card ≡ card = slot_has_card n (record_of l) card h in
      record {
        small = rw (records_length l) (right_most l ok.size);
        shaped = rw (records_length l) (subst (λ (R : ℕ → Record). Shaped n R) (sym same) (readable_shaped ok));
        well_formed =
            rw (records_length l) (subst (λ (R : ℕ → Record). WellFormed n R) (sym same) (readable_formed ok));
        used = omega (arith, right_card card arity right, card_here, ap (λ (R : ℕ → Record). (R v).card) same);
      }

-- ---- no refusal

-- none of five tests holds
none_of_five :
    (a b c d e : Bool)
    → a || (b || (c || (d || (e || false)))) ≡ false
    → (a ≡ false) × (b ≡ false) × (c ≡ false) × (d ≡ false) × (e ≡ false)
none_of_five true b c d e h = absurd (false≢true (sym h))
none_of_five false true c d e h = absurd (false≢true (sym h))
none_of_five false false true d e h = absurd (false≢true (sym h))
none_of_five false false false true e h = absurd (false≢true (sym h))
none_of_five false false false false true h = absurd (false≢true (sym h))
none_of_five false false false false false h = (refl, refl, refl, refl, refl)

module _ (l : List ℕ) (card arity : ℕ) (none : refusal_of l card arity ≡ done) where
  abbrev v' : ℕ
  v' = slot_of_card (records_in l) (record_of l) card

  abbrev right' : Bool
  right' = known_change card arity

  none_holds : any_holds (admission_tests l ++ deletion_tests l card arity) ≡ false
  unfolding refusal_of
  none_holds = first_none (admission_tests l ++ deletion_tests l card arity) refl none

  each :
      (not (right_size (length l)) ≡ false)
      × (not (well_formed (records_in l) (record_of l)) ≡ false)
      × (not right' ≡ false)
      × (leb (records_in l) v' ≡ false)
      × (clock_would_pass (records_of l) v' ≡ false)
  each =
      none_of_five (not (right_size (length l))) (not (well_formed (records_in l) (record_of l))) (not right')
      (leb (records_in l) v') (clock_would_pass (records_of l) v') none_holds

  accepted_readable : Readable l
  accepted_readable =
      record {
        size = not-false (right_size (length l)) each.0;
        formed = not-false (well_formed (records_in l) (record_of l)) each.1;
      }

  accepted_right : right' ≡ true
  accepted_right = not-false right' each.2

  accepted_within : v' < records_in l
  accepted_within = leb-false (records_in l) v' each.3

  pub accepted_held : Held (records_of l) v'
  accepted_held = present_held l card arity accepted_readable accepted_right accepted_within

  pub accepted_arity : arity ≤ most_children
  accepted_arity = right_arity card arity accepted_right

  pub accepted_clock : clock_would_pass (records_of l) v' ≡ false
  accepted_clock = each.4

  pub accepted_slot : (at (records_of l) v').card ≡ card
  accepted_slot =
      ap (λ (R : ℕ → Record). (R v').card) (rows_are l accepted_readable.size)
      ∙ slot_has_card (records_in l) (record_of l) card accepted_within
