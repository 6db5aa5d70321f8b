-- The refusals in the groups in which the call tests them: the admission's, and then its own, by the arguments and by
-- what the table holds, one test after the other. Assumes nothing.
use Rattle.std.specs.Prelude.{ℕ, ◌≤◌, ◌<◌, Bool, true, false, ◌||◌, not, ◌≡◌, refl, List, [], ◌∷◌, leb, ltb}
use Rattle.std.proofs.lemmas.Bool.{false≢true, lt-leb}
use Rattle.std.proofs.Common.{sym, lt-ltb, le-ltb, le-leb}
use Rattle.table.specs.Record.{record_of}
use Rattle.table.specs.Table.{records_in}
use Rattle.survey.specs.declared.Findings.{Findings}
use Rattle.survey.specs.Survey.{slot_of_card, lowest_free, largest_timestamp}
use Rattle.survey.specs.Answers.{Answers, slot_or}
use Rattle.refusals.specs.Refusal.{Test, first_of, done, ARGUMENT, KIND, TWICE, FULL, CLOCK}
use Rattle.refusals.specs.Limits.{last_timestamp}
use Rattle.admission.specs.Admission.{admission_tests, table_refuses, own_first}
use Rattle.admission.specs.Query.{other_kind, other_found, other_found_lem}
use Rattle.insert.specs.Insert.{right_arguments, refusal_of}

-- ---- the groups

-- by what a table of n records holds, of its survey's findings, where the card stands in `slot`
abbrev pub held_by : Findings → ℕ → ℕ → ℕ → List Test
held_by f n kind slot =
    (other_found f kind, KIND)
    ∷ (ltb slot n, TWICE)
    ∷ (leb n (slot_or n f.lowest), FULL)
    ∷ (leb last_timestamp f.largest, CLOCK)
    ∷ []

-- none of five tests holds: each of them does not
pub none_of_five :
    (a b c d e : Bool)
    → a || (b || (c || (d || (e || false)))) ≡ false
    → (a ≡ false) × (b ≡ false) × (c ≡ false) × (d ≡ false) × (e ≡ false)
none_of_five true b c d e h = absurd (false≢true (sym h))
none_of_five false true c d e h = absurd (false≢true (sym h))
none_of_five false false true d e h = absurd (false≢true (sym h))
none_of_five false false false true e h = absurd (false≢true (sym h))
none_of_five false false false false true h = absurd (false≢true (sym h))
none_of_five false false false false false h = (refl, refl, refl, refl, refl)

module _ (l : List ℕ) (card kind arity : ℕ) (s : List ℕ) where
  abbrev n : ℕ
  n = records_in l

  -- by what the table holds, in the definition's words
  abbrev pub held_tests : List Test
  held_tests =
      (other_kind n (record_of l) kind, KIND)
      ∷ (ltb (slot_of_card n (record_of l) card) n, TWICE)
      ∷ (leb n (lowest_free n (record_of l)), FULL)
      ∷ (leb last_timestamp (largest_timestamp n (record_of l)), CLOCK)
      ∷ []

  -- all that are insert's own
  abbrev pub own_tests : List Test
  own_tests = (not (right_arguments card kind arity s), ARGUMENT) ∷ held_tests

  -- the survey's answers give the definition's tests
  pub found_held :
      {f : Findings}
      → Answers n (record_of l) f
      → (slot : ℕ)
      → slot ≡ slot_of_card n (record_of l) card
      → first_of (held_by f n kind slot) ≡ first_of held_tests
  found_held answers slot at_slot = rw (other_found_lem kind answers, answers.lowest.0, answers.largest, at_slot)

  -- ---- insert's own refusal

  pub own_argument : right_arguments card kind arity s ≡ false → ARGUMENT ≡ first_of own_tests
  own_argument e = rw e

  pub own_held : right_arguments card kind arity s ≡ true → first_of own_tests ≡ first_of held_tests
  own_held e = rw e

  module _ (right : right_arguments card kind arity s ≡ true) where
    pub own_kind : other_kind n (record_of l) kind ≡ true → KIND ≡ first_of own_tests
    own_kind e = rw (own_held right, e)

    module _ (same : other_kind n (record_of l) kind ≡ false) where
      pub own_twice : slot_of_card n (record_of l) card < n → TWICE ≡ first_of own_tests
      own_twice h = rw (own_held right, same, lt-ltb _ _ h)

      module _ (new : n ≤ slot_of_card n (record_of l) card) where
        pub own_full : n ≤ lowest_free n (record_of l) → FULL ≡ first_of own_tests
        own_full h = rw (own_held right, same, le-ltb _ _ new, le-leb _ _ h)

        module _ (room : lowest_free n (record_of l) < n) where
          pub own_clock : last_timestamp ≤ largest_timestamp n (record_of l) → CLOCK ≡ first_of own_tests
          own_clock h = rw (own_held right, same, le-ltb _ _ new, lt-leb _ _ room, le-leb _ _ h)

          pub own_none : largest_timestamp n (record_of l) < last_timestamp → done ≡ first_of own_tests
          own_none h = rw (own_held right, same, le-ltb _ _ new, lt-leb _ _ room, lt-leb _ _ h)

  -- ---- the refusal

  abbrev first : ℕ
  first = first_of (admission_tests l)

  -- the admission's, if there is one, and else insert's own
  pub refusal_first : (first ≡ done → ⊥) → refusal_of l card kind arity s ≡ first
  unfolding refusal_of
  refusal_first ne = table_refuses l own_tests ne

  pub refusal_own : first ≡ done → refusal_of l card kind arity s ≡ first_of own_tests
  unfolding refusal_of
  refusal_own e = own_first l own_tests e
