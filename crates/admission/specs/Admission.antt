-- What every call learns of a table before anything else: refusal 1 or 2, or else the answers to the small questions.
-- Assumes nothing.
use Rattle.std.specs.Prelude.{ℕ, ◌≡◌, refl, true, false, not, List, [], ◌∷◌, ◌++◌, eqb, length, Result, Ok, Err, IfOk}
use Rattle.std.proofs.Common.{sym, subst, ap, ◌∙◌, arith, eq-eqb, ne_eqb}
use Rattle.std.proofs.Math.Decide.{ℕ_discrete}
use Rattle.std.proofs.lemmas.Bool.{not-false}
use Rattle.places.specs.Choice.{pick, or_left, or_right}
use Rattle.refusals.specs.Refusal.{Test, first_of, done, SIZE, TABLE}
use Rattle.refusals.specs.declared.Refusal.{Refusal}
use Rattle.refusals.specs.declared.Refusal.TheVariants as refusal
use Rattle.refusals.specs.Told.{number_of, told}
use Rattle.refusals.specs.First.{any_holds, first_append, first_none}
use Rattle.table.specs.Record.{Record, record_of}
use Rattle.table.specs.Table.{right_size, records_in}
use Rattle.table.specs.Stands.{right_are}
use Rattle.table.specs.Same.{past_are}
use Rattle.judge.specs.WellFormed.{well_formed}
use Rattle.judge.specs.Readable.{Readable}
use Rattle.survey.specs.declared.Findings.{Findings}
use Rattle.survey.specs.Answers.{Answers}

-- "1, SIZE: the table's length isn't a multiple of 64 from 64 to 65,536; 2, TABLE: not well formed"
abbrev pub admission_tests : List ℕ → List Test
admission_tests l =
    (not (right_size (length l)), SIZE) ∷ (not (well_formed (records_in l) (record_of l)), TABLE) ∷ []

-- r is what is learnt of the table l: its refusal, or else the answers to the small questions
pub record Admits (l : List ℕ) (r : Result Findings Refusal) : Type 0 where
  pub refusal_is : told r ≡ first_of (admission_tests l)
  pub answers : IfOk r (λ f. Answers (records_in l) (record_of l) f)

-- ---- what a call knows once it looks at the answer

module _ {l : List ℕ} {r : Result Findings Refusal} (a : Admits l r) where
  pub admitted : {f : Findings} → r ≡ Ok f → first_of (admission_tests l) ≡ done
  admitted e = sym a.refusal_is ∙ ap told e

  pub admitted_answers : {f : Findings} → r ≡ Ok f → Answers (records_in l) (record_of l) f
  admitted_answers e =
      subst (λ (x : Result Findings Refusal). IfOk x (λ f. Answers (records_in l) (record_of l) f)) e a.answers

  pub not_admitted : {why : Refusal} → r ≡ Err why → number_of why ≡ first_of (admission_tests l)
  not_admitted e = sym (ap told e) ∙ a.refusal_is

-- ---- a table that is admitted

pub admitted_readable : (l : List ℕ) → first_of (admission_tests l) ≡ done → Readable l
admitted_readable l e =
    let a = not (right_size (length l)) in
    let b = not (well_formed (records_in l) (record_of l)) in
    let none = first_none (admission_tests l) refl e in
    record {
      size = not-false (right_size (length l)) (or_left a (any_holds ((b, TABLE) ∷ [])) none);
      formed =
          not-false (well_formed (records_in l) (record_of l))
          (or_left b false (or_right a (any_holds ((b, TABLE) ∷ [])) none));
    }

-- ---- a call's own tests, after those of its table

module _ (l : List ℕ) (own : List Test) where
  by_groups :
      first_of (admission_tests l ++ own)
      ≡ pick (eqb (first_of (admission_tests l)) done) (first_of own) (first_of (admission_tests l))
  by_groups = first_append (admission_tests l) own refl

  -- the table's refusal comes first
  pub table_refuses :
      (first_of (admission_tests l) ≡ done → ⊥) → first_of (admission_tests l ++ own) ≡ first_of (admission_tests l)
  table_refuses n = by_groups ∙ rw (ne_eqb (first_of (admission_tests l)) done n)

  -- and of an admitted table the call's own
  pub own_first : first_of (admission_tests l) ≡ done → first_of (admission_tests l ++ own) ≡ first_of own
  own_first e = by_groups ∙ rw (eq-eqb (first_of (admission_tests l)) done e)

  -- a call that is not refused was lent a table that is admitted
  pub table_passes : first_of (admission_tests l ++ own) ≡ done → first_of (admission_tests l) ≡ done
  table_passes e = elim (ℕ_discrete (first_of (admission_tests l)) done) [
    | yes z ↦ z
    | no n ↦ absurd (n (sym (table_refuses n) ∙ e))
  ]

-- ---- the three ends of the judging

-- slot n of n records stands past the last, and has kind 0
pub past_kind : (l : List ℕ) → right_size (length l) ≡ true → (record_of l (records_in l)).kind ≡ 0
past_kind l e = ap (λ (r : Record). r.kind) (past_are l (records_in l) (records_in l) (right_are l e) (omega arith))

pub admits_size : (l : List ℕ) → right_size (length l) ≡ false → Admits l (Err refusal.Size)
admits_size l e = record { refusal_is = sym (rw e); answers = tt }

pub admits_table :
    (l : List ℕ)
    → right_size (length l) ≡ true
    → well_formed (records_in l) (record_of l) ≡ false
    → Admits l (Err refusal.Table)
admits_table l e w = record { refusal_is = sym (rw (e, w)); answers = tt }

pub admits_done :
    (l : List ℕ) (f : Findings)
    → right_size (length l) ≡ true
    → well_formed (records_in l) (record_of l) ≡ true
    → Answers (records_in l) (record_of l) f
    → Admits l (Ok f)
admits_done l f e w a = record { refusal_is = sym (rw (e, w)); answers = a }
