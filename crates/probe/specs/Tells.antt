-- The probe's answers to the small questions; a table that is answered for is of the right size. Assumes nothing.
use Rattle.std.specs.Prelude.{ℕ, ◌≤◌, ◌≡◌, true, List, length}
use Rattle.std.proofs.Common.{sym, ◌∙◌, arith, eq-eqb, ne_eqb}
use Rattle.refusals.specs.Limits.{most_records}
use Rattle.refusals.specs.Refusal.{done}
use Rattle.table.specs.Record.{Record, record_of}
use Rattle.table.specs.Table.{right_size, records_in}
use Rattle.survey.specs.declared.Findings.{Findings}
use Rattle.survey.specs.Survey.{used_in, lowest_free, root_of, kind_of, largest_timestamp}
use Rattle.survey.specs.Answers.{Answers, slot_or}
use Rattle.survey.specs.Laws.{used_in_most, lowest_at_most, root_at_most}
use Rattle.admission.specs.Admission.{admitted_readable}
use Rattle.probe.specs.Probe.{asked, judge_probe, no_answer}
use Rattle.probe.specs.declared.Told.{Told}

pub record Tells (l : List ℕ) (r : Told) : Type 0 where
  pub used : r.used ≡ asked l used_in
  pub lowest : r.lowest ≡ asked l lowest_free
  pub largest : r.largest ≡ asked l largest_timestamp
  pub root : r.root ≡ asked l root_of
  pub kind : r.kind ≡ asked l kind_of

-- slots and counts within a table's most, of n records
abbrev pub Small : ℕ → Findings → Type 0
Small n f = (f.used ≤ most_records) × (slot_or n f.lowest ≤ most_records) × (slot_or n f.root ≤ most_records)

-- the same numbers
pub record Widened (n : ℕ) (f : Findings) (r : Told) : Type 0 where
  pub used : r.used ≡ f.used
  pub lowest : r.lowest ≡ slot_or n f.lowest
  pub largest : r.largest ≡ f.largest
  pub root : r.root ≡ slot_or n f.root
  pub kind : r.kind ≡ f.kind

-- a table that is judged well formed is of the right size
pub judged_size : (l : List ℕ) → judge_probe l ≡ done → right_size (length l) ≡ true
unfolding judge_probe
judged_size l e = (admitted_readable l e).size

-- a question is answered if the table is judged well formed
pub asked_yes :
    (l : List ℕ) (question : ℕ → (ℕ → Record) → ℕ)
    → judge_probe l ≡ done
    → asked l question ≡ question (records_in l) (record_of l)
unfolding asked
asked_yes l question e = rw (eq-eqb _ _ e)

pub asked_no :
    (l : List ℕ) (question : ℕ → (ℕ → Record) → ℕ) → (judge_probe l ≡ done → ⊥) → asked l question ≡ no_answer
unfolding asked
asked_no l question n = rw (ne_eqb _ _ n)

-- ---- the two ends

pub answers_small : (n : ℕ) (R : ℕ → Record) (f : Findings) → n ≤ most_records → Answers n R f → Small n f
answers_small n R f few a = (
  omega (arith, a.used, used_in_most n R),
  omega (arith, a.lowest.0, lowest_at_most n R),
  omega (arith, a.root.0, root_at_most n R),
)

pub tells_found :
    (l : List ℕ) (f : Findings) (r : Told)
    → judge_probe l ≡ done
    → Answers (records_in l) (record_of l) f
    → Widened (records_in l) f r
    → Tells l r
tells_found l f r e a w =
    record {
      used = w.used ∙ a.used ∙ sym (asked_yes l used_in e);
      lowest = w.lowest ∙ a.lowest.0 ∙ sym (asked_yes l lowest_free e);
      largest = w.largest ∙ a.largest ∙ sym (asked_yes l largest_timestamp e);
      root = w.root ∙ a.root.0 ∙ sym (asked_yes l root_of e);
      kind = w.kind ∙ a.kind ∙ sym (asked_yes l kind_of e);
    }

pub tells_nothing :
    (l : List ℕ)
    → (judge_probe l ≡ done → ⊥)
    → Tells
    l
    (record { used = no_answer; lowest = no_answer; largest = no_answer; root = no_answer; kind = no_answer })
tells_nothing l ne =
    record {
      used = sym (asked_no l used_in ne);
      lowest = sym (asked_no l lowest_free ne);
      largest = sym (asked_no l largest_timestamp ne);
      root = sym (asked_no l root_of ne);
      kind = sym (asked_no l kind_of ne);
    }
