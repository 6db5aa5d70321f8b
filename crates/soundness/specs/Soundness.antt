-- "Sound" as a test that computes, in the paper's words; and what the check call gives for every input.
use Rattle.std.specs.Prelude.{ℕ, Bool, true, ◌&&◌, not, leb, ltb}
use mathlib.Core.List.{List, [], ◌∷◌, ◌++◌, tail}
use Rattle.places.specs.Choice.{implies}
use Rattle.distance.specs.Kind.{apart}
use Rattle.table.specs.Record.{Record, record_of, children}
use Rattle.table.specs.Table.{records_in}
use Rattle.judge.specs.WellFormed.{each_used}
use Rattle.survey.specs.Survey.{used_in, kind_of}
use Rattle.tree.specs.View.{under}
use Rattle.refusals.specs.Refusal.{LOOSE, first_of}
use Rattle.admission.specs.Admission.{admission_tests}

-- p holds of every slot in the list
unfoldable pub all_in : List ℕ → (ℕ → Bool) → Bool
all_in [] p = true
all_in (a ∷ l) p = p a && all_in l p

-- ---- a table of n records, of which R s stands in slot s

module _ (n : ℕ) (R : ℕ → Record) where
  -- the slots below slot a: all at or below it, without itself; there are at most as many levels as used records
  abbrev pub below : ℕ → List ℕ
  below a = tail (under (λ s. children (R s)) (used_in n R) a)

  -- how far the records in two slots are apart, by the table's kind
  abbrev pub between : ℕ → ℕ → ℕ
  between a b = apart (kind_of n R) (R a).readings (R b).readings

  -- (a) "each record's covering radius is at least its distance to every record below it"
  unfoldable pub all_covered : Bool
  all_covered = each_used n R (λ a. all_in (below a) (λ x. leb (between a x) (R a).radius))

  -- (b) "if b and c are children of one record, and x stands below b with c older than x,
  -- then x is no farther from b than from c"
  unfoldable pub all_near : Bool
  all_near =
      each_used n R (λ a.
      all_in (children (R a)) (λ b.
      all_in (children (R a)) (λ c.
      all_in (below b) (λ x.
      implies (ltb (R c).timestamp (R x).timestamp) (leb (between x b) (between x c))))))

  -- "Sound", of a table that is well formed
  unfoldable pub is_sound : Bool
  is_sound = all_covered && all_near

-- ---- the call

-- the refusal of the check call on the bytes l: "10 LOOSE: well formed, not sound"; 0 if the table is sound
unfoldable pub check_of : List ℕ → ℕ
check_of l =
    first_of (admission_tests l ++ ((not (is_sound (records_in l) (record_of l)), LOOSE) ∷ []))
