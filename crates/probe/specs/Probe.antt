-- What each probe answers, for every input. A probe that cannot be answered gives `no_answer`.
use Rattle.std.specs.Prelude.{ℕ, ◌&&◌, List, eqb, length}
use Rattle.places.specs.Choice.{pick}
use Rattle.distance.specs.Signature.{readings_at}
use Rattle.distance.specs.Kind.{known_kind, apart}
use Rattle.refusals.specs.Limits.{signature_length}
use Rattle.refusals.specs.Refusal.{first_of, done}
use Rattle.table.specs.Record.{Record, record_of}
use Rattle.table.specs.Table.{records_in}
use Rattle.survey.specs.Survey.{slot_of_card}
use Rattle.admission.specs.Admission.{admission_tests}

abbrev pub no_answer : ℕ
no_answer = 4294967295

-- the distance of two whole signatures, of a known kind
unfoldable pub distance_probe : ℕ → List ℕ → List ℕ → ℕ
distance_probe kind a b =
    pick
    (known_kind kind && (eqb (length a) signature_length && eqb (length b) signature_length))
    (apart kind (readings_at a 0) (readings_at b 0))
    no_answer

-- 0 if the table is well formed, 1 if its size is wrong, and 2 if it is malformed
unfoldable pub judge_probe : List ℕ → ℕ
judge_probe l = first_of (admission_tests l)

-- a question that is asked of well-formed tables alone
unfoldable pub asked : List ℕ → (ℕ → (ℕ → Record) → ℕ) → ℕ
asked l question = pick (eqb (judge_probe l) done) (question (records_in l) (record_of l)) no_answer

-- card 0 is stored nowhere
unfoldable pub slot_question : ℕ → ℕ → (ℕ → Record) → ℕ
slot_question card n R = pick (eqb card 0) n (slot_of_card n R card)
