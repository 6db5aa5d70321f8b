-- What every call that looks for a signature asks of what it is told, and of the table's kind. Assumes nothing.
use Rattle.std.specs.Prelude.{ℕ, ◌≤◌, ◌≡◌, Bool, true, false, ◌&&◌, not, List, leb, ltb, eqb, length}
use Rattle.std.proofs.Common.{eqb-true, lt-ltb}
use Rattle.std.proofs.lemmas.Bool.{not-false}
use Rattle.places.specs.Choice.{and_right}
use Rattle.distance.specs.Kind.{known_kind}
use Rattle.refusals.specs.Limits.{signature_length, known_arity}
use Rattle.table.specs.Record.{Record}
use Rattle.survey.specs.declared.Findings.{Findings}
use Rattle.survey.specs.Survey.{used_in, kind_of}
use Rattle.survey.specs.Answers.{Answers}

-- "3, ARGUMENT: .. kind not 1 or 2, or signature not 32 bytes": the kind and the signature's bytes s are none of these
abbrev pub known_query : ℕ → List ℕ → Bool
known_query kind s = known_kind kind && eqb (length s) signature_length

-- "3, ARGUMENT: card 0; arity not 1 to 8", of a call that changes the table
abbrev pub known_change : ℕ → ℕ → Bool
known_change card arity = leb 1 card && known_arity arity

-- "4, KIND: used table of the other kind"
unfoldable pub other_kind : ℕ → (ℕ → Record) → ℕ → Bool
other_kind n R kind = ltb 0 (used_in n R) && not (eqb (kind_of n R) kind)

-- the same, by what was found in the table
abbrev pub other_found : Findings → ℕ → Bool
other_found f kind = ltb 0 f.used && not (eqb f.kind kind)

pub other_found_lem :
    {n : ℕ} {R : ℕ → Record} {f : Findings} (kind : ℕ) → Answers n R f → other_found f kind ≡ other_kind n R kind
unfolding other_kind
other_found_lem kind a = rw (a.used, a.kind)

-- ---- what the tests show of a call that passes them

pub query_length : (kind : ℕ) (s : List ℕ) → known_query kind s ≡ true → length s ≡ signature_length
query_length kind s e = eqb-true (length s) signature_length (and_right (known_kind kind) _ e)

pub query_kind :
    (n : ℕ) (R : ℕ → Record) (kind : ℕ) → other_kind n R kind ≡ false → 1 ≤ used_in n R → kind_of n R ≡ kind
unfolding other_kind
query_kind n R kind e some = eqb-true (kind_of n R) kind (not-false _ (rw (lt-ltb 0 (used_in n R) some) at e))
