-- The call's ends: refused by the first tests or by the later ones, or placed (`ends_refused`, `ends_placed`), and what
-- the placing may then know (`found_placeable`). Assumes nothing.
use Prim.Native.Nat.{ℕ}
use mathlib.Core.Bool.{Bool}
use mathlib.Core.Path.{◌≡◌, sym, ap, ap₂, ◌∙◌}
use mathlib.Core.List.{List}
use lib.ListN.{length}
use borrow.Author.Tests.{eq-eqb, ne_eqb}
use Rattle.places.specs.Choice.{pick}
use Rattle.number.specs.Frame.{Bytes}
use Rattle.distance.specs.Signature.{readings_at, readings_fit}
use Rattle.distance.specs.Kind.{apart}
use Rattle.table.specs.Record.{record_of}
use Rattle.table.specs.Table.{records_in, records_of}
use Rattle.table.specs.Stands.{are_whole, right_are, whole_same}
use Rattle.table.specs.RoundTrip.{bytes_back}
use Rattle.survey.specs.declared.Findings.{Findings}
use Rattle.survey.specs.Answers.{Answers}
use Rattle.survey.specs.Survey.{lowest_free}
use Rattle.refusals.specs.Refusal.{done}
use Rattle.placing.specs.Place.{placed}
use Rattle.newcomer.specs.Newcomer.{Newcomer, newcomer}
use Rattle.insert.specs.Insert.{refusal_of, inserted, insert_of}
use Rattle.placing.specs.Changed.{changed}
use Rattle.refusals.specs.Outcome.{Outcome, refused}
use Rattle.insert.specs.Accepted.{comer, accepted_readable, accepted_ready, accepted_clock}
use Rattle.placing.specs.Hangable.{leaves}
use Rattle.placing.specs.Placeable.{Placeable}

module _ (l : List ℕ) (card kind arity : ℕ) (s : List ℕ) where
  abbrev n : ℕ
  n = records_in l

  -- ---- refused

  pub ends_refused :
      (k : ℕ)
      → k ≡ refusal_of l card kind arity s
      → (k ≡ done → ⊥)
      → ◌≡◌ {A = Outcome} (record { refusal = k; count = 0; table = l }) (insert_of l card kind arity s)
  unfolding insert_of refused
  ends_refused k e ne = rw (← e, ne_eqb k done ne)

  -- ---- placed

  module _ (none : refusal_of l card kind arity s ≡ done) {f : Findings} (answers : Answers n (record_of l) f)
      (bytes : Bytes s) (y : List ℕ) (read : y ≡ readings_at s 0)
      (slot : ℕ) (lowest : slot ≡ lowest_free n (record_of l)) where
    abbrev x : Newcomer
    x = newcomer card kind y

    same_comer : comer card kind s ≡ x
    same_comer = ap (newcomer card kind) (sym read)

    pub found_placeable : Placeable l slot f x arity
    found_placeable =
        record {
          answers = answers;
          size = (accepted_readable l card kind arity s none).size;
          ready = rw (lowest, ← same_comer) (accepted_ready l card kind arity s none);
          fit = rw read (readings_fit s 0 bytes);
          clock = rw answers.largest (accepted_clock l card kind arity s none);
        }

    pub ends_placed :
        (j : List ℕ) (r : ℕ)
        → Bytes j
        → length j ≡ length l
        → leaves j r ≡ placed (apart kind) arity slot x (records_of l)
        → ◌≡◌ {A = Outcome} (record { refusal = done; count = r; table = j }) (insert_of l card kind arity s)
    unfolding insert_of changed inserted
    ends_placed j r bytes-j long e =
        let right = (accepted_readable l card kind arity s none).size in
        let even = whole_same l j long (are_whole l n (right_are l right)) in
        let p : leaves j r ≡ inserted l card kind arity s =
        e
        ∙ ap₂
        (λ (i : ℕ) (z : Newcomer). placed (apart kind) arity i z (records_of l))
        lowest
        (sym same_comer) in
        ap (λ (k : List ℕ). record { refusal = done; count = r; table = k }) (sym (bytes_back j bytes-j even))
        ∙ ap changed p
        ∙ ap
        (λ (t : Bool). pick t (changed (inserted l card kind arity s)) (refused (refusal_of l card kind arity s) l))
        (sym (eq-eqb (refusal_of l card kind arity s) done none))
