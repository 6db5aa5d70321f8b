-- A history told on rows of records, so that it can be computed: what each call reports, the records that it leaves and
-- the cards then stored come out of the records alone. That they are those of the bytes is shown in OnRows. Only the
-- calls that the worked examples make are told here (`Step`), so that a further call of a history changes nothing.
-- Assumes nothing.
use Rattle.std.specs.Prelude.{ℕ, ◌^◌, ◌≤◌, ◌<◌, ◌≡◌, true, ◌&&◌, not, List, [], ◌∷◌, eqb, leb, ltb, length, take, set}
use Rattle.std.proofs.Common.{sym, ap, ◌∙◌}
use Rattle.std.proofs.lemmas.List.Edits.{sets}
use Rattle.places.specs.Choice.{pick}
use Rattle.distance.specs.Signature.{readings_at}
use Rattle.distance.specs.Kind.{apart, known_kind}
use Rattle.table.specs.Record.{Record}
use Rattle.refusals.specs.Limits.{most_records, last_timestamp, signature_length}
use Rattle.table.specs.Table.{right_size, records_of, at}
use Rattle.writing.specs.Put.{put_radius, with_radius}
use Rattle.writing.specs.Laws.{put_radius_lem}
use Rattle.table.specs.Stands.{are_stands}
use Rattle.table.specs.Records.{records_length}
use Rattle.table.specs.Size.{rows_are}
use Rattle.judge.specs.WellFormed.{well_formed}
use Rattle.survey.specs.Survey.{used_in, slot_of_card, lowest_free, largest_timestamp}
use Rattle.refusals.specs.Refusal.{TABLE, ARGUMENT, KIND, TWICE, ABSENT, FULL, CLOCK, SHORT, LOOSE, first_of, done}
use Rattle.admission.specs.Query.{other_kind, known_change}
use Rattle.placing.specs.Place.{Placed, placed}
use Rattle.newcomer.specs.Newcomer.{Newcomer}
use Rattle.insert.specs.Insert.{right_arguments}
use Rattle.insert.specs.Accepted.{comer}
use Rattle.delete.specs.Delete.{deleted, clock_would_pass}
use Rattle.search.specs.Search.{cards, distances}
use Rattle.soundness.specs.Soundness.{is_sound, check_of}
use Rattle.history.specs.History as History
use Rattle.history.specs.History.{Call, writes, reads, State}
use Rattle.history.specs.History.{without, Line, line}
use Rattle.history.specs.Demands.{Holds}
use Rattle.history.proofs.Holds.{sized}

-- ---- the calls of the worked examples

pub data Step : Type 0 where
  insert : (card kind arity : ℕ) (signature : List ℕ) → Step
  delete : (card arity : ℕ) → Step
  search : (kind : ℕ) (signature : List ℕ) (radius : ℕ) (list : List ℕ) → Step
  check : Step

abbrev pub call : Step → Call
call (insert card kind arity signature) = writes (History.insert card kind arity signature)
call (delete card arity) = writes (History.delete card arity)
call (search kind signature radius list) = reads (History.search kind signature radius list)
call check = reads History.check

abbrev pub calls : List Step → List Call
calls [] = []
calls (c ∷ cs) = call c ∷ calls cs

-- ---- the calls on rows that make a well-formed table of the right size

module _ (rows : List Record) where
  abbrev pub n : ℕ
  n = length rows

  unfoldable pub insert_refusal : ℕ → ℕ → ℕ → List ℕ → ℕ
  insert_refusal card kind arity s =
      first_of
      ((not (right_arguments card kind arity s), ARGUMENT)
      ∷ (other_kind n (at rows) kind, KIND)
      ∷ (ltb (slot_of_card n (at rows) card) n, TWICE)
      ∷ (leb n (lowest_free n (at rows)), FULL)
      ∷ (leb last_timestamp (largest_timestamp n (at rows)), CLOCK)
      ∷ [])

  unfoldable pub insert_placed : ℕ → ℕ → ℕ → List ℕ → Placed
  insert_placed card kind arity s =
      placed (apart kind) arity (lowest_free n (at rows)) (comer card kind s) rows

  unfoldable pub delete_refusal : ℕ → ℕ → ℕ
  delete_refusal card arity =
      first_of
      ((not (known_change card arity), ARGUMENT)
      ∷ (leb n (slot_of_card n (at rows) card), ABSENT)
      ∷ (clock_would_pass rows (slot_of_card n (at rows) card), CLOCK)
      ∷ [])

  unfoldable pub delete_placed : ℕ → ℕ → Placed
  delete_placed card arity = deleted arity rows (slot_of_card n (at rows) card)

  unfoldable pub search_refusal : ℕ → List ℕ → ℕ → ℕ
  search_refusal kind s m =
      first_of
      ((not (known_kind kind && eqb (length s) signature_length), ARGUMENT)
      ∷ (other_kind n (at rows) kind, KIND)
      ∷ (ltb m (used_in n (at rows)), SHORT)
      ∷ [])

  unfoldable pub search_line : ℕ → List ℕ → ℕ → List ℕ → Line
  search_line kind q r list =
      line
      done
      (distances n (at rows) kind q r)
      (length (cards n (at rows) kind q r))
      (take (length (cards n (at rows) kind q r)) (sets list 0 (cards n (at rows) kind q r)))

-- what a call reports; `accepted` is the line of an accepted one
abbrev answer : ℕ → Line → Line
answer refusal accepted = pick (eqb refusal done) accepted (line refusal 0 0 [])

unfoldable pub report_on : Step → List Record → Line
report_on (insert card kind arity s) rows =
    answer (insert_refusal rows card kind arity s) (line done (insert_placed rows card kind arity s).count 0 [])
report_on (delete card arity) rows =
    answer (delete_refusal rows card arity) (line done (delete_placed rows card arity).count 0 [])
report_on (search kind s r list) rows =
    answer (search_refusal rows kind s (length list)) (search_line rows kind (readings_at s 0) r list)
report_on check rows = line done 0 0 []

-- the records that a call leaves
unfoldable pub after_on : Step → List Record → List Record
after_on (insert card kind arity s) rows =
    pick (eqb (insert_refusal rows card kind arity s) done) (insert_placed rows card kind arity s).rows rows
after_on (delete card arity) rows =
    pick (eqb (delete_refusal rows card arity) done) (delete_placed rows card arity).rows rows
after_on (search kind s r list) rows = rows
after_on check rows = rows

unfoldable pub reports_on : List Step → List Record → List Line
reports_on [] rows = []
reports_on (c ∷ cs) rows = report_on c rows ∷ reports_on cs (after_on c rows)

unfoldable pub run_on : List Step → List Record → List Record
run_on [] rows = rows
run_on (c ∷ cs) rows = run_on cs (after_on c rows)

-- the cards that are stored after a call
unfoldable pub stored_on : Step → List Record → List Newcomer → List Newcomer
stored_on (insert card kind arity s) rows xs =
    pick
    (eqb (insert_refusal rows card kind arity s) done)
    (comer card kind s ∷ xs)
    xs
stored_on (delete card arity) rows xs = pick (eqb (delete_refusal rows card arity) done) (without card xs) xs
stored_on (search kind s r list) rows xs = xs
stored_on check rows xs = xs

unfoldable pub stored_after : List Step → List Record → List Newcomer → List Newcomer
stored_after [] rows xs = xs
stored_after (c ∷ cs) rows xs = stored_after cs (after_on c rows) (stored_on c rows xs)

-- ---- check, of any table of the right size

unfoldable pub check_on : List Record → ℕ
check_on rows =
    first_of
    ((not (well_formed (length rows) (at rows)), TABLE)
    ∷ (not (is_sound (length rows) (at rows)), LOOSE)
    ∷ [])

pub check_on_lem : (l : List ℕ) → right_size (length l) ≡ true → check_of l ≡ check_on (records_of l)
unfolding check_of check_on
check_on_lem l size = rw (size, records_length l, rows_are l size)

-- the record in slot s with another covering radius
unfoldable pub reradius : ℕ → ℕ → List Record → List Record
reradius s v rows = set rows s (with_radius (at rows s) v)

-- and then a check
pub check_reradius :
    {m : ℕ} {st : State}
    → 1 ≤ m
    → m ≤ most_records
    → Holds m st
    → (s v : ℕ)
    → s < m
    → v < 256 ^ 4
    → check_of (put_radius st.table s v) ≡ check_on (reradius s v (records_of st.table))
unfolding reradius
check_reradius {m} {st} some small h s v b fits =
    let l = st.table in
    let new = put_radius_lem l s (are_stands l m s h.size b) v fits in
    let right = sized some small h in
    let long : length (put_radius l s v) ≡ length l = new.same_length in
    check_on_lem (put_radius l s v) (rw long right)
    ∙ ap check_on
    (new.records ∙ ap (λ (S : ℕ → Record). set (records_of l) s (with_radius (S s) v)) (sym (rows_are l right)))
