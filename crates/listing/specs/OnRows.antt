-- A history told on rows is the history: after it the tests of size and table are passed, and all else that a call
-- looks at is in the records. Assumes nothing.
use Prim.Native.Nat.{ℕ, ◌≤◌, ◌<◌}
use Rattle.std.specs.Prelude.{◌≡◌, true, length, replicate}
use Rattle.std.proofs.Math.Path.{refl, ap, ap₂}
use Rattle.std.proofs.Common.{sym, ◌∙◌, arith, ext_get_or}
use mathlib.Core.List.{List, [], ◌∷◌}
use Rattle.std.proofs.Math.Decide.{ℕ_discrete}
use Rattle.std.proofs.lemmas.List.{length-replicate, get_or-replicate}
use borrow.Author.Tests.{ne_eqb}
use Rattle.table.specs.Record.{Record, free, record_of}
use Rattle.refusals.specs.Limits.{most_records}
use Rattle.table.specs.Table.{right_size, records_in, free_table, records_of}
use Rattle.table.specs.Stands.{are_in, free_are}
use Rattle.table.specs.Same.{free_table_lem}
use Rattle.table.specs.Records.{records_length, records_in_lem}
use Rattle.table.specs.Size.{rows_are}
use Rattle.judge.specs.WellFormed.{well_formed}
use Rattle.judge.specs.Decided.{formed_decided}
use Rattle.survey.specs.Survey.{slot_of_card}
use Rattle.refusals.specs.Refusal.{done}
use Rattle.placing.specs.Place.{Placed}
use Rattle.insert.specs.Insert.{inserted}
use Rattle.placing.specs.Changed.{changed}
use Rattle.refusals.specs.Outcome.{refused}
use Rattle.insert.specs.Insert as Insert
use Rattle.insert.specs.Promises as Inserts
use Rattle.delete.specs.Delete.{deleted}
use Rattle.delete.specs.Delete as Delete
use Rattle.delete.proofs.Promises as Deletes
use Rattle.search.specs.Search.{listing}
use Rattle.search.specs.Search as Search
use Rattle.search.specs.Laws.{accepted_is}
use Rattle.search.specs.Promises.{refused_leaves}
use Rattle.history.specs.History.{outcome_of, stored_by, tells_of, Typed, AllTyped, State, cleared}
use Rattle.history.specs.History.{after, run, Line, report_of, reports}
use Rattle.history.specs.Demands.{Holds}
use Rattle.history.proofs.Holds.{sized, records_are}
use Rattle.history.proofs.Kept.{after_holds}
use Rattle.history.proofs.Searched.{check_done}
use Rattle.history.specs.Refused.{insert_accepted, insert_refused, insert_refusal_lem, delete_accepted}
use Rattle.history.specs.Refused.{delete_refused, delete_refusal_lem}
use Rattle.listing.specs.Rows.{
  Step,
  after_on,
  call,
  calls,
  check,
  delete,
  delete_placed,
  delete_refusal,
  insert,
  insert_placed,
  insert_refusal,
  report_on,
  reports_on,
  run_on,
  search,
  search_line,
  search_refusal,
  stored_after,
  stored_on,
}

-- ---- a cleared table

pub free_rows : (n : ℕ) → records_of (free_table n) ≡ replicate n free
free_rows n =
    let l = free_table n in
    let long : records_in l ≡ n = are_in l n (free_are n) in
    ext_get_or free (records_of l) (replicate n free)
    (records_length l ∙ long ∙ sym (length-replicate n free))
    (λ s p.
    let b : s < n = omega (arith, records_length l) in
    records_in_lem l s (omega arith) ∙ free_table_lem n s ∙ sym (get_or-replicate n s free free b))

pub cleared_rows : (n : ℕ) → records_of (cleared n).table ≡ replicate n free
unfolding cleared
cleared_rows n = free_rows n

-- ---- a table that holds

module _ {m : ℕ} (some : 1 ≤ m) (small : m ≤ most_records) {st : State} (h : Holds m st) where
  abbrev l : List ℕ
  l = st.table

  size : right_size (length st.table) ≡ true
  size = sized some small h

  formed : well_formed (records_in st.table) (record_of st.table) ≡ true
  formed = rw (records_are h) ((formed_decided m (record_of st.table)).passes h.sound.well_formed)

  insert_same :
      (card kind arity : ℕ) (s : List ℕ)
      → Insert.refusal_of l card kind arity s ≡ insert_refusal (records_of l) card kind arity s
  unfolding Insert.refusal_of insert_refusal
  insert_same card kind arity s = rw (size, formed, records_length l, rows_are l size)

  delete_same : (card arity : ℕ) → Delete.refusal_of l card arity ≡ delete_refusal (records_of l) card arity
  unfolding Delete.refusal_of delete_refusal
  delete_same card arity = rw (size, formed, records_length l, rows_are l size)

  search_same : (kind : ℕ) (s : List ℕ) (k : ℕ) → Search.refusal_of l kind s k ≡ search_refusal (records_of l) kind s k
  unfolding Search.refusal_of search_refusal
  search_same kind s k = rw (size, formed, records_length l, rows_are l size)

  insert_same_placed :
      (card kind arity : ℕ) (s : List ℕ)
      → inserted l card kind arity s ≡ insert_placed (records_of l) card kind arity s
  unfolding inserted insert_placed
  insert_same_placed card kind arity s = rw (records_length l, rows_are l size)

  delete_same_placed :
      (card arity : ℕ)
      → deleted arity (records_of l) (slot_of_card (records_in l) (record_of l) card) ≡ delete_placed (records_of l)
      card arity
  unfolding delete_placed
  delete_same_placed card arity =
      ap₂ (λ (k : ℕ) (S : ℕ → Record). deleted arity (records_of l) (slot_of_card k S card))
      (sym (records_length l))
      (sym (rows_are l size))

  -- what a call reports
  pub report_on_lem : (c : Step) → report_of (call c) st ≡ report_on c (records_of st.table)
  unfolding report_of outcome_of tells_of report_on changed refused listing search_line
  report_on_lem (insert card kind arity s) = elim (ℕ_discrete (Insert.refusal_of l card kind arity s) done) [
    | yes e ↦
        let same = insert_same_placed card kind arity s in
        rw (← insert_same card kind arity s, insert_accepted l card kind arity s e, e, same)
    | no ne ↦ rw (← insert_same card kind arity s, insert_refused l card kind arity s ne, ne_eqb _ _ ne)
  ]
  report_on_lem (delete card arity) = elim (ℕ_discrete (Delete.refusal_of l card arity) done) [
    | yes e ↦ rw (← delete_same card arity, delete_accepted l card arity e, e, delete_same_placed card arity)
    | no ne ↦ rw (← delete_same card arity, delete_refused l card arity ne, ne_eqb _ _ ne)
  ]
  report_on_lem (search kind s r list) = elim (ℕ_discrete (Search.refusal_of l kind s (length list)) done) [
    | yes e ↦
        rw (← search_same kind s (length list), accepted_is l kind s r list e, e, records_length l, rows_are l size)
    | no ne ↦ rw (← search_same kind s (length list), refused_leaves l kind s r list ne, ne_eqb _ _ ne)
  ]
  report_on_lem check = rw (check_done some small h)

  -- the records that it leaves
  pub after_on_lem :
      (c : Step) → Typed (call c) → records_of (after (call c) st).table ≡ after_on c (records_of st.table)
  unfolding after outcome_of after_on changed refused
  after_on_lem (insert card kind arity s) typed = elim (ℕ_discrete (Insert.refusal_of l card kind arity s) done) [
    | yes e ↦
        rw (← insert_same card kind arity s, e)
        (Inserts.holds_placed l card kind arity s (insert_refusal_lem l card kind arity s ∙ e)
        h.bytes typed.1 typed.0
        ∙ ap (λ (p : Placed). p.rows) (insert_same_placed card kind arity s))
    | no ne ↦ rw (← insert_same card kind arity s, insert_refused l card kind arity s ne, ne_eqb _ _ ne)
  ]
  after_on_lem (delete card arity) typed = elim (ℕ_discrete (Delete.refusal_of l card arity) done) [
    | yes e ↦
        rw (← delete_same card arity, e)
        (Deletes.holds_deleted l card arity (delete_refusal_lem l card arity ∙ e) h.bytes
        ∙ ap (λ (p : Placed). p.rows) (delete_same_placed card arity))
    | no ne ↦ rw (← delete_same card arity, delete_refused l card arity ne, ne_eqb _ _ ne)
  ]
  after_on_lem (search kind s r list) typed = refl
  after_on_lem check typed = refl

  -- the cards that are stored then
  pub stored_on_lem : (c : Step) → (after (call c) st).stored ≡ stored_on c (records_of st.table) st.stored
  unfolding after outcome_of stored_by stored_on
  stored_on_lem (insert card kind arity s) = rw (insert_refusal_lem l card kind arity s, insert_same card kind arity s)
  stored_on_lem (delete card arity) = rw (delete_refusal_lem l card arity, delete_same card arity)
  stored_on_lem (search kind s r list) = refl
  stored_on_lem check = refl

-- ---- a history

module _ {m : ℕ} (some : 1 ≤ m) (small : m ≤ most_records) where
  pub reports_on_lem :
      (cs : List Step)
      → AllTyped (calls cs)
      → (st : State)
      → Holds m st
      → reports (calls cs) st ≡ reports_on cs (records_of st.table)
  unfolding reports reports_on
  reports_on_lem [] typed st h = refl
  reports_on_lem (c ∷ cs) typed st h =
      ap₂ (λ (y : Line) (ys : List Line). y ∷ ys)
      (report_on_lem some small h c)
      (reports_on_lem cs typed.1 (after (call c) st) (after_holds some small (call c) typed.0 st h)
      ∙ ap (reports_on cs) (after_on_lem some small h c typed.0))

  pub run_on_lem :
      (cs : List Step)
      → AllTyped (calls cs)
      → (st : State)
      → Holds m st
      → records_of (run (calls cs) st).table ≡ run_on cs (records_of st.table)
  unfolding run run_on
  run_on_lem [] typed st h = refl
  run_on_lem (c ∷ cs) typed st h =
      run_on_lem cs typed.1 (after (call c) st) (after_holds some small (call c) typed.0 st h)
      ∙ ap (run_on cs) (after_on_lem some small h c typed.0)

  pub stored_after_lem :
      (cs : List Step)
      → AllTyped (calls cs)
      → (st : State)
      → Holds m st
      → (run (calls cs) st).stored ≡ stored_after cs (records_of st.table) st.stored
  unfolding run stored_after
  stored_after_lem [] typed st h = refl
  stored_after_lem (c ∷ cs) typed st h =
      stored_after_lem cs typed.1 (after (call c) st) (after_holds some small (call c) typed.0 st h)
      ∙ ap₂ (stored_after cs) (after_on_lem some small h c typed.0) (stored_on_lem some small h c)
