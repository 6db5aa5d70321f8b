-- Where that holds which is asked of a table after every history (`Holds`): in a cleared table, and in the bytes of a
-- row of records that they hold (`table_holds`). Assumes nothing.
use Rattle.std.specs.Prelude.{ℕ, ◌≤◌, ◌≡◌, true, ◌↔◌, length}
use Rattle.std.proofs.Common.{ap, subst, arith}
use mathlib.Core.List.Memᴰ
use mathlib.Core.List.{List, [], Memᴰ}
use Rattle.number.specs.Frame.{Bytes}
use Rattle.table.specs.Record.{Record, Used, record_of}
use Rattle.refusals.specs.Limits.{most_records}
use Rattle.table.specs.Table.{right_size, records_in, free_table, records_of, at, bytes_of}
use Rattle.table.specs.Stands.{AreRecords, WholeRecords, are_in, are_whole, whole_are, are_right, free_are}
use Rattle.table.specs.Same.{free_table_lem, free_bytes}
use Rattle.table.specs.Records.{records_at}
use Rattle.table.specs.Fitting.{FittingRow}
use Rattle.table.specs.RoundTrip.{row_fits, bytes_of_length, bytes_of_bytes}
use Rattle.judge.specs.WellFormed.{WellFormed}
use Rattle.tree.specs.Slots.{Distinct}
use Rattle.newcomer.specs.Newcomer.{Newcomer}
use Rattle.placing.specs.Stored.{Stored}
use Rattle.view.specs.Formed.{free_formed}
use Rattle.view.specs.Sound.{SoundTable}
use Rattle.history.specs.History.{State, cleared}
use Rattle.history.specs.Demands.{Holds, cards_of}

-- ---- a cleared table

pub free_holds : (n : ℕ) → Holds n (record { table = free_table n; stored = [] })
free_holds n =
    let l = free_table n in
    let wf : WellFormed n (record_of l) = free_formed (λ s b. free_table_lem n s) in
    let unused : (s : ℕ) → Used (record_of l s) → ⊥ =
    λ s u. omega (arith, ap (λ (r : Record). r.card) (free_table_lem n s)) in
    record {
      size = free_are n;
      bytes = free_bytes n;
      sound =
          record {
            well_formed = wf;
            sound =
                record {
                  cover = λ k a x u p. absurd (unused a u);
                  near = λ k a b c x u ib ic p h. absurd (unused a u);
                };
          };
      stored = λ x. (λ z. absurd (unused z.0 z.1.used), λ i. absurd (Memᴰ.not-nil i));
      once = tt;
    }

pub cleared_holds : (n : ℕ) → Holds n (cleared n)
unfolding cleared
cleared_holds n = free_holds n

-- ---- the size

-- no call refuses such a table for its size
pub sized : {n : ℕ} {st : State} → 1 ≤ n → n ≤ most_records → Holds n st → right_size (length st.table) ≡ true
sized {n} {st} some small h = are_right st.table n h.size some small

pub records_are : {n : ℕ} {st : State} → Holds n st → records_in st.table ≡ n
records_are {n} {st} h = are_in st.table n h.size

-- ---- a table that a call leaves: the bytes of a row of records, and they hold that row

pub table_holds :
    {n : ℕ} (t : List ℕ) (rows : List Record) (stored : List Newcomer)
    → t ≡ bytes_of rows
    → records_of t ≡ rows
    → records_in t ≡ n
    → SoundTable n (at (records_of t))
    → ((x : Newcomer) → Stored n (at (records_of t)) x ↔ Memᴰ x stored)
    → Distinct (cards_of stored)
    → Holds n (record { table = t; stored = stored })
table_holds {n} t rows stored is back e ok each once =
    let bytes : Bytes t = rw is (bytes_of_bytes rows) in
    let fit : FittingRow rows = subst FittingRow back (row_fits t bytes) in
    let whole : WholeRecords t = are_whole t (length rows) (rw is (bytes_of_length rows fit)) in
    let same : at (records_of t) ≡ record_of t = λ i s. records_at t whole s i in
    record {
      size = subst (AreRecords t) e (whole_are t whole);
      bytes = bytes;
      sound = subst (SoundTable n) same ok;
      stored = λ x. subst (λ (R : ℕ → Record). Stored n R x ↔ Memᴰ x stored) same (each x);
      once = once;
    }
