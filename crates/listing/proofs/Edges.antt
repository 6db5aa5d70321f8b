-- "Edges to try", those marked P, hold (`edges`). The paper's listing is a history that the main theorem speaks of
-- (`listing_typed`), computed on rows of records (SixRows). Assumes nothing.
use Rattle.std.specs.Prelude.{ℕ, zero, suc, ◌≤◌, ◌<◌, ◌≡◌}
use Rattle.std.proofs.Common.{sym, ap, ◌∙◌, arith}
use mathlib.Core.List.{List, [], ◌++◌}
use Rattle.places.specs.Fill.{zeros_at}
use Rattle.number.specs.Frame.{Bytes}
use Rattle.refusals.specs.Limits.{most_records}
use Rattle.distance.specs.Kind.{apart}
use Rattle.distance.specs.Edges.{P10 as readings-apart, P11 as masks-apart}
use Rattle.table.specs.Record.{Record, record_of}
use Rattle.table.specs.Table.{at, records_of}
use Rattle.table.specs.Size.{rows_are}
use Rattle.history.specs.History.{Typed, AllTyped, cleared, run}
use Rattle.history.specs.Demands.{Holds}
use Rattle.history.proofs.Kept.{all_hold, run_holds}
use Rattle.history.proofs.Holds.{cleared_holds, sized}
use Rattle.listing.specs.Rows.{Step, call, calls, report_on, reports_on, run_on, stored_after, check_on, reradius}
use Rattle.listing.specs.Rows.{check_reradius}
use Rattle.listing.specs.OnRows.{cleared_rows, report_on_lem, reports_on_lem, run_on_lem, stored_after_lem}
use Rattle.listing.specs.Edges.{reading, put, look, six_cards, paper_listing, rest, six_rows}
use Rattle.listing.specs.Edges.{left_stored, six, Edges}
use Rattle.listing.proofs.SixRows.{on_rows}

-- ---- it is a history that the main theorem speaks of

reading_bytes : (v : ℕ) → v < 256 → Bytes (reading v)
reading_bytes v h zero = h
reading_bytes v h (suc i) = omega (arith, zeros_at 31 i)

put_typed : (card v : ℕ) → card < 4294967296 → v < 256 → Typed (call (put card v))
put_typed card v c h = (c, reading_bytes v h)

six_typed : (cs : List Step) → AllTyped (calls cs) → AllTyped (calls (six_cards ++ cs))
six_typed cs h = (
  put_typed 11 50 (omega arith) (omega arith),
  (
    put_typed 12 80 (omega arith) (omega arith),
    (
      put_typed 13 20 (omega arith) (omega arith),
      (
        put_typed 14 52 (omega arith) (omega arith),
        (put_typed 15 40 (omega arith) (omega arith), (put_typed 16 78 (omega arith) (omega arith), h)),
      ),
    ),
  ),
)

pub listing_typed : AllTyped (calls paper_listing)
listing_typed = six_typed rest (tt, (tt, (tt, (tt, (tt, tt)))))

pub edges : Edges
unfolding apart
edges =
    let some : 1 ≤ 512 = omega arith in
    let small : 512 ≤ most_records = omega arith in
    let start = cleared_holds 512 in
    let typed = six_typed [] tt in
    let holds = all_hold some small (calls six_cards) typed (cleared 512) start in
    let rows : records_of six ≡ six_rows =
    run_on_lem some small six_cards typed (cleared 512) start ∙ ap (run_on six_cards) (cleared_rows 512) in
    let first : record_of six 0 ≡ at six_rows 0 =
    ap (λ (S : ℕ → Record). S 0) (sym (rows_are six (sized some small holds)))
    ∙ ap (λ (q : List Record). at q 0) rows in
    record {
      P1_to_P9 =
          reports_on_lem some small paper_listing listing_typed (cleared 512) start
          ∙ ap (reports_on paper_listing) (cleared_rows 512)
          ∙ on_rows.0;
      P10 = readings-apart;
      P11 = masks-apart;
      P12 = report_on_lem some small holds (look 40 0) ∙ ap (report_on (look 40 0)) rows ∙ on_rows.1;
      P13 = (
        ap (λ (r : Record). r.card) first ∙ on_rows.2,
        ap (λ (r : Record). r.radius) first ∙ on_rows.3,
        check_reradius some small holds 0 29 (omega arith) (omega arith)
            ∙ ap (λ (q : List Record). check_on (reradius 0 29 q)) rows
            ∙ on_rows.4,
      );
      parent_nearer = report_on_lem some small holds (look 52 0) ∙ ap (report_on (look 52 0)) rows ∙ on_rows.6;
    }

-- ---- the main theorem is not about nothing: five cards are stored after the listing, and its theorem holds of them

pub listing_holds : Holds 512 (run (calls paper_listing) (cleared 512))
listing_holds = run_holds (omega arith) (omega arith) (calls paper_listing) listing_typed

pub listing_stored : (run (calls paper_listing) (cleared 512)).stored ≡ left_stored
unfolding cleared
listing_stored =
    stored_after_lem (omega arith) (omega arith) paper_listing listing_typed (cleared 512) (cleared_holds 512)
    ∙ ap (λ (q : List Record). stored_after paper_listing q []) (cleared_rows 512)
    ∙ on_rows.5
