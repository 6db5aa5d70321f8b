-- The listing computed on rows of records: what its lines print, what the records then are, and that the search which
-- forgot eleven cards finds card 14. Assumes nothing.
use Rattle.std.specs.Prelude.{◌≡◌, refl, replicate}
use mathlib.Core.List.{[], ◌∷◌, flat_map}
use Rattle.places.specs.Sum.{sum_to}
use Rattle.places.specs.Test.{count_to, all_to}
use Rattle.number.specs.Number.{number_at}
use Rattle.distance.specs.Signature.{readings_at}
use Rattle.distance.specs.Kind.{apart}
use Rattle.distance.specs.Readings.{readings_apart}
use Rattle.table.specs.Record.{free}
use Rattle.table.specs.Table.{at}
use Rattle.judge.specs.WellFormed.{well_formed, is_free, is_filled, past_count, all_formed, distinct, one_kind}
use Rattle.judge.specs.WellFormed.{one_root}
use Rattle.judge.specs.WellFormed.{all_hung, all_owned, all_rising}
use Rattle.survey.specs.Survey.{first_from, used_in, root_of, kind_of, slot_of_card, lowest_free, largest_timestamp}
use Rattle.tree.specs.View.{distance_count, child_counts, under}
use Rattle.tree.specs.Slots.{keep}
use Rattle.tree.specs.Remove.{except}
use Rattle.tree.specs.Search.{visit, turn, is_visited, bound, enters, least, listed}
use Rattle.tree.specs.Insert.{path, last, nearest, onward, hangs}
use Rattle.admission.specs.Query.{other_kind}
use Rattle.placing.specs.Place.{placed, as_root, hanging, hanging_from}
use Rattle.descent.specs.Descent.{raised_along}
use Rattle.newcomer.specs.Newcomer.{raised, adopting, fresh}
use Rattle.insert.specs.Insert.{right_arguments}
use Rattle.search.specs.Search.{entered, cards, distances}
use Rattle.view.specs.Freed.{freed_at}
use Rattle.removal.specs.Removal.{leaving, removed, unhung, disowning}
use Rattle.age.specs.Age.{oldest_first, put_by_age}
use Rattle.back.specs.Back.{put_back}
use Rattle.delete.specs.Delete.{deleted, waiting, clock_would_pass}
use Rattle.soundness.specs.Soundness.{is_sound, all_covered, all_near, all_in}
use Rattle.history.specs.History.{line, without}
use Rattle.listing.specs.Rows.{insert_refusal, insert_placed, delete_refusal, delete_placed, search_refusal}
use Rattle.listing.specs.Rows.{search_line, report_on, after_on, reports_on, run_on, stored_on, stored_after, check_on}
use Rattle.listing.specs.Rows.{reradius}
use Rattle.listing.specs.Edges.{look, paper_listing, six_rows, printed}
use Rattle.listing.specs.Edges.{left_stored}

pub on_rows :
    (reports_on paper_listing (replicate 512 free) ≡ printed)
    × (report_on (look 40 0) six_rows ≡ line 0 4 1 (15 ∷ []))
    × ((at six_rows 0).card ≡ 11)
    × ((at six_rows 0).radius ≡ 30)
    × (check_on (reradius 0 29 six_rows) ≡ 10)
    × (stored_after paper_listing (replicate 512 free) [] ≡ left_stored)
    × (report_on (look 52 0) six_rows ≡ line 0 5 1 (14 ∷ []))
unfolding reports_on report_on after_on run_on
    insert_refusal insert_placed delete_refusal delete_placed search_refusal search_line
    right_arguments other_kind clock_would_pass readings_at number_at
    placed as_root hanging hanging_from raised_along raised adopting fresh path last nearest onward hangs keep
    first_from used_in count_to root_of kind_of slot_of_card lowest_free largest_timestamp distance_count child_counts
    apart readings_apart sum_to cards entered distances visit turn is_visited bound enters least listed
    deleted put_back waiting leaving removed freed_at unhung disowning under except oldest_first put_by_age flat_map
    stored_after stored_on without check_on reradius is_sound all_covered all_near all_in
    well_formed is_free is_filled past_count all_formed distinct one_kind one_root all_hung all_owned all_rising all_to
on_rows = (refl, refl, refl, refl, refl, refl, refl)
