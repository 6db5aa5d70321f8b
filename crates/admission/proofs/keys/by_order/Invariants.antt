-- `admission::keys::by_order` meets its contract. The loop's invariant: the first s places hold the keys of the records
-- before s, as the calls gave them. Assumes nothing.
use Rattle.std.specs.Prelude.{ℕ, ◌<◌, ◌≡◌, length, get_or}
use Rattle.refusals.specs.Limits.{most_records}
use Rattle.admission.proofs.keys.by_order.Given as goal

abbrev pub invariant-loop-s : goal.invariant-loop-s
invariant-loop-s g l =
    (length l.keys ≡ most_records) × ((k : ℕ) → k < l.s → goal.F-post g l.key_of k (get_or l.keys k 0))
