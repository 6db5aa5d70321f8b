-- `distinct::by_order` meets its contract. The loop's invariant: the first m kept are those of the keys so far that are
-- not 0. Assumes nothing.
use Rattle.std.specs.Prelude.{◌≤◌, ◌≡◌, length, get_or, take}
use Rattle.refusals.specs.Limits.{most_records}
use Rattle.distinct.specs.Distinct.{kept_to}
use Rattle.distinct.proofs.by_order.Given as goal

abbrev pub invariant-loop-key : goal.invariant-loop-key
invariant-loop-key l =
    (l.m ≤ l.key-index)
    × (length l.kept ≡ most_records)
    × (take l.m l.kept ≡ kept_to l.key-index (λ j. get_or l.keys j 0))
