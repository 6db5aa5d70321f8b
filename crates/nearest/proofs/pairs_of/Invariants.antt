-- `nearest::pairs_of` meets its contract: at each turn the first i pairs are told by the first i keys. Assumes nothing.
use Rattle.std.specs.Prelude.{◌≡◌, map, length, take}
use Rattle.refusals.specs.Limits.{most_nearest}
use Rattle.nearest.specs.Keys.{pair_in}
use Rattle.nearest.proofs.pairs_of.Given as goal

abbrev pub invariant-loop-i : goal.invariant-loop-i
invariant-loop-i l = record {
  long : length l.pairs ≡ most_nearest;
  told : take l.i l.pairs ≡ map pair_in (take l.i l.held);
}
