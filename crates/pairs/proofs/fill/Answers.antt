-- `pairs::fill` meets its contract: the first entries are the pairs that count, and those behind them are as they were.
-- Assumes nothing.
use Rattle.std.specs.Prelude.{ℕ, ◌≡◌, ◌+◌, ◌++◌, length, take, drop}
use Rattle.std.proofs.Common.{sym, ap, ◌∙◌, arith, length-take-le}
use Rattle.std.proofs.lemmas.List.Edits.{sets-eq}
use Rattle.pairs.proofs.fill.Goals as goal

pub returns : goal.returns
returns c =
    let l = c.args.list.now in
    let a = c.args.answer in
    let laid = take a.n a.pairs in
    let long : 0 + length laid ≡ a.n = omega (arith, length-take-le a.n a.pairs (omega arith)) in
    rw c.copy_from_slice.ensures.after
    (sym (sets-eq laid l 0 (omega arith) ∙ ap (λ (k : ℕ). laid ++ drop k l) long))
