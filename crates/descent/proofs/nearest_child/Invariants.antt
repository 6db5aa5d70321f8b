-- `descent::nearest_child` meets its contract. The loop's invariant: what is left of the scan leads from the nearest of
-- the first k children to the nearest of all. Assumes nothing.
use Rattle.std.specs.Prelude.{ℕ, ◌≡◌, None, drop}
use Rattle.distance.specs.Kind.{apart}
use Rattle.table.specs.Record.{record_of, children}
use Rattle.descent.specs.Loop.Nearest.{scanned}
use Rattle.descent.proofs.nearest_child.Given as goal

abbrev pub invariant-loop-k : goal.invariant-loop-k
invariant-loop-k l =
    let far : ℕ → ℕ = λ c. apart l.query.kind (record_of l.t c).readings l.query.signature.readings in
    let cs = children (record_of l.t l.a) in
    scanned far l.nearest (drop l.k cs) ≡ scanned far None cs
