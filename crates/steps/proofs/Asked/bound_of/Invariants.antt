-- `steps::Asked::bound_of` meets its contract. The loop's invariant: what is left of the definition from sibling j on,
-- started from the lowest so far, is the definition itself. Assumes nothing.
use Rattle.std.specs.Prelude.{ℕ, ◌≡◌, List, length}
use Rattle.table.specs.Record.{record_of}
use Rattle.steps.specs.Step.{asked}
use Rattle.steps.specs.Loop.Children.{Compared, bound_on, child_bound}
use Rattle.steps.proofs.Asked.bound_of.Given as goal

abbrev pub invariant-loop-j : goal.invariant-loop-j
invariant-loop-j l =
    (kind : ℕ) (q : List ℕ)
    → Compared (record_of l.t) kind q l.visit.slot (length l.ds) l.ds
    → bound_on (asked (record_of l.t) kind q l.fn.self.radius) l.visit.slot l.k l.lowest l.j
    ≡ child_bound (asked (record_of l.t) kind q l.fn.self.radius) l.visit.slot l.k l.visit.bound
