-- `admission::keys::keys_distinct` meets its contract. The loop's invariant: whatever keys the calls give, those of the
-- records before s are distinct, and the cells hold just those. Assumes nothing.
use Rattle.std.specs.Prelude.{ℕ, ◌≡◌}
use Rattle.std.proofs.Common.{sym, ap, ◌∙◌, mod-lt, arith, lit<}
use Rattle.distinct.specs.Distinct.{distinct_to}
use Rattle.distinct.specs.Seat.{cell_count}
use Rattle.distinct.specs.Cells.{holds_none, holds_fresh, holds_seen}
use Rattle.admission.proofs.keys.keys_distinct.Goals as goal

pub loop-s-init : goal.loop-s-init
loop-s-init g c = λ key told. holds_none _ _ cell_count (λ k d. mod-lt _ (lit< tt))

pub returns-in-Seen : goal.returns-in-Seen
returns-in-Seen g c = λ key told.
    let l = c.loop-s in
    let given = told l.s _ (omega arith) c.key_of.ensures in
    sym (holds_seen (l.invariant key told) (rw given at c.seat_key.ensures) _ (omega arith) c.in-Seen.is)

pub loop-s-preserved : goal.loop-s-preserved
loop-s-preserved g c = λ key told.
    let l = c.loop-s in
    let given = told l.s _ (omega arith) c.key_of.ensures in
    holds_fresh (l.invariant key told) (rw given at c.seat_key.ensures) c.in-Fresh.is

pub returns : goal.returns
returns g c = λ key told.
    let l = c.loop-s in
    let e : l.s ≡ c.args.n = omega arith in
    sym (ap (λ (n : ℕ). distinct_to n key) (sym e) ∙ (l.invariant key told).apart)
