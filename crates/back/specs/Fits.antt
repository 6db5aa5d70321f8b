-- Where the rows before and what the waiting records bring fit their bytes, so do the rows afterwards, if the clock
-- does not pass the last timestamp. Each placing keeps it. Assumes nothing.
use Rattle.std.specs.Prelude.{ℕ, ◌+◌, ◌^◌, ◌≤◌, ◌<◌, refl, List, [], ◌∷◌, length}
use mathlib.Core.List.Memᴰ.{head as first}
use mathlib.Core.List.Memᴰ.{tail as later}
use Rattle.std.proofs.Common.{arith}
use Rattle.distance.specs.Signature.{Fit}
use Rattle.distance.specs.Kind.{apart}
use Rattle.refusals.specs.Limits.{most_children, last_timestamp}
use Rattle.table.specs.Record.{Record}
use Rattle.table.specs.Table.{at}
use Rattle.table.specs.Fitting.{FittingRow}
use Rattle.survey.specs.Survey.{largest_timestamp}
use Rattle.tree.specs.Slots.{◌∈◌}
use Rattle.placing.specs.Place.{Placed}
use Rattle.placing.specs.RowsFit.{placed_fits}
use Rattle.back.specs.Back.{one_back, put_back}
use Rattle.back.specs.Returnable.{Returnable, returnable_ready, returnable_next, returnable_largest}

pub put_back_fits :
    {n kind arity : ℕ} {old : List Record}
    → arity ≤ most_children
    → (ss : List ℕ) (p : Placed)
    → Returnable n kind old p.rows ss
    → ((s : ℕ) → s ∈ ss → ((at old s).card < 256 ^ 4) × Fit (at old s).readings)
    → FittingRow p.rows
    → largest_timestamp n (at p.rows) + length ss ≤ last_timestamp
    → FittingRow (put_back (apart kind) arity old ss p).rows
unfolding put_back
put_back_fits to_8 [] p r brought-fits fits clock = fits
put_back_fits {n} {kind} {arity} {old} to_8 (s ∷ ss) p r brought-fits fits clock =
    let d = apart kind in
    let b = brought-fits s (first refl) in
    let next : FittingRow (one_back d arity old s p).rows =
    rw (← (r.brings s (first refl)).kind_is)
    (placed_fits (returnable_ready to_8 r) fits b.0 b.1 (omega arith)) in
    put_back_fits to_8 ss (one_back d arity old s p) (returnable_next to_8 r d) (λ a i. brought-fits a (later i)) next
    (omega (arith, clock, returnable_largest to_8 r d))
