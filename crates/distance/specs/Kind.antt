-- The distance of a table's kind, and the four laws for each kind: what the tree above takes as its parameter.
use Rattle.std.specs.Prelude.{ℕ, ◌≤◌, ◌<◌, ◌≡◌, refl, Bool, true, false, ◌||◌, List, eqb}
use Rattle.std.proofs.lemmas.Bool.{false≢true}
use Rattle.std.proofs.Common.{arith, eqb-true}
use Rattle.distance.specs.Laws.{Distance}
use Rattle.distance.specs.Signature.{Fit}
use Rattle.distance.specs.Readings.{readings_apart, readings_distance}
use Rattle.distance.specs.Mask.{masks_apart, masks_distance}

-- "kind, 1 or 2"
abbrev pub known_kind : ℕ → Bool
known_kind kind = eqb kind 1 || eqb kind 2

-- every known kind is from 1 on and fits a byte
pub known_between : (kind : ℕ) → known_kind kind ≡ true → (1 ≤ kind) × (kind < 256)
known_between kind e = go (eqb kind 1) refl (eqb kind 2) refl e
  where
    go : (a : Bool) → eqb kind 1 ≡ a → (b : Bool) → eqb kind 2 ≡ b → a || b ≡ true → (1 ≤ kind) × (kind < 256)
    go true p b q o = let k = eqb-true kind 1 p in (omega arith, omega arith)
    go false p true q o = let k = eqb-true kind 2 q in (omega arith, omega arith)
    go false p false q o = absurd (false≢true o)

-- which of the two distances: kind 1 compares readings, and kind 2 masks (no call is accepted with a third kind)
abbrev pub by_kind : Bool → List ℕ → List ℕ → ℕ
by_kind true = readings_apart
by_kind false = masks_apart

unfoldable pub apart : ℕ → List ℕ → List ℕ → ℕ
apart kind = by_kind (eqb kind 1)

each : (b : Bool) → Distance Fit (by_kind b)
each true = readings_distance
each false = masks_distance

-- the four laws, for every kind
pub apart_distance : (kind : ℕ) → Distance Fit (apart kind)
unfolding apart
apart_distance kind = each (eqb kind 1)
