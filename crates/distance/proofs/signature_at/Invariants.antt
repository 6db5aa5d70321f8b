-- `distance::signature_at` meets its contract.
-- The loop's invariant: the first k readings are those of the bytes. Assumes nothing.
use Rattle.std.specs.Prelude.{◌≡◌, length}
use Rattle.places.specs.Fill.{Filled}
use Rattle.distance.specs.Signature.{readings_at}
use Rattle.distance.proofs.signature_at.Given as goal

abbrev pub invariant-loop-k : goal.invariant-loop-k
invariant-loop-k l = (length l.readings ≡ 16) × Filled (readings_at l.t l.at) l.readings l.k
