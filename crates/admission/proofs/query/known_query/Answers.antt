-- `admission::query::known_query` meets its contract: the test of the kind is the definition's. Assumes nothing.
use Rattle.std.proofs.Common.{ap}
use Rattle.std.specs.Prelude.{Bool, ◌&&◌, eqb, length}
use Rattle.refusals.specs.Limits.{signature_length}
use Rattle.admission.proofs.query.known_query.Goals as goal

pub returns : goal.returns
returns c =
    ap
    (λ (k : Bool). k && eqb (length c.args.signature.now) signature_length)
    c.known_kind.ensures
