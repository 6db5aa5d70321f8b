-- `probe::probe_distance` meets its contract: the test is the definition's, and its parts give the two lengths.
-- Assumes nothing.
use Rattle.std.specs.Prelude.{ℕ, ◌≡◌, Bool, true, false, ◌&&◌, eqb, length}
use Rattle.std.proofs.Common.{sym, ap, ap₂, ◌∙◌, eqb-true, arith}
use Rattle.places.specs.Choice.{and_left, and_right}
use Rattle.distance.specs.Kind.{known_kind, apart}
use Rattle.refusals.specs.Limits.{signature_length}
use Rattle.probe.specs.Probe.{distance_probe}
use Rattle.probe.proofs.probe_distance.Goals.{After-known_kind, Then-known_kind-whole}
use Rattle.probe.proofs.probe_distance.Goals as goal

-- both signatures are whole
abbrev both_whole : ℕ → ℕ → Bool
both_whole m n = eqb m signature_length && eqb n signature_length

-- the second part of the test gives both lengths
lengths : (known : Bool) (m n : ℕ) → known && both_whole m n ≡ true → (m ≡ signature_length) × (n ≡ signature_length)
lengths known m n e = let both = and_right known (both_whole m n) e in (
  eqb-true m signature_length (and_left (eqb m signature_length) (eqb n signature_length) both),
  eqb-true n signature_length (and_right (eqb m signature_length) (eqb n signature_length) both),
)

-- the test that is made is the definition's
tested : (c : After-known_kind) (t : Bool) →
    let a = c.args in
    c.known_kind.result && both_whole (length a.a.now) (length a.b.now) ≡ t
    → known_kind a.kind && both_whole (length a.a.now) (length a.b.now) ≡ t
tested c t e = let a = c.args in
    sym (ap (λ (k : Bool). k && both_whole (length a.a.now) (length a.b.now)) c.known_kind.ensures) ∙ e

taken : (c : Then-known_kind-whole) →
    let a = c.args in
    (length a.a.now ≡ signature_length) × (length a.b.now ≡ signature_length)
taken c = let a = c.args in
    lengths c.known_kind.result (length a.a.now) (length a.b.now) c.if-known_kind-whole.true

pub signature_at-requires : goal.signature_at-requires
signature_at-requires c = omega (arith, (taken (goal.at.signature_at-requires c).Then-known_kind-whole).0)

pub signature_at-requires-then-known_kind-whole : goal.signature_at-requires-then-known_kind-whole
signature_at-requires-then-known_kind-whole c =
    omega (arith, (taken (goal.at.signature_at-requires-then-known_kind-whole c).Then-known_kind-whole).1)

pub returns-then-known_kind-whole : goal.returns-then-known_kind-whole
unfolding distance_probe
returns-then-known_kind-whole c =
    let kind = c.args.kind in
    rw
    (tested (goal.at.returns-then-known_kind-whole c).After-known_kind true c.if-known_kind-whole.true)
    (c.apart.ensures.0 ∙ ap₂ (apart kind) c.signature_at.ensures c.signature_at-then-known_kind-whole.ensures)

pub returns-else-known_kind-whole : goal.returns-else-known_kind-whole
unfolding distance_probe
returns-else-known_kind-whole c =
    rw (tested (goal.at.returns-else-known_kind-whole c).After-known_kind false c.if-known_kind-whole.false)
