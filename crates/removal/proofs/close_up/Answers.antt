-- `removal::close_up` meets its contract. The loop's invariant: of the first k child slots those that stay stand first,
-- w of them, and nothing else has changed. Assumes nothing.
use Rattle.std.specs.Prelude.{ℕ, ◌<◌, ◌≡◌, refl}
use Rattle.std.proofs.Common.{sym, ap, ◌∙◌, arith}
use Rattle.refusals.specs.Limits.{most_children}
use Rattle.table.specs.Record.{record_of}
use Rattle.writing.specs.Put.{with_slots}
use Rattle.writing.specs.Laws.{became_by}
use Rattle.removal.specs.Loop.Closing.{closing, kept_none}
use Rattle.removal.specs.Loop.Closed.{closed_none, closed_passed, closed_moved}
use Rattle.removal.proofs.close_up.Goals.{then-from-v, else-from-v}
use Rattle.removal.proofs.close_up.Goals as goal

pub loop-k-init : goal.loop-k-init
loop-k-init c =
    let a = c.args in
    (sym (kept_none a.v (record_of a.t.now a.p).slots), closed_none a.t.now a.p a.v c.requires.0)

pub loop-k-preserved : goal.loop-k-preserved
loop-k-preserved c =
    let l = c.loop-k in
    let a = c.args in
    let one = c.slot_of-c in
    let few : l.k < most_children = omega (arith, c.loop-k-test.true, c.requires.1) in
    elim c.if-from-v.branch [
      | then-from-v w ↦
          let z =
          closed_moved a.t.now a.p a.v c.requires.0 few l.invariant.1 l.invariant.0 one.ensures
          (rw c.from.ensures at w.if-from-v.true)
          one.type_inv c.if-from-v.t (w.t-is ∙ w.put_slot.ensures) in
          (w.w-is ∙ z.0, z.1)
      | else-from-v w ↦
          let z =
          closed_passed a.t.now a.p a.v c.requires.0 few l.invariant.1 l.invariant.0 one.ensures
          (sym c.from.ensures ∙ w.if-from-v.false) in
          (w.w-is ∙ z.0, became_by z.1 refl w.t-is)
    ]

pub returns : goal.returns
returns c =
    let a = c.args in
    let r = record_of a.t.now a.p in
    let l = c.loop-k in
    let all : l.k ≡ a.n = omega (arith, l.auto.k-end, c.loop-k-test.false) in
    became_by l.invariant.1 (ap (λ (k : ℕ). with_slots r (closing a.v r.slots k)) all) refl
