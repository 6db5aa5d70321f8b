-- `distinct::by_order` meets its contract. The loop's invariant: the first m kept are those of the keys so far that are
-- not 0. Assumes nothing.
use Rattle.std.specs.Prelude.{ℕ, ◌≡◌, length, get_or}
use Rattle.std.proofs.Common.{sym, ap, ◌∙◌, arith, rules, length-set}
use Rattle.order.specs.Order.{distinct}
use Rattle.distinct.specs.Distinct.{distinct_to, kept_to, kept_zero, kept_more}
use Rattle.distinct.proofs.by_order.Goals.{At-loop-key, then-key-ne0, else-key-ne0}
use Rattle.distinct.proofs.by_order.Goals as goal

abbrev key_at : At-loop-key → ℕ → ℕ
key_at c j = get_or c.args.keys.now j 0

pub loop-key-init : goal.loop-key-init
unfolding kept_to
loop-key-init c = search rules

pub loop-key-preserved : goal.loop-key-preserved
loop-key-preserved c =
    let l = c.loop-key in
    let key : ℕ → ℕ = key_at (goal.at.loop-key-preserved c).At-loop-key in
    elim c.if-key-ne0.branch [
      | then-key-ne0 w ↦
          let e = rw w.from.ensures at w.kept-is in (
            omega arith,
            rw w.kept-is (length-set l.kept l.m _ ∙ l.invariant.1),
            rw (e, w.m-is)
                (kept_more l.key-index key l.kept l.m (omega arith) w.if-key-ne0.true l.invariant.2),
          )
      | else-key-ne0 w ↦ (
        omega arith,
        rw w.kept-is l.invariant.1,
        rw (w.kept-is, w.m-is) (l.invariant.2 ∙ sym (kept_zero l.key-index key w.if-key-ne0.false)),
      )
    ]

pub returns : goal.returns
unfolding distinct_to
returns c =
    let e : c.loop-key.key-index ≡ length c.args.keys.now = omega arith in
    c.all_different.ensures.0
    ∙ ap distinct c.loop-key.invariant.2
    ∙ ap (λ (n : ℕ). distinct (kept_to n (key_at (goal.at.returns c).At-loop-key))) e
