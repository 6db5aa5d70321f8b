-- `taking::meet_children` meets its contract. The loop's invariant: the children from j on, compared after what stands
-- in the rows, leave what all children leave. Assumes nothing.
use Rattle.std.proofs.Common.{sym, ◌∙◌, arith}
use Rattle.table.specs.Record.{record_of}
use Rattle.steps.specs.Loop.Laws.{count_slots}
use Rattle.waiting.specs.Rows.{front_of}
use Rattle.waiting.specs.Going.{meet_turn, meet_end, one_counted}
use Rattle.taking.proofs.meet_children.Goals as goal

pub loop-j-preserved : goal.loop-j-preserved
loop-j-preserved c =
    let a = c.args in
    let k = a.front.now.k in
    let met = c.meet.ensures.0 in
    let before = c.loop-j.invariant in
    record {
      counted = omega (arith, one_counted (record_of a.t.now) c.loop-j.front.k _ _ _ _ _ met);
      same_k = c.meet.ensures.1 ∙ before.same_k;
      rest =
          meet_turn (record_of a.t.now) a.q.kind a.q.signature.readings k a.s a.p c.loop-j.near c.loop-j.j
          c.child_of-child.result c.from-away.result c.min-near.result (front_of c.loop-j.front)
          (front_of c.meet.new.self)
          (count_slots a.t.now a.s (c.requires.walkable.0.few a.s c.requires.walkable.1))
          (omega arith)
          c.child_of-child.ensures
          (c.from-away.ensures ∙ c.away_from.ensures.0)
          c.min-near.ensures
          (rw before.same_k at met)
          ∙ before.rest;
    }

pub returns : goal.returns
returns c =
    let a = c.args in
    let done = c.loop-j.invariant in (
      sym (meet_end (record_of a.t.now) a.q.kind a.q.signature.readings a.front.now.k a.s a.p c.loop-j.near c.loop-j.j
          (front_of c.loop-j.front)
          (omega arith))
          ∙ done.rest,
      done.same_k,
    )
