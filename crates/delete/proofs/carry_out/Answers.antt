-- `delete::carry_out` meets its contract: v has left, and putting back those that wait is what is left of the rule.
-- Assumes nothing.
use Rattle.std.proofs.Common.{◌∙◌}
use Rattle.delete.proofs.Plan.{deletable_rooted, plan_some, plan_used, plan_pending, plan_rest}
use Rattle.delete.proofs.carry_out.Goals as goal

pub unwrap-root-requires : goal.unwrap-root-requires
unwrap-root-requires c = deletable_rooted c.requires.0.deletable

pub slice_bounds-put_back-count : goal.slice_bounds-put_back-count
slice_bounds-put_back-count c = plan_some c.requires.0

pub slice_bounds-put_back-start : goal.slice_bounds-put_back-start
slice_bounds-put_back-start c = plan_some c.requires.0

pub overflow_sub-tree : goal.overflow_sub-tree
overflow_sub-tree c = plan_used c.requires.0

pub put_back-requires : goal.put_back-requires
put_back-requires c =
    let p = c.requires in
    rw c.from.ensures
    (plan_pending p.0 p.1 p.2 c.unhang.new.t c.unhang.auto.t c.unhang.ensures c.unwrap-root.ensures)

pub returns : goal.returns
returns c =
    let p = c.requires in
    rw c.from.ensures at c.put_back.ensures
    ∙ plan_rest p.0 p.1 p.2 c.unhang.new.t c.unhang.auto.t c.unhang.ensures
