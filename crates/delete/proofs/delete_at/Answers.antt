-- `delete::delete_at` meets its contract: what is worked out before the first write is what the definition asks for
-- (`plan`), so it ends refused by the clock, or with the plan carried out. Assumes nothing.
use Rattle.std.specs.Prelude.{◌≤◌, ◌≡◌, length, take}
use Rattle.std.proofs.Common.{sym, arith}
use Rattle.refusals.specs.Limits.{most_records}
use Rattle.table.specs.Stands.{stand_all}
use Rattle.delete.specs.Plan.{Planned}
use Rattle.delete.proofs.Plan.{deletable_few_records, deletable_walkable, deletable_stands, deletable_size}
use Rattle.delete.proofs.Plan.{deletable_few, ordered_length, ordered_in, ordered_some, ordered_few, ordered_slots}
use Rattle.delete.proofs.Plan.{ordered_plan, plan_refused, plan_done}
use Rattle.delete.proofs.delete_at.Goals.{After-in_age_order-m, After-last_staying-last, Else-last-m}
use Rattle.delete.proofs.delete_at.Goals as goal

long : (c : After-in_age_order-m)
    → length (take c.in_age_order-m.result c.in_age_order-m.new.keys) ≡ c.in_age_order-m.result
long c = let g = c.in_age_order-m in
    ordered_length c.requires.0 g.new.keys g.result g.ensures.0 g.ensures.1

some : (c : After-in_age_order-m) → 1 ≤ c.in_age_order-m.result
some c = let g = c.in_age_order-m in
    ordered_some c.requires.0 g.new.keys g.result g.ensures.0 g.ensures.1

few : (c : After-in_age_order-m) → c.in_age_order-m.result ≤ most_records
few c = let g = c.in_age_order-m in
    ordered_few c.requires.0 g.new.keys g.result g.ensures.0 g.ensures.1

-- what is worked out before the first write
plan : (c : After-last_staying-last) →
    let a = c.args in
    Planned a.t.now a.v a.found (take c.in_age_order-m.result c.in_age_order-m.new.keys) c.last_staying-last.result
plan c = let g = c.in_age_order-m in
    ordered_plan c.requires.0 g.new.keys g.result g.ensures.0 g.ensures.1 c.last_staying-last.result
    c.last_staying-last.ensures

pub in_age_order-m-requires : goal.in_age_order-m-requires
in_age_order-m-requires c =
    let d = c.requires.0 in
    (deletable_walkable d, deletable_stands d, deletable_size d, deletable_few d, omega arith)

pub slice_bounds-room-end : goal.slice_bounds-room-end
slice_bounds-room-end c = let g = c.in_age_order-m in
    ordered_in c.requires.0 g.new.keys g.result g.ensures.0 g.ensures.1

pub slice_bounds-keys-end : goal.slice_bounds-keys-end
slice_bounds-keys-end c = sym (long (goal.at.slice_bounds-keys-end c).After-in_age_order-m)

pub last_staying-last-requires : goal.last_staying-last-requires
last_staying-last-requires c =
    let d = c.requires.0 in
    let g = c.in_age_order-m in (
      stand_all c.args.t.now,
      deletable_few_records d,
      ordered_slots d g.new.keys g.result g.ensures.0 g.ensures.1,
    )

pub overflow_cast-m : goal.overflow_cast-m
overflow_cast-m c = omega (arith, few (goal.at.overflow_cast-m c).After-in_age_order-m)

pub overflow_sub-m : goal.overflow_sub-m
overflow_sub-m c = omega (arith, some (goal.at.overflow_sub-m c).After-in_age_order-m)

pub returns-then-last-m : goal.returns-then-last-m
returns-then-last-m c =
    let l = (goal.at.returns-then-last-m c).After-in_age_order-m in
    plan_refused (plan (goal.at.returns-then-last-m c).After-last_staying-last) c.in_age_order-m.result
    (long l) c.args.arity (omega (arith, c.if-last-m.true, some l))

pub carry_out-requires : goal.carry_out-requires
carry_out-requires c =
    let l = (goal.at.carry_out-requires c).After-in_age_order-m in (
      plan (goal.at.carry_out-requires c).After-last_staying-last,
      c.requires.1,
      omega (arith, c.if-last-m.false, long l, some l),
    )

pub returns : goal.returns
returns c =
    let l = (goal.at.returns c).After-in_age_order-m in
    plan_done (plan (goal.at.returns c).After-last_staying-last) c.in_age_order-m.result
    (long l) c.args.arity (omega (arith, c.if-last-m.false, some l))
    c.carry_out.new.t c.carry_out.result
    (λ i. (c.type_inv.t i).fits)
    c.carry_out.auto.t
    c.carry_out.ensures
