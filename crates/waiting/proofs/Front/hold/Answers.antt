-- `waiting::Front::hold` meets its contract: while fewer than k are held one more is, then the last gives way to a
-- smaller one. Assumes nothing.
use Rattle.std.specs.Prelude.{ℕ, ◌+◌, ◌-◌, ◌≡◌, List, refl, take}
use Rattle.std.proofs.Common.{ap, arith, rules}
use Rattle.order.specs.Among.{falling}
use Rattle.waiting.specs.Front.{state, holds}
use Rattle.waiting.specs.Laws.{rising_take, held_rise, hold_more, hold_before, hold_behind}
use Rattle.waiting.proofs.Front.hold.Goals.{After-slip, After-slip-then-key-self, Else-key-self}
use Rattle.waiting.proofs.Front.hold.Goals as goal

one_more : (c : After-slip)
    → let s = c.args.self.now in
    take (s.holding + 1) c.slip.new.keys ≡ holds s.k c.args.key (take s.holding s.held)
one_more c = let s = c.args.self.now in
    (hold_more s.held s.holding s.k c.args.key s.few (search rules) _ c.if-self.true c.slip.ensures).0

last_gives_way : (c : After-slip-then-key-self)
    → let s = c.args.self.now in
    take s.holding c.slip-then-key-self.new.keys ≡ holds s.k c.args.key (take s.holding s.held)
last_gives_way c = let s = c.args.self.now in
    (hold_before s.held s.holding s.k c.args.key s.few (search rules) (s.k - 1) (omega arith) c.if-self.false _
    c.if-key-self.true c.slip-then-key-self.ensures).0

all_stay : (c : Else-key-self)
    → let s = c.args.self.now in
    take s.holding s.held ≡ holds s.k c.args.key (take s.holding s.held)
all_stay c = let s = c.args.self.now in
    (hold_behind s.held s.holding s.k c.args.key s.few (search rules) (s.k - 1) (omega arith) c.if-self.false s.rise
    c.if-key-self.false).0

pub invariant_of-self-clause-rise : goal.invariant_of-self-clause-rise
invariant_of-self-clause-rise c = let s = c.args.self.now in
    held_rise c.slip.new.keys (s.holding + 1) s.k c.args.key (take s.holding s.held)
    (one_more (goal.at.invariant_of-self-clause-rise c).After-slip) s.rise

pub slip-requires-then-key-self : goal.slip-requires-then-key-self
slip-requires-then-key-self c = (
  search rules,
  rising_take c.args.self.now.held (c.args.self.now.k - 1) c.args.self.now.holding (omega arith) c.args.self.now.rise,
)

pub invariant_of-self-then-key-self-clause-rise : goal.invariant_of-self-then-key-self-clause-rise
invariant_of-self-then-key-self-clause-rise c = let s = c.args.self.now in
    held_rise c.slip-then-key-self.new.keys s.holding s.k c.args.key (take s.holding s.held)
    (last_gives_way (goal.at.invariant_of-self-then-key-self-clause-rise c).After-slip-then-key-self) s.rise

pub returns-then-key-self : goal.returns-then-key-self
returns-then-key-self c = let s = c.args.self.now in (
  ap (λ (held : List ℕ). state (falling s.waiting s.waits) held s.count)
      (last_gives_way (goal.at.returns-then-key-self c).After-slip-then-key-self),
  refl,
  refl,
)

pub returns-else-key-self : goal.returns-else-key-self
returns-else-key-self c = let s = c.args.self.now in (
  ap (λ (held : List ℕ). state (falling s.waiting s.waits) held s.count)
      (all_stay (goal.at.returns-else-key-self c).Else-key-self),
  refl,
  refl,
)
