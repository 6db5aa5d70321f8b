-- `waiting::Front::wait` meets its contract: a record without children, or too far, does not wait; any other is put
-- among those that do. Assumes nothing.
use Rattle.std.specs.Prelude.{ℕ, ◌<◌, ◌≡◌, List, refl, take}
use Rattle.std.proofs.Common.{sym, ap, ◌∙◌, arith, rules}
use Rattle.order.specs.Order.{put_among}
use Rattle.order.specs.Among.{falling, climbed_front}
use Rattle.table.specs.Record.{record_of}
use Rattle.table.specs.Table.{records_in}
use Rattle.table.specs.Stands.{in_stands}
use Rattle.waiting.specs.Key.{key}
use Rattle.waiting.specs.declared.Front.{Front}
use Rattle.waiting.specs.Front.{State, state, exceeds, lower_from, waits_with}
use Rattle.waiting.specs.Laws.{waits_childless, waits_far, waits_more}
use Rattle.waiting.proofs.Front.wait.Goals.{After-lower_bound-lower, After-exceeds}
use Rattle.waiting.proofs.Front.wait.Goals as goal

-- the front f, if those of ws wait
abbrev with_waits : Front → List ℕ → State
with_waits f ws = state ws (take f.holding f.held) f.count

-- who waits then, by the lower bound as it was worked out
bound_is : (c : After-lower_bound-lower)
    → let f = c.args.self.now in
    let R = record_of c.args.t.now in
    waits_with R f.k c.args.s c.lower_bound-lower.result (take f.holding f.held) (falling f.waiting f.waits)
    ≡ waits_with R f.k c.args.s (lower_from (R c.args.s) c.args.p c.args.near c.args.away) (take f.holding f.held)
    (falling f.waiting f.waits)
bound_is c = let f = c.args.self.now in
    ap
    (λ (b : ℕ).
    waits_with (record_of c.args.t.now) f.k c.args.s b (take f.holding f.held) (falling f.waiting f.waits))
    c.lower_bound-lower.ensures.0

-- whether it is too far, by the keys held
far_is : (c : After-exceeds)
    → let f = c.args.self.now in
    exceeds f.k (take f.holding f.held) c.lower_bound-lower.result ≡ c.exceeds.result
far_is c = let f = c.args.self.now in
    ap (λ (hs : List ℕ). exceeds f.k hs c.lower_bound-lower.result) (sym c.held.ensures) ∙ sym c.exceeds.ensures

pub returns-then-children_of-eq0 : goal.returns-then-children_of-eq0
returns-then-children_of-eq0 c =
    let f = c.args.self.now in (
      ap (with_waits f)
          (waits_childless (record_of c.args.t.now) f.k c.args.s _ (take f.holding f.held) (falling f.waiting f.waits)
          (sym c.children_of.ensures ∙ c.if-children_of-eq0.true)),
      refl,
    )

pub returns-then-exceeds : goal.returns-then-exceeds
returns-then-exceeds c =
    let f = c.args.self.now in (
      ap (with_waits f)
          (waits_far (record_of c.args.t.now) f.k c.args.s c.lower_bound-lower.result (take f.holding f.held)
          (falling f.waiting f.waits)
          (far_is (goal.at.returns-then-exceeds c).After-exceeds ∙ c.if-exceeds.true)
          ∙ bound_is (goal.at.returns-then-exceeds c).After-lower_bound-lower),
      refl,
    )

pub key-requires : goal.key-requires
key-requires c =
    let h : c.args.s < records_in c.args.t.now = in_stands c.args.t.now c.args.s c.requires.stands.0 in omega arith

pub returns : goal.returns
returns c =
    let f = c.args.self.now in (
      ap (with_waits f)
          (climbed_front f.waits _ f.waiting _ (search rules) c.climb.ensures
          ∙ ap (λ (x : ℕ). put_among x (falling f.waiting f.waits))
          (c.key.ensures ∙ ap (λ (y : ℕ). key c.lower_bound-lower.result y c.args.s) c.timestamp_of.ensures)
          ∙ waits_more (record_of c.args.t.now) f.k c.args.s c.lower_bound-lower.result (take f.holding f.held)
          (falling f.waiting f.waits)
          (λ e. c.if-children_of-eq0.false (c.children_of.ensures ∙ e))
          (far_is (goal.at.returns c).After-exceeds ∙ c.if-exceeds.false)
          ∙ bound_is (goal.at.returns c).After-lower_bound-lower),
      refl,
    )
