-- `survey::slot_of_card` meets its contract. The loop's invariant: no slot before s has the card. Assumes nothing.
use Rattle.std.specs.Prelude.{ℕ, ◌≡◌}
use Rattle.std.proofs.Common.{sym, ◌∙◌, below_more, arith, rules}
use Rattle.table.specs.Record.{record_of}
use Rattle.table.specs.Stands.{stands_below}
use Rattle.survey.specs.Laws.{card_here, card_nowhere}
use Rattle.survey.proofs.slot_of_card.Goals as goal

pub loop-s-init : goal.loop-s-init
loop-s-init c = λ a b e. absurd (omega arith)

pub card_of-requires : goal.card_of-requires
card_of-requires c =
    stands_below c.args.t.now c.args.n c.loop-s.s c.requires (omega arith)

pub returns-then-card_of-card : goal.returns-then-card_of-card
returns-then-card_of-card c =
    let l = c.loop-s in
    let a = c.args in (
      card_here a.n (record_of a.t.now) a.card l.s (omega arith)
          (sym c.card_of.ensures ∙ c.if-card_of-card.true)
          l.invariant,
      omega arith,
    )

pub loop-s-preserved : goal.loop-s-preserved
loop-s-preserved c =
    let l = c.loop-s in
    let a = c.args in
    below_more
    (λ (s : ℕ). (record_of a.t.now s).card ≡ a.card → ⊥)
    l.s
    l.invariant
    (λ e. c.if-card_of-card.false (c.card_of.ensures ∙ e))

pub returns : goal.returns
returns c =
    let l = c.loop-s in
    let a = c.args in (
      card_nowhere a.n (record_of a.t.now) a.card (λ s b. l.invariant s (omega arith)),
      search rules,
    )
