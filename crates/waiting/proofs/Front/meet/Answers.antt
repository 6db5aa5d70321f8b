-- `waiting::Front::meet` meets its contract: the card is held, then the record waits. Assumes nothing.
use Rattle.std.specs.Prelude.{ℕ, ◌+◌, ◌<◌, ◌≡◌, refl}
use Rattle.std.proofs.Common.{ap, ◌∙◌, arith}
use Rattle.table.specs.Record.{Record, record_of}
use Rattle.table.specs.Table.{records_in}
use Rattle.table.specs.Stands.{in_stands}
use Rattle.waiting.specs.Key.{key}
use Rattle.waiting.specs.Front.{State, state, holds, lower_from, held_key, waits_with, meet_one}
use Rattle.waiting.specs.Rows.{front_of}
use Rattle.waiting.specs.Laws.{met}
use Rattle.waiting.proofs.Front.meet.Goals as goal

-- the front T has the card x held, and in U the record waits besides
both :
    (R : ℕ → Record) (k j s away lower x : ℕ) (S T U : State)
    → x ≡ held_key R s away
    → T ≡ state S.waits (holds k x S.held) (S.count + 1)
    → j ≡ k
    → U ≡ state (waits_with R j s lower T.held T.waits) T.held T.count
    → U ≡ meet_one R k s away lower S
both R k j s away lower x S T U ex et ej eu = rw (eu, et, ej, ex) (met R k s away lower S _ _ refl refl)

pub key-requires : goal.key-requires
key-requires c =
    let h : c.args.s < records_in c.args.t.now = in_stands c.args.t.now c.args.s c.requires.stands.0 in
    omega arith

pub wait-requires-clause-room : goal.wait-requires-clause-room
wait-requires-clause-room c =
    omega (arith, ap (λ (S : State). S.count) c.hold.ensures.0, c.hold.ensures.2)

pub returns : goal.returns
returns c =
    let f = c.args.self.now in
    let R = record_of c.args.t.now in (
      both R f.k c.hold.new.self.k c.args.s c.args.away
          (lower_from (R c.args.s) c.args.p c.args.near c.args.away)
          c.key.result (front_of f) (front_of c.hold.new.self) (front_of c.wait.new.self)
          (c.key.ensures ∙ ap (λ (y : ℕ). key c.args.away y c.args.s) c.card_of.ensures)
          c.hold.ensures.0
          c.hold.ensures.1
          c.wait.ensures.0,
      c.wait.ensures.1 ∙ c.hold.ensures.1,
    )
