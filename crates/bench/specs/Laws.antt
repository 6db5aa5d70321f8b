-- No command leads to the cleared table and list; a line that is put into enough room stands there whole, and 5,679
-- bytes are enough for 512 cards. Assumes nothing.
use Rattle.std.specs.Prelude.{ℕ, ◌^◌, ◌≤◌, ◌<◌, ◌≡◌, List, length, take, replicate}
use Rattle.std.proofs.Common.{sym, ap, subst, ◌∙◌, arith, length-take, get_or-take}
use Rattle.std.proofs.Math.Decide.{dec_lt}
use Rattle.std.proofs.Math.ListN.{get_or-eq_default}
use Rattle.std.proofs.Math.Seq.{length-sets}
use Rattle.line.specs.Line.{Laid, line_into}
use Rattle.line.specs.Laws.{into_room, line_front}
use Rattle.line.specs.Fits.{Cards, room_for, line_fits}
use Rattle.command.specs.Command.{Done}
use Rattle.bench.specs.Program.{places, table_length, Answer, answer_of, Reached, cleared}

-- the start, as a program finds it
pub starts :
    {done : ℕ} {table list : List ℕ}
    → done ≡ 0
    → table ≡ replicate table_length 0
    → list ≡ replicate places 0
    → Reached done table list
starts d t l =
    subst
    (λ (x : ℕ × List ℕ × List ℕ). Reached x.0 x.1 x.2)
    (λ i. (sym d i, sym t i, sym l i))
    cleared

-- what is laid into enough room stands within it, and its bytes are the line
pub laid_within :
    (line room : List ℕ) (o : Laid) → length line ≤ length room → o ≡ line_into line room → o.size ≤ length o.bytes
laid_within line room o h e =
    let whole = e ∙ into_room line room h in
    omega (
      arith,
      ap (λ (x : Laid). x.size) whole,
      ap (λ (x : Laid). length x.bytes) whole,
      length-sets room 0 line,
    )

pub laid_line :
    (line room : List ℕ) (o : Laid)
    → length line ≤ length room
    → o ≡ line_into line room
    → take o.size o.bytes ≡ line
laid_line line room o h e =
    ap (λ (x : Laid). take x.size x.bytes) (e ∙ into_room line room h) ∙ line_front line room h

-- the first cards of a list are cards
front_cards : (n : ℕ) (l : List ℕ) → Cards l → Cards (take n l)
front_cards n l h i = elim (dec_lt i n) [
  | yes b ↦ let e = get_or-take n l i 0 b in omega (arith, e, h i)
  | no b ↦ let e = get_or-eq_default (take n l) 0 {n = i} (omega (arith, length-take n l)) in omega (arith, e)
]

-- the numbers that a command reports
pub record Small (d : Done) : Type 0 where
  pub refusal : d.refusal < 2 ^ 8
  pub count : d.count < 2 ^ 32
  pub found : d.found < 2 ^ 32
  pub cards : Cards d.list
  pub few : length d.list ≤ places

-- a command's line fits
pub answer_fits :
    (number : ℕ) (d : Done)
    → number < 2 ^ 64
    → Small d
    → length (answer_of number d).line ≤ room_for places
answer_fits number d h s =
    let cards = take d.found d.list in
    let few = front_cards d.found d.list s.cards in
    let fits =
    line_fits number d.refusal d.count d.found cards h s.refusal s.count s.found few in
    omega (arith, fits, length-take d.found d.list, s.few)

-- a command is run, and its line put into enough room
pub answered :
    (number : ℕ) (d e : Done) (room : List ℕ) (o : Laid)
    → number < 2 ^ 64
    → Small e
    → room_for places ≤ length room
    → e ≡ d
    → o ≡ line_into (answer_of number e).line room
    → (o.size ≤ length o.bytes)
    × (◌≡◌ {A = Answer}
    (record { line = take o.size o.bytes; table = e.table; list = e.list })
    (answer_of number d))
answered number d e room o h s long same laid =
    let line = (answer_of number e).line in
    let fits : length line ≤ length room = omega (arith, answer_fits number e h s) in (
      laid_within line room o fits laid,
      (λ i. record { line = laid_line line room o fits laid i; table = e.table; list = e.list })
          ∙ ap (answer_of number) same,
    )
