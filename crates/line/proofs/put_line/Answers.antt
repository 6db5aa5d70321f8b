-- `line::put_line` meets its contract: the line's length is counted first, and it is laid only if it fits. Assumes
-- nothing.
use Rattle.std.specs.Prelude.{ℕ, ◌+◌, ◌≡◌, List, [], ◌∷◌, length, take}
use Rattle.std.proofs.Common.{sym, ap, ◌∙◌, arith}
use Rattle.std.proofs.lemmas.List.Edits.{sets}
use Rattle.line.specs.Line.{line_of}
use Rattle.line.specs.Laws.{line_from, line_parts, line_length, into_room_fitted, no_room_fitted, same_fitted}
use Rattle.line.proofs.put_line.Goals.{After-row_places-2}
use Rattle.line.proofs.put_line.Goals as goal

-- the line
abbrev line_at : After-row_places-2 → List ℕ
line_at c = let l = c.args.line.now in
    line_of l.number l.refusal l.count l.found (take l.found l.cards.now)

-- its parts are those that are laid
same_line : (c : After-row_places-2) →
    let l = c.args.line.now in
    line_from l.number (c.from.result ∷ l.count ∷ l.found ∷ []) c.shown-cards.result.now
    ≡ line_at c
same_line c = let l = c.args.line.now in
    ap (λ (r : ℕ). line_from l.number (r ∷ l.count ∷ l.found ∷ []) c.shown-cards.result.now) c.from.ensures
    ∙ ap (line_from l.number (l.refusal ∷ l.count ∷ l.found ∷ [])) c.shown-cards.ensures.1
    ∙ line_parts l.number l.refusal l.count l.found (take l.found l.cards.now)

-- its length is what is counted
size : (c : After-row_places-2) →
    length (line_at c)
    ≡ c.places.result + c.row_places.result + c.row_places-2.result + 1
size c = let l = c.args.line.now in
    let parts = line_length l.number (c.from.result ∷ l.count ∷ l.found ∷ []) c.shown-cards.result.now in
    omega (
      arith,
      parts,
      ap length (same_line c),
      c.places.ensures.0,
      c.row_places.ensures.0,
      c.row_places-2.ensures.0,
    )

pub returns-then-out-size : goal.returns-then-out-size
returns-then-out-size c =
    let p = (goal.at.returns-then-out-size c).After-row_places-2 in
    sym (no_room_fitted (line_at p) c.args.out.now (omega (arith, size p)))

pub lay_line-requires : goal.lay_line-requires
lay_line-requires c =
    let p = (goal.at.lay_line-requires c).After-row_places-2 in
    omega (arith, size p, ap length (same_line p))

pub returns : goal.returns
returns c =
    let a = c.args in
    let p = (goal.at.returns c).After-row_places-2 in
    let same = same_line p in
    same_fitted
    (c.lay_line.ensures.0 ∙ ap length same)
    (c.lay_line.ensures.1 ∙ ap (λ (l : List ℕ). sets a.out.now 0 l) same)
    ∙ sym (into_room_fitted (line_at p) a.out.now (omega (arith, size p, c.if-out-size.false)))
