-- `below::gather::gather` meets its contract. This record's key is written, which leaves the children's turn; each turn
-- of the loop gathers what stands at or below one child. Assumes nothing.
use Rattle.std.specs.Prelude.{ℕ, ◌+◌, ◌-◌, ◌≤◌, ◌≡◌, List, ◌++◌, length}
use Rattle.std.proofs.Common.{sym, ap, ◌∙◌, arith, length-append}
use Rattle.table.specs.Record.{record_of}
use Rattle.table.specs.Same.{slots_length}
use Rattle.table.specs.Stands.{Stands, Walkable}
use Rattle.below.specs.Loop.Gather.{Gathered, slots_under, gathered}
use Rattle.below.proofs.Gathering
use Rattle.below.proofs.gather.+gather.Goals.{At-loop-k, After-child_of-c}
use Rattle.below.proofs.gather.+gather.Goals as goal

-- a record's children are among its slots
fits : (l : List ℕ) (a : ℕ) → Walkable l → Stands l a → (record_of l a).count ≤ length (record_of l a).slots
fits l a walkable stands = omega (arith, walkable.few a stands, slots_length l a)

-- this record's key is written: the loop's keys and what is left of the children's turn lead to what the contract says
on : (t : ℕ) (c : At-loop-k t) →
    let a = c.args in
    let R = record_of a.t.now in
    gathered R c.loop-k.keys c.loop-k.at (Gathering.rest_from R (a.left - 1) a.a c.loop-k.k)
    ≡ gathered R a.keys.now a.m (slots_under R a.left a.a)
on t c =
    let a = c.args in
    let R = record_of a.t.now in
    let rest = Gathering.rest_from R (a.left - 1) a.a 0 in
    c.loop-k.invariant
    ∙ ap (λ (l : List ℕ). gathered R l (a.m + 1) rest) c.note_key.ensures
    ∙ Gathering.gathered_first R a.keys.now a.m a.a rest
    ∙ ap (gathered R a.keys.now a.m) (sym (Gathering.under_first R a.left a.a c.if-left-eq0.false))

-- there is room for what is left
reach : (t : ℕ) (c : At-loop-k t) →
    let a = c.args in
    let R = record_of a.t.now in
    c.loop-k.at + length (Gathering.rest_from R (a.left - 1) a.a c.loop-k.k)
    ≡ a.m + length (slots_under R a.left a.a)
reach t c =
    let a = c.args in
    let R = record_of a.t.now in
    sym (Gathering.gathered_at R c.loop-k.keys c.loop-k.at (Gathering.rest_from R (a.left - 1) a.a c.loop-k.k))
    ∙ ap (λ (g : Gathered). g.at) (on t c)
    ∙ Gathering.gathered_at R a.keys.now a.m (slots_under R a.left a.a)

-- what is left is what stands at or below this child, and then the rest
more : (t : ℕ) (c : After-child_of-c t) →
    let a = c.args in
    let R = record_of a.t.now in
    Gathering.rest_from R (a.left - 1) a.a c.loop-k.k
    ≡ slots_under R (a.left - 1) c.child_of-c.result ++ Gathering.rest_from R (a.left - 1) a.a (c.loop-k.k + 1)
more t c =
    let a = c.args in
    Gathering.rest_more (record_of a.t.now) (a.left - 1) a.a c.loop-k.k c.child_of-c.result
    (fits a.t.now a.a c.requires.0 c.requires.1)
    (omega (arith, c.children_of-k-end.ensures, c.loop-k-test.true))
    c.child_of-c.ensures

pub returns-then-left-eq0 : goal.returns-then-left-eq0
returns-then-left-eq0 t c =
    let a = c.args in
    let R = record_of a.t.now in
    Gathering.gathered_none R a.keys.now a.m (slots_under R a.left a.a)
    (Gathering.under_end R a.left a.a c.if-left-eq0.true)

-- there is room for one key
pub note_key-requires : goal.note_key-requires
note_key-requires t c =
    let a = c.args in
    let p = c.requires in
    let first = Gathering.under_first (record_of a.t.now) a.left a.a c.if-left-eq0.false in
    (p.1, p.2, omega (arith, p.3, ap length first))

pub gather-at-requires : goal.gather-at-requires
gather-at-requires t c =
    let at = goal.at.gather-at-requires t c in
    let a = c.args in
    let R = record_of a.t.now in
    let p = c.requires in (
      omega arith,
      (
        p.0,
        rw c.child_of-c.ensures
            (p.0.stand a.a c.loop-k.k p.1 (omega (arith, c.children_of-k-end.ensures, c.loop-k-test.true))),
        p.2,
        omega (
          arith,
          ap length (more t at.After-child_of-c),
          length-append (slots_under R (a.left - 1) c.child_of-c.result)
              (Gathering.rest_from R (a.left - 1) a.a (c.loop-k.k + 1)),
          reach t at.At-loop-k,
          p.3,
        ),
      ),
    )

pub loop-k-preserved : goal.loop-k-preserved
loop-k-preserved t c =
    let l = c.loop-k in
    let a = c.args in
    let R = record_of a.t.now in
    let low = slots_under R (a.left - 1) c.child_of-c.result in
    let rest = Gathering.rest_from R (a.left - 1) a.a (l.k + 1) in
    ap (λ (g : Gathered). gathered R g.keys g.at rest) c.gather-at.ensures
    ∙ sym (Gathering.gathered_append R l.keys l.at low rest)
    ∙ ap (gathered R l.keys l.at) (sym (more t (goal.at.loop-k-preserved t c).After-child_of-c))
    ∙ l.invariant

pub returns : goal.returns
returns t c =
    let h = c.loop-k in
    let a = c.args in
    let R = record_of a.t.now in
    Gathering.gathered_none R h.keys h.at (Gathering.rest_from R (a.left - 1) a.a h.k)
    (Gathering.rest_end R (a.left - 1) a.a h.k (fits a.t.now a.a c.requires.0 c.requires.1)
    (omega (arith, c.children_of-k-end.ensures, c.loop-k-test.false)))
    ∙ on t (goal.at.returns t c).At-loop-k
