-- `links::look` meets its contract: a record that does not fit, or a second root, ends the look, a record without
-- card adds its slot, and any other its own numbers. Assumes nothing.
use Rattle.std.specs.Prelude.{ℕ, ◌+◌, Option, Some}
use Rattle.std.proofs.Common.{sym, ◌∙◌, arith, subst}
use Rattle.table.specs.Record.{Used, record_of, slot_told}
use Rattle.table.specs.Told.{told_some, told_none}
use Rattle.judge.specs.WellFormed.{is_root}
use Rattle.links.specs.declared.Seen.{Seen}
use Rattle.links.specs.Loop.Found.{OneBefore}
use Rattle.links.specs.Loop.Seen.{SeenBefore, with_used}
use Rattle.links.specs.Loop.Turn.{seen_free, seen_used, free_unfit, kind_unfit, record_unfit, root_still}
use Rattle.links.specs.Loop.Turn.{root_here, root_twice, told}
use Rattle.links.proofs.look.Goals.{After-parent_of, Else-card_of-eq0}
use Rattle.links.proofs.look.Goals as goal

-- the record in slot s is used where its fields are read
in_use : (c : Else-card_of-eq0) → Used ((record_of c.args.t.now) c.args.s)
in_use c = omega (arith, c.card_of.ensures, c.if-card_of-eq0.false)

-- a used record that fits is seen too, with the root where it then is
used_too : (c : After-parent_of) (root : Option ℕ)
    → OneBefore (is_root (record_of c.args.t.now)) (c.args.s + 1) root
    → SeenBefore c.args.n (record_of c.args.t.now) (c.args.s + 1)
    (with_used c.args.seen (record_of c.args.t.now c.args.s) root)
used_too c root = seen_used c.args.n (record_of c.args.t.now) c.args.s c.args.seen c.requires.3
    c.kind_of-kind.result
    root
    c.requires.2
    (omega (arith, c.card_of.ensures, c.if-card_of-eq0.false))
    c.kind_of-kind.ensures
    (omega (arith, c.unwrap_or.ensures, c.if-unwrap_or-kind.false))
    (sym c.record_ok.ensures ∙ c.if-not-record_ok.false)

pub returns-then-not-is_free : goal.returns-then-not-is_free
returns-then-not-is_free c =
    let free = told c.args.t.now c.args.s c.is_free.result c.is_free.ensures in
    let none = sym c.card_of.ensures ∙ c.if-card_of-eq0.true in
    free_unfit c.args.n (record_of c.args.t.now) c.args.s c.requires.2 none
    (sym free ∙ c.if-not-is_free.true)

pub returns-then-card_of-eq0 : goal.returns-then-card_of-eq0
returns-then-card_of-eq0 c =
    let free = told c.args.t.now c.args.s c.is_free.result c.is_free.ensures in
    let none = sym c.card_of.ensures ∙ c.if-card_of-eq0.true in
    subst
    (λ (seen : Seen). SeenBefore c.args.n (record_of c.args.t.now) (c.args.s + 1) seen)
    (sym c.with_free.ensures)
    (seen_free c.args.n (record_of c.args.t.now) c.args.s c.args.seen c.requires.3 c.requires.2 none
    (sym free ∙ c.if-not-is_free.false))

pub returns-then-unwrap_or-kind : goal.returns-then-unwrap_or-kind
returns-then-unwrap_or-kind c =
    kind_unfit c.args.n (record_of c.args.t.now) c.args.s c.args.seen c.requires.3
    c.kind_of-kind.result
    c.requires.2
    (in_use (goal.at.returns-then-unwrap_or-kind c).Else-card_of-eq0)
    c.kind_of-kind.ensures
    (λ e. omega (arith, e, c.unwrap_or.ensures, c.if-unwrap_or-kind.true))

pub returns-then-not-record_ok : goal.returns-then-not-record_ok
returns-then-not-record_ok c =
    record_unfit c.args.n (record_of c.args.t.now) c.args.s c.requires.2
    (in_use (goal.at.returns-then-not-record_ok c).Else-card_of-eq0)
    (sym c.record_ok.ensures ∙ c.if-not-record_ok.true)

pub returns-then-is_some : goal.returns-then-is_some
returns-then-is_some c =
    subst
    (λ (seen : Seen). SeenBefore c.args.n (record_of c.args.t.now) (c.args.s + 1) seen)
    (sym c.with_used.ensures)
    (used_too (goal.at.returns-then-is_some c).After-parent_of c.args.seen.root
    (root_still c.args.n (record_of c.args.t.now) c.args.s c.args.seen c.requires.3
    (slot_told c.parent_of.result)
    (in_use (goal.at.returns-then-is_some c).Else-card_of-eq0)
    c.parent_of.ensures.0
    (told_some c.parent_of.result c.parent_of.ensures.1 (sym c.is_some.ensures ∙ c.if-is_some.true))))

pub returns-then-is_some-2 : goal.returns-then-is_some-2
returns-then-is_some-2 c =
    root_twice c.args.n (record_of c.args.t.now) c.args.s c.args.seen c.requires.3
    (slot_told c.parent_of.result)
    c.requires.2
    (in_use (goal.at.returns-then-is_some-2 c).Else-card_of-eq0)
    c.parent_of.ensures.0
    (told_none c.parent_of.result (sym c.is_some.ensures ∙ c.if-is_some.false))
    (sym c.is_some-2.ensures ∙ c.if-is_some-2.true)

pub returns : goal.returns
returns c =
    subst
    (λ (seen : Seen). SeenBefore c.args.n (record_of c.args.t.now) (c.args.s + 1) seen)
    (sym c.with_used-2.ensures)
    (used_too (goal.at.returns c).After-parent_of (Some c.args.s)
    (root_here c.args.n (record_of c.args.t.now) c.args.s c.args.seen c.requires.3
    (slot_told c.parent_of.result)
    (in_use (goal.at.returns c).Else-card_of-eq0)
    c.parent_of.ensures.0
    (told_none c.parent_of.result (sym c.is_some.ensures ∙ c.if-is_some.false))
    (sym c.is_some-2.ensures ∙ c.if-is_some-2.false)))
